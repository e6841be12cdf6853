use Rattle.std.proofs.Common.{List, ℕ, Some, sym, ap, ◌∙◌, rules, inl, inr, Contains, subst}
use Rattle.gr_outside.specs.Files.{bytes_of}
use Rattle.gr_outside.proofs.Loaded.{told-other, whole-found, part-found}
use Rattle.gr_outside.proofs.NamedFiles.{bytes_of-read, bytes_of-absent}
use Rattle.gr_outside.proofs.memory_files.MemoryFilesFiles.load.Goals as goal
use Rattle.gr_outside.proofs.memory_files.MemoryFilesFiles.load.Goals.{in_default-via-in-Some+else-not-fails, in_default-via-in_default}

pub returns-in_default-clause-failed : goal.returns-in_default-clause-failed
returns-in_default-clause-failed c = λ is. elim c.in_default.branch [
  | in_default-via-in-Some+else-not-fails w ↦
      let listed : Contains c.as_slice.result.now c.saturating_add-self-inside.result = c.is_listed-fails.ensures.0 (search rules) in
      inl (rw (← c.self.view_is) (subst (λ (l : List ℕ). Contains l c.saturating_add-self-inside.result) c.as_slice.ensures listed))
  | in_default-via-in_default w ↦ inr (rw (← c.self.view_is) (bytes_of-absent c.self.inside.files.items c.args.name.now (search rules)))
]

pub returns-clause-loads : goal.returns-clause-loads
returns-clause-loads c =
    let fs = c.self.inside.files.items in
    let found = bytes_of-read fs c.args.name.now c.in-Some.i (cc (c.in-Some.ensures, c.deref.ensures.value)) c.index.result.now c.index.ensures ∙ ap Some (sym c.bytes.ensures) in
    record {
      whole = rw (← c.self.view_is) (whole-found c.take_up_to-result.result c.args.limit _ _ (bytes_of fs c.args.name.now) found c.take_up_to-result.ensures.whole);
      part = rw (← c.self.view_is) (part-found c.take_up_to-result.result _ _ (bytes_of fs c.args.name.now) found c.take_up_to-result.ensures.part);
      within = search rules;
      too_long = search rules;
      faults = search rules;
      long = search rules;
      writes = search rules;
      begun = search rules;
      told = rw (← c.self.view_is) (told-other _ _ _ c.take_up_to-result.ensures.failed);
    }

pub returns-clause-absent : goal.returns-clause-absent
returns-clause-absent c = λ none.
    let fs = c.self.inside.files.items in
    let found = bytes_of-read fs c.args.name.now c.in-Some.i (cc (c.in-Some.ensures, c.deref.ensures.value)) c.index.result.now c.index.ensures in
    let absent = rw (← c.self.view_is) at none in
    absurd (cc (found, absent))
