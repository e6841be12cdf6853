-- What is added to a trace over several calls.
use Rattle.std.proofs.Common.{◌≡◌, ◌≤◌, ℕ, ◌+◌, ◌-◌, List, [], ◌++◌, length, take, drop, Bool, true, false, refl, sym, ap, ◌∙◌, subst, arith, append_assoc, length-drop, Option, Some, None, Bor}
use Rattle.std.specs.Option.{option_copied}
use Rattle.std.specs.Prelude.{is_some, IsSome, IfSome, Ok, Err}
use Rattle.std.proofs.lemmas.List.{append-nil, drop-take, drop-drop, take-take, take_all, take-append-drop}
use Rattle.gr_outside.specs.declared.faults.FileFault.{FileFault}
use Rattle.gr_outside.specs.Files.{FilesSeen, HasWritten}
use Rattle.gr_outside.specs.FileCalls.{Extends}
use Rattle.gr_outside.proofs.Written.{told-grows, told-refused}
use Rattle.gr_play.specs.Inside.Adding.{GainsTrace, Adds}
use Rattle.gr_play.specs.Tracing.{Traces, TracesPart}

pub GainsTrace-nothing : (a : FilesSeen) → GainsTrace a a []
GainsTrace-nothing a base name had held = subst (Traces base a name) (sym (append-nil had)) held

pub GainsTrace-trans : (a b c : FilesSeen) (xs ys : List ℕ) → GainsTrace a b xs → GainsTrace b c ys → GainsTrace a c (xs ++ ys)
GainsTrace-trans a b c xs ys first then base name had held = subst (Traces base c name) (append_assoc had xs ys) (then base name (had ++ xs) (first base name had held))

pub Adds-nothing : (traced : Bool) (a b : FilesSeen) → b ≡ a → Adds traced a b []
Adds-nothing traced a b same = subst (λ x. Adds traced a x []) (sym same) (record {
  gained = λ _. GainsTrace-nothing a;
  untraced = λ _. refl;
  begun = refl;
  loads = record { load_faults = refl; long_loads = refl };
  later = omega arith;
})

pub Adds-trans : (traced : Bool) (a b c : FilesSeen) (xs ys : List ℕ) → Adds traced a b xs → Adds traced b c ys → Adds traced a c (xs ++ ys)
Adds-trans traced a b c xs ys first then = record {
  gained = λ t. GainsTrace-trans a b c xs ys (first.gained t) (then.gained t);
  untraced = λ n. then.untraced n ∙ first.untraced n;
  begun = then.begun ∙ first.begun;
  loads = record {
    load_faults = (then.loads).load_faults ∙ (first.loads).load_faults;
    long_loads = (then.loads).long_loads ∙ (first.loads).long_loads;
  };
  later = let l = first.later in let m = then.later in omega (arith, l, m);
}

-- one append adds the bytes that it took
pub Extends-adds : (a b : FilesSeen) (bytes : List ℕ) (n : ℕ) → Extends a b bytes (Ok n) → Adds true a b (take n bytes)
Extends-adds a b bytes n E = record {
  gained = λ _ base name had held. told-grows base.told a.told b.told name had (take n bytes) held E.gained;
  untraced = λ t. absurd (cc);
  begun = E.begun;
  loads = record { load_faults = (E.counts).loads; long_loads = (E.counts).long };
  later = ((E.counts).faults).later;
}

-- an append that fails adds nothing
pub Extends-refused : (a b : FilesSeen) (bytes : List ℕ) (f : FileFault) → Extends a b bytes (Err f) → Adds true a b []
Extends-refused a b bytes f E = record {
  gained = λ _ base name had held.
      subst (Traces base b name) (sym (append-nil had)) (told-refused base.told a.told b.told (λ t u. HasWritten t name had u) held E.refused);
  untraced = λ t. absurd (cc);
  begun = E.begun;
  loads = record { load_faults = (E.counts).loads; long_loads = (E.counts).long };
  later = ((E.counts).faults).later;
}

take-more : (n m : ℕ) (bytes : List ℕ) → take n bytes ++ take m (drop n bytes) ≡ take (n + m) bytes
take-more n m bytes = sym (λ i. take-take n (n + m) bytes (omega arith) i ++ drop-take n m bytes i) ∙ take-append-drop n (take (n + m) bytes)

-- a call took m bytes of those that n before it left
pub Adds-more : (a b c : FilesSeen) (bytes rest : List ℕ) (n m : ℕ) → n ≤ length bytes → rest ≡ drop n bytes → m ≤ length rest → Adds true a b (take n bytes) → Adds true b c (take m rest)
    → (k : ℕ) × (k ≤ length bytes) × (take (length rest - m) (drop m rest) ≡ drop k bytes) × Adds true a c (take k bytes)
Adds-more a b c bytes rest n m le is within first then =
    let all = Adds-trans true a b c (take n bytes) (take m (drop n bytes)) first (subst (λ (r : List ℕ). Adds true b c (take m r)) is then) in (
      n + m,
      omega (arith, ap length is, length-drop n bytes),
      take_all (length rest - m) (drop m rest) (omega (arith, length-drop m rest)) ∙ ap (λ (r : List ℕ). drop m r) is ∙ drop-drop m n bytes,
      subst (λ (l : List ℕ). Adds true a c l) (take-more n m bytes) all,
    )

-- a first part of a text was added to a trace that was begun anew
pub part-traced : (o : Option (Bor (List ℕ))) (a m b : FilesSeen) (n : ℕ) (text : List ℕ) → IfSome (option_copied o) (λ name. Traces a m name []) → (IsSome o → m.is_begun ≡ true)
    → Adds (is_some o) m b (take n text) → IfSome (option_copied o) (λ name. TracesPart a b name text)
part-traced None a m b n text begun is added = tt
part-traced (Some x) a m b n text begun is added = record {
  begun = λ _. (n, added.gained refl a x.now [] begun);
  not_begun = λ off. absurd (let bad : false ≡ true = sym off ∙ (added.begun ∙ is refl) in cc);
}
