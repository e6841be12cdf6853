-- What the steps of a schedule keep that disturbs nothing.
use Rattle.std.proofs.Common.{◌≡◌, ℕ, zero, suc, List, [], ◌∷◌, true, refl, sym, ap, ◌∙◌, Option, Some, None}
use Rattle.std.specs.Prelude.{IsTrue}
use Rattle.std.specs.List.{find, AllByRecursion as Each}
use Rattle.gr_base.specs.declared.records.Edge.{Edge}
use Rattle.gr_base.specs.Places.{below}
use Rattle.gr_program.specs.Program.{Program}
use Rattle.gr_program.specs.ProgramLaws.{ProgramLaws}
use Rattle.gr_batch.specs.declared.batch.Batch.{Batch}
use Rattle.gr_sched.specs.declared.event.Event.{Event}
use Rattle.gr_sched.specs.declared.event.Line.{Line}
use Rattle.gr_view.specs.declared.coordinator.Mode.TheVariants as mode
use Rattle.gr_view.specs.Modes.{is_over}
use Rattle.gr_cluster.specs.Tables.{Cluster, host}
use Rattle.gr_cluster.specs.Todo.{can_work}
use Rattle.gr_cluster.specs.Load.{Setting, load}
use Rattle.gr_cluster.specs.Step.{step}
use Rattle.gr_cluster.specs.Canonical.{canonical_work, canonical_among, next_canonical}
use Rattle.gr_cluster.specs.Runs.{Position, is_commit, next_event, next_position, position_by, position_after}
use Rattle.gr_agree.specs.Accepted.{IsGraph, IsSetting}
use Rattle.gr_lists.proofs.Tests.{by_test}
use Rattle.gr_law_runs.specs.Runs.{HasResult, scheduled}
use Rattle.gr_law_runs.specs.Undisturbed.{is_plain, is_plain_line, is_undisturbed}
use Rattle.gr_law_runs.proofs.Runs.Plain.{IsUndisturbed, no-rebuild, step-undisturbed}
use Rattle.gr_law_runs.proofs.Runs.Lines.{event-meets, lines-meet}
use Rattle.gr_law_runs.proofs.Runs.Results.{load-undisturbed, undisturbed-result}

module _ {V A : Type 0} (c : Cluster V A) (calm : is_undisturbed c.coordinator.mode ≡ true) where
  work-plain : (o : Option ℕ) → is_plain (canonical_work c o) ≡ true
  work-plain (Some p) = refl
  work-plain None = rw (no-rebuild c.coordinator.mode calm).1 refl

  among-plain : (bs : List (Batch V A)) → is_plain (canonical_among c bs) ≡ true
  among-plain (b ∷ bs) = refl
  among-plain [] = work-plain (find (λ p. can_work c.coordinator p (host c p)) (below c.places))

  -- where nothing disturbs, the canonical event disturbs nothing
  pub canonical-plain : (e : Event) → next_canonical c ≡ Some e → is_plain e ≡ true
  unfolding next_canonical
  canonical-plain e is = by_test (is_over c.coordinator.mode)
      (λ o. absurd (let is' : None ≡ Some e = rw o at is in cc))
      (λ o. let is' : Some (canonical_among c c.flight) ≡ Some e = rw o at is in
      let same : canonical_among c c.flight ≡ e = cc in sym (ap is_plain same) ∙ among-plain c.flight)

abbrev AllPlain : List Line → Type 0
AllPlain ls = Each (λ l. IsTrue (is_plain_line l)) ls

-- the canonical event, where there is one, disturbs nothing
abbrev PlainIfSome : Option Event → Type 0
PlainIfSome o = (e : Event) → o ≡ Some e → is_plain e ≡ true

module _ {V A : Type 0} (P : Program V A) (L : ProgramLaws P) (es : List Edge) (vs : List ℕ) (limit : ℕ) where
  -- the cluster is undisturbed, and so are the lines that are left
  pub record CalmAt (s : Position V A) : Type 0 where
    pub cluster : IsUndisturbed P es vs limit s.cluster
    pub lines : AllPlain s.lines

  by-calm : (s : Position V A) → CalmAt s → (o : Option Event) → PlainIfSome o → CalmAt (position_by P s o)
  by-calm s C None h = C
  by-calm s C (Some e) h = record {
    cluster = step-undisturbed P L es vs limit s.cluster C.cluster e (h e refl);
    lines = lines-meet (λ l. IsTrue (is_plain_line l)) (next_canonical s.cluster) (is_commit (step P s.cluster e).1) s.lines C.lines;
  }

  pub next-calm : (s : Position V A) → CalmAt s → CalmAt (next_position P s)
  unfolding next_position next_event
  next-calm s C = by-calm s C (next_event s) (event-meets (λ e. is_plain e ≡ true) (λ l. IsTrue (is_plain_line l)) (λ e plain. plain) (next_canonical s.cluster) (canonical-plain s.cluster (C.cluster).mode) s.lines C.lines)

  pub after-calm : (n : ℕ) (s : Position V A) → CalmAt s → CalmAt (position_after P n s)
  unfolding position_after
  after-calm zero s C = C
  after-calm (suc n) s C = after-calm n (next_position P s) (next-calm s C)

module _ {V A : Type 0} (P : Program V A) (L : ProgramLaws P) (s : Setting) (es : List Edge) (vs : List ℕ) (IS : IsSetting s) (IG : IsGraph es vs) where
  pub schedule-result : (ls : List Line) → AllPlain ls → (n : ℕ) → (scheduled P s es vs ls n).coordinator.mode ≡ mode.Done → HasResult P es vs s.limit (scheduled P s es vs ls n)
  schedule-result ls plain n done =
      undisturbed-result P es vs s.limit (scheduled P s es vs ls n)
      (after-calm P L es vs s.limit n (record { cluster = load P s es vs; lines = ls }) (record { cluster = load-undisturbed P L s es vs IS IG; lines = plain })).cluster done
