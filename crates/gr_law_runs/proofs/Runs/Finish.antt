-- A whole run whose last line is `finish` is over.
use Rattle.std.proofs.Common.{◌≡◌, ℕ, zero, suc, List, [], ◌∷◌, ◌++◌, Bool, true, false, refl, sym, ◌∙◌, Option, Some, None, subst, ◌⊎◌, inl, inr}
use Rattle.gr_program.specs.Program.{Program}
use Rattle.gr_sched.specs.declared.event.Event.{Event}
use Rattle.gr_sched.specs.declared.event.Line.{Line}
use Rattle.gr_sched.specs.declared.event.Line.TheVariants as line
use Rattle.gr_view.specs.Modes.{is_over}
use Rattle.gr_cluster.specs.Tables.{Cluster}
use Rattle.gr_cluster.specs.Step.{step}
use Rattle.gr_cluster.specs.Canonical.{canonical_among, next_canonical}
use Rattle.gr_cluster.specs.Runs.{Position, is_commit, event_of, lines_after, next_event, next_position, position_by, position_after, IsWhole}
use Rattle.gr_lists.proofs.Tests.{by_test, by_option}

-- the last of these lines is `finish`
pub record EndsInFinish (ls : List Line) : Type 0 where
  pub before : List Line
  pub is : ls ≡ before ++ line.Finish ∷ []

-- while something comes next, it stays the last
after-ends : (e : Event) (b : Bool) (before : List Line) → EndsInFinish (lines_after (Some e) b (before ++ line.Finish ∷ []))
after-ends e b [] = record { before = []; is = refl }
after-ends e b (line.Step d ∷ ls) = record { before = ls; is = refl }
after-ends e true (line.Settle ∷ ls) = record { before = ls; is = refl }
after-ends e false (line.Settle ∷ ls) = record { before = line.Settle ∷ ls; is = refl }
after-ends e b (line.Finish ∷ ls) = record { before = line.Finish ∷ ls; is = refl }

some-event : (e : Event) (before : List Line) → event_of (Some e) (before ++ line.Finish ∷ []) ≡ None → ⊥
some-event e [] h = cc
some-event e (line.Step d ∷ ls) h = cc
some-event e (line.Settle ∷ ls) h = cc
some-event e (line.Finish ∷ ls) h = cc

module _ {V A : Type 0} (c : Cluster V A) where
  -- nothing comes next of itself only where the run is over
  pub none-over : next_canonical c ≡ None → is_over c.coordinator.mode ≡ true
  unfolding next_canonical
  none-over n = by_test (is_over c.coordinator.mode) (λ o. o) (λ o. absurd (let n' : Some (canonical_among c c.flight) ≡ None = rw o at n in cc))

module _ {V A : Type 0} (P : Program V A) where
  -- the run is over, or its last line is still to come
  abbrev pub Finishes : Position V A → Type 0
  Finishes s = EndsInFinish s.lines ⊎ (is_over s.cluster.coordinator.mode ≡ true)

  by-over : (s : Position V A) (o : Option Event) → is_over s.cluster.coordinator.mode ≡ true → is_over (position_by P s o).cluster.coordinator.mode ≡ true
  unfolding step
  by-over s None h = h
  by-over s (Some e) h = rw h h

  by-ends : (s : Position V A) (d : Event) (o : Option Event) → next_canonical s.cluster ≡ Some d → EndsInFinish s.lines → EndsInFinish (position_by P s o).lines
  by-ends s d None is E = E
  by-ends s d (Some e) is E =
      let b = is_commit (step P s.cluster e).1 in
      subst EndsInFinish (λ i. lines_after (sym is i) b (sym E.is i)) (after-ends d b E.before)

  next-finishes : (s : Position V A) → Finishes s → Finishes (next_position P s)
  unfolding next_position
  next-finishes s F = by_option (next_canonical s.cluster)
      (λ n. inr (by-over s (next_event s) (none-over s.cluster n)))
      (λ d is. elim F [ inl E ↦ inl (by-ends s d (next_event s) is E) | inr o ↦ inr (by-over s (next_event s) o) ])

  pub after-finishes : (n : ℕ) (s : Position V A) → Finishes s → Finishes (position_after P n s)
  unfolding position_after
  after-finishes zero s F = F
  after-finishes (suc n) s F = after-finishes n (next_position P s) (next-finishes s F)

  pub whole-over : (s : Position V A) → Finishes s → IsWhole s → is_over s.cluster.coordinator.mode ≡ true
  unfolding next_event
  whole-over s F whole = elim F [
    | inl E ↦ by_option (next_canonical s.cluster)
        (λ n. none-over s.cluster n)
        (λ d is. absurd (some-event d E.before ((λ i. event_of (sym is i) (sym E.is i)) ∙ whole)))
    | inr o ↦ o
  ]
