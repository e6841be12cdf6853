-- Every schedule ends, from every cluster that meets the invariant.
use Rattle.std.proofs.Common.{◌≡◌, ℕ, zero, suc, ◌<◌, ◌≤◌, List, [], ◌∷◌, Bool, true, false, refl, sym, ap, ◌∙◌, subst, arith, Some, None, ◌⊎◌, inl, inr, ⊎_elim}
use Rattle.gr_program.specs.Program.{Program}
use Rattle.gr_program.specs.ProgramLaws.{ProgramLaws}
use Rattle.gr_sched.specs.declared.event.Event.{Event}
use Rattle.gr_sched.specs.declared.event.Line.{Line}
use Rattle.gr_sched.specs.declared.event.Line.TheVariants as line
use Rattle.gr_cluster.specs.Tables.{Cluster}
use Rattle.gr_cluster.specs.Step.{step}
use Rattle.gr_cluster.specs.Canonical.{next_canonical}
use Rattle.gr_cluster.specs.Left.{left}
use Rattle.gr_cluster.specs.ToGo.{epochs_due}
use Rattle.gr_cluster.specs.Runs.{Position, is_commit, event_of, lines_after, next_event, position_by, next_position, position_after, IsWhole}
use Rattle.gr_agree.specs.Agree.{Invariant}
use Rattle.gr_lists.proofs.Tests.{by_option}
use Rattle.gr_law_runs.proofs.Ends.Events.{invariant-after}
use Rattle.gr_law_runs.proofs.Ends.Runs.{AllName}
use Rattle.gr_law_runs.proofs.Bounds.Nearer.{IsNearer, canonical-nearer}
use Rattle.gr_law_runs.proofs.Bounds.Short.{canonical-agrees}

-- a line that gives the canonical event while there is one, and then gives way to the next line
record IsRepeated (l : Line) : Type 0 where
  some_event : (e : Event) (ls : List Line) → event_of (Some e) (l ∷ ls) ≡ Some e
  some_lines : (e : Event) (b : Bool) (ls : List Line) → (lines_after (Some e) b (l ∷ ls) ≡ l ∷ ls) ⊎ (lines_after (Some e) b (l ∷ ls) ≡ ls)
  none_event : (ls : List Line) → event_of None (l ∷ ls) ≡ event_of None ls
  none_lines : (b : Bool) (ls : List Line) → lines_after None b (l ∷ ls) ≡ lines_after None b ls

settle-repeats : IsRepeated line.Settle
settle-repeats = record {
  some_event = λ e ls. refl;
  some_lines = λ e b ls. of b e ls;
  none_event = λ ls. refl;
  none_lines = λ b ls. refl;
}
  where
    of : (b : Bool) (e : Event) (ls : List Line) → (lines_after (Some e) b (line.Settle ∷ ls) ≡ line.Settle ∷ ls) ⊎ (lines_after (Some e) b (line.Settle ∷ ls) ≡ ls)
    of true e ls = inr refl
    of false e ls = inl refl

finish-repeats : IsRepeated line.Finish
finish-repeats = record {
  some_event = λ e ls. refl;
  some_lines = λ e b ls. inl refl;
  none_event = λ ls. refl;
  none_lines = λ b ls. refl;
}

module _ {V A : Type 0} (P : Program V A) where
  abbrev Ends : Position V A → Type 0
  Ends s = (n : ℕ) × IsWhole (position_after P n s)

  abbrev at : Cluster V A → List Line → Position V A
  at c ls = record { cluster = c; lines = ls }

  ends-now : (s : Position V A) → IsWhole s → Ends s
  unfolding position_after
  ends-now s whole = (0, whole)

  ends-next : (s : Position V A) → Ends (next_position P s) → Ends s
  unfolding position_after
  ends-next s E = (suc E.0, E.1)

  -- where something comes next, it ends after that
  later : (s : Position V A) (e : Event) → next_event s ≡ Some e → (n : ℕ) → IsWhole (position_after P n s) → Ends (next_position P s)
  unfolding position_after
  later s e is zero whole = absurd (let bad : Some e ≡ None = sym is ∙ whole in cc)
  later s e is (suc n) whole = (n, whole)

  -- where a step brings two positions to the same one, both end
  ends-as : (s r : Position V A) (e : Event) → next_event r ≡ Some e → next_position P s ≡ next_position P r → Ends r → Ends s
  ends-as s r e is same E = ends-next s (subst Ends (sym same) (later r e is E.0 E.1))

  module _ (l : Line) (R : IsRepeated l) (ls : List Line) where
    -- the canonical event comes
    goes-on : (c : Cluster V A) (e : Event) → next_canonical c ≡ Some e
        → next_position P (at c (l ∷ ls)) ≡ at (step P c e).0 (lines_after (Some e) (is_commit (step P c e).1) (l ∷ ls))
    unfolding next_position next_event
    goes-on c e is =
        ap (position_by P (at c (l ∷ ls))) (ap (λ o. event_of o (l ∷ ls)) is ∙ R.some_event e ls)
        ∙ ap (λ o. at (step P c e).0 (lines_after o (is_commit (step P c e).1) (l ∷ ls))) is

    -- there is none, and the line gives way
    same-event : (c : Cluster V A) → next_canonical c ≡ None → next_event (at c (l ∷ ls)) ≡ next_event (at c ls)
    unfolding next_event
    same-event c none = ap (λ o. event_of o (l ∷ ls)) none ∙ (R.none_event ls ∙ ap (λ o. event_of o ls) (sym none))

    same-next : (c : Cluster V A) (e : Event) → next_canonical c ≡ None → next_event (at c ls) ≡ Some e → next_position P (at c (l ∷ ls)) ≡ next_position P (at c ls)
    unfolding next_position
    same-next c e none is =
        let b = is_commit (step P c e).1 in
        ap (position_by P (at c (l ∷ ls))) (same-event c none ∙ is)
        ∙ (ap (at (step P c e).0) (ap (λ o. lines_after o b (l ∷ ls)) none ∙ (R.none_lines b ls ∙ ap (λ o. lines_after o b ls) (sym none)))
        ∙ ap (position_by P (at c ls)) (sym is))

    gives-way : (c : Cluster V A) → next_canonical c ≡ None → Ends (at c ls) → Ends (at c (l ∷ ls))
    gives-way c none E = by_option (next_event (at c ls))
        (λ whole. ends-now (at c (l ∷ ls)) (same-event c none ∙ whole))
        (λ e is. ends-as (at c (l ∷ ls)) (at c ls) e is (same-next c e none is) E)

    module _ (L : ProgramLaws P) (rest : (c : Cluster V A) → Invariant P c → Ends (at c ls)) where
      abbrev EndsHere : Cluster V A → Type 0
      EndsHere c = Invariant P c → Ends (at c (l ∷ ls))

      -- it ends where it does from each cluster that is nearer to the end
      from-nearer : (c : Cluster V A) → ((d : Cluster V A) → IsNearer c d → EndsHere d) → EndsHere c
      from-nearer c nearer I = by_option (next_canonical c)
          (λ none. gives-way c none (rest c I))
          (λ e is.
          let d = (step P c e).0 in let K = canonical-agrees P L c e I is in
          ends-next (at c (l ∷ ls)) (subst Ends (sym (goes-on c e is)) (⊎_elim
          (λ stays. subst (λ rs. Ends (at d rs)) (sym stays) (nearer d (canonical-nearer P L c e I is) K))
          (λ gone. subst (λ rs. Ends (at d rs)) (sym gone) (rest d K))
          (R.some_lines e (is_commit (step P c e).1) ls))))

      -- in one epoch
      within : (k : ℕ) → ((c : Cluster V A) → epochs_due c < k → EndsHere c) → (m : ℕ) (c : Cluster V A) → epochs_due c ≤ k → left c < m → EndsHere c
      within k sooner zero c due few = absurd (omega (arith, few))
      within k sooner (suc m) c due few = from-nearer c (λ d near. ⊎_elim
          (λ lt. sooner d (omega (arith, lt, due)))
          (λ less. let fewer = less.0 in let lower = less.1 in within k sooner m d (omega (arith, fewer, due)) (omega (arith, lower, few)))
          near)

      through : (k : ℕ) (c : Cluster V A) → epochs_due c < k → EndsHere c
      through zero c due = absurd (omega (arith, due))
      through (suc k) c due = within k (through k) (suc (left c)) c (omega (arith, due)) (omega arith)

      repeated-ends : (c : Cluster V A) → EndsHere c
      repeated-ends c = through (suc (epochs_due c)) c (omega arith)

  module _ (L : ProgramLaws P) where
    no-lines : (c : Cluster V A) → IsWhole (at c [])
    unfolding next_event
    no-lines c = refl

    one-event : (c : Cluster V A) (e : Event) (ls : List Line) → next_position P (at c (line.Step e ∷ ls)) ≡ at (step P c e).0 ls
    unfolding next_position next_event
    one-event c e ls = refl

    pub run-ends : (ls : List Line) → AllName ls → (c : Cluster V A) → Invariant P c → Ends (at c ls)
    run-ends [] names c I = ends-now (at c []) (no-lines c)
    run-ends (line.Step e ∷ ls) names c I =
        ends-next (at c (line.Step e ∷ ls)) (subst Ends (sym (one-event c e ls)) (run-ends ls names.1 (step P c e).0 (invariant-after P L I.0 c I.1 e names.0).0))
    run-ends (line.Settle ∷ ls) names c I = repeated-ends line.Settle settle-repeats ls L (run-ends ls names.1) c I
    run-ends (line.Finish ∷ ls) names c I = repeated-ends line.Finish finish-repeats ls L (run-ends ls names.1) c I
