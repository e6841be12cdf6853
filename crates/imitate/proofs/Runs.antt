-- Whole runs: two of one plan end alike, one whose last line is `finish` does not end early, and the steps of each are a run.
use Rattle.std.proofs.Common.{◌≡◌, ◌∙◌, ℕ, zero, suc, List, [], ◌∷◌, ◌++◌, length, true, Option, refl, sym, ap, subst, inl}
use Rattle.gr_program.specs.Program.{Program}
use Rattle.gr_sched.specs.declared.event.Event.{Event}
use Rattle.gr_sched.specs.declared.event.Line.{Line}
use Rattle.gr_sched.specs.declared.event.Line.TheVariants as line
use Rattle.gr_view.specs.declared.coordinator.Mode.{Mode}
use Rattle.gr_view.specs.declared.coordinator.Mode.TheVariants as mode
use Rattle.gr_view.specs.Modes.{is_over}
use Rattle.gr_cluster.specs.Tables.{Cluster}
use Rattle.gr_cluster.specs.Step.{step}
use Rattle.gr_cluster.specs.Runs.{Position, Played, position_by, next_event, next_position, position_after, played_by, steps_of, IsWhole, IsRun}
use Rattle.gr_cluster.specs.Ending as cluster
use Rattle.gr_lists.proofs.Tests.{by_option}
use Rattle.gr_law_runs.proofs.Runs.Finish.{after-finishes, whole-over}
use Rattle.imitate.specs.declared.ended.Ended.TheVariants as ended
use Rattle.imitate.specs.Reading.{Plan}
use Rattle.imitate.specs.Running.{ended_by, stands_after, program_in, begin, IsWholeAfter, run_end}

module _ {V A : Type 0} (P : Program V A) where
  -- a run that has no further step stays where it is
  whole-stays : (n : ℕ) (s : Position V A) → IsWhole s → position_after P n s ≡ s
  unfolding position_after next_position
  whole-stays zero s whole = refl
  whole-stays (suc n) s whole = ap (λ (t : Position V A). position_after P n t) (ap (position_by P s) whole) ∙ whole-stays n s whole

  pub whole-same : (n m : ℕ) (s : Position V A) → IsWhole (position_after P n s) → IsWhole (position_after P m s) → position_after P n s ≡ position_after P m s
  unfolding position_after
  whole-same zero m s w v = sym (whole-stays m s w)
  whole-same (suc n) zero s w v = whole-stays (suc n) s v
  whole-same (suc n) (suc m) s w v = whole-same n m (next_position P s) w v

  -- the steps of a run that is whole after so many
  pub run-of : (n : ℕ) (s : Position V A) → IsWhole (position_after P n s) → IsRun P s (steps_of P n s) (position_after P n s).cluster
  unfolding position_after steps_of next_position
  run-of zero s whole = record { steps = refl; last = refl; whole = whole }
  run-of (suc n) s whole = by_option (next_event s)
      (λ none.
      let stays : position_after P (suc n) s ≡ s = whole-stays (suc n) s none in
      let stop : IsRun P s [] s.cluster = record { steps = refl; last = refl; whole = none } in
      let here : IsRun P s [] (position_after P (suc n) s).cluster = subst (λ (t : Position V A). IsRun P s [] t.cluster) (sym stays) stop in
      subst (λ (ps : List (Played V A)). IsRun P s ps (position_after P (suc n) s).cluster) (sym (ap (λ (o : Option Event). played_by P s o (steps_of P n (next_position P s))) none)) here)
      (λ e some.
      let later = run-of n (next_position P s) whole in
      let ps = steps_of P n (next_position P s) in
      let first : Played V A = record { event = e; outcome = (step P s.cluster e).1 } in
      let begun : (rest : List (Played V A)) → played_by P s (next_event s) rest ≡ first ∷ rest = λ rest. ap (λ (o : Option Event). played_by P s o rest) some in
      let run : IsRun P s (first ∷ ps) (position_after P n (next_position P s)).cluster = record {
        steps = ap (λ (l : List (Played V A)). first ∷ l) later.steps ∙ sym (begun (steps_of P (length ps) (next_position P s)));
        last = later.last;
        whole = later.whole;
      } in
      subst (λ (l : List (Played V A)). IsRun P s l (position_after P n (next_position P s)).cluster) (sym (begun ps)) run)

run_end-same : (plan : Plan) (n m : ℕ) → IsWholeAfter plan n → IsWholeAfter plan m → run_end plan n ≡ run_end plan m
run_end-same plan n m w v =
    ap (λ (s : Position (program_in plan).Value (program_in plan).Sum). ended_by (cluster.ending_of s.cluster)) (whole-same (program_in plan).program n m (begin plan) w v)

-- so do those of plans that are the same
pub run_end-met : (p q : Plan) → p ≡ q → (n m : ℕ) → IsWholeAfter p n → IsWholeAfter q m → run_end p n ≡ run_end q m
run_end-met p q same n m w v = subst (λ (r : Plan). IsWholeAfter r m → run_end p n ≡ run_end r m) same (λ u. run_end-same p n m w u) v

over-late : {V A : Type 0} (c : Cluster V A) (m : Mode) → is_over m ≡ true → ended_by (cluster.ending_by c m) ≡ ended.Early → ⊥
over-late c mode.Done o e = cc
over-late c mode.Lost o e = cc
over-late c mode.Running o e = cc
over-late c mode.Failed o e = cc
over-late c mode.Recovering o e = cc
over-late c mode.Repairing o e = cc

pub finish-late : (plan : Plan) (before : List Line) → plan.lines ≡ before ++ line.Finish ∷ [] → (steps : ℕ) → IsWholeAfter plan steps → run_end plan steps ≡ ended.Early → ⊥
finish-late plan before is steps whole early =
    let P = (program_in plan).program in
    let last = stands_after (program_in plan) (begin plan) steps in
    over-late last.cluster last.cluster.coordinator.mode (whole-over P last (after-finishes P steps (begin plan) (inl (record { before = before; is = is }))) whole) early
