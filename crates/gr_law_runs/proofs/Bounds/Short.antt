-- `finish` plays events in few stretches beside one for each round that it commits.
use Rattle.std.proofs.Common.{◌≡◌, ℕ, zero, suc, ◌+◌, ◌≤◌, List, [], ◌∷◌, Bool, true, false, cond, max, length, refl, ap, ◌∙◌, subst, sym, arith, Some, None, le_refl, ⊎_elim, if◌then◌else◌}
use Rattle.std.specs.Option.{option_or}
use Rattle.std.proofs.Math.Nat.{max-le}
use Rattle.std.proofs.lemmas.Bool.{cases_lt}
use Rattle.gr_program.specs.Program.{Program}
use Rattle.gr_program.specs.ProgramLaws.{ProgramLaws}
use Rattle.gr_sched.specs.declared.event.Event.{Event}
use Rattle.gr_sched.specs.declared.event.Line.TheVariants as line
use Rattle.gr_view.specs.declared.coordinator.Mode.{Mode}
use Rattle.gr_view.specs.declared.coordinator.Mode.TheVariants as mode
use Rattle.gr_view.specs.Modes.{is_over}
use Rattle.gr_cluster.specs.Tables.{Cluster}
use Rattle.gr_cluster.specs.Step.{step}
use Rattle.gr_cluster.specs.Canonical.{next_canonical}
use Rattle.gr_cluster.specs.Runs.{Position, Played, is_commit, lines_after, next_event, position_by, next_position, position_after, played_by, steps_of, IsWhole, IsRun}
use Rattle.gr_cluster.specs.ToGo.{epochs_of, somebody_down, epochs_left}
use Rattle.gr_agree.specs.Agree.{Invariant}
use Rattle.gr_agree.specs.Bounds.{finishing, opens_epoch, stretches}
use Rattle.gr_lists.proofs.Tests.{by_test, by_option}
use Rattle.gr_law_runs.proofs.Runs.Finish.{none-over}
use Rattle.gr_law_runs.proofs.Left.Canonical.{canonical-goes_on}
use Rattle.gr_law_runs.proofs.Left.Counts.{step-counts}
use Rattle.gr_law_runs.proofs.Left.Told.{step-told}
use Rattle.gr_law_runs.proofs.Inside.Mode.{ends-failed}
use Rattle.gr_law_runs.proofs.Ends.Events.{invariant-after}
use Rattle.gr_law_runs.proofs.Ends.Runs.{canonical-names}
use Rattle.gr_law_runs.proofs.Bounds.Epochs.{few-epochs}
use Rattle.gr_law_runs.proofs.Bounds.Spending.{canonical-spends}

module _ {V A : Type 0} (P : Program V A) where
  -- ---- the steps of `finish`

  -- it gives the canonical event, and stays where there is none
  finish-goes_on : (c : Cluster V A) (e : Event) → next_canonical c ≡ Some e → next_position P (finishing c) ≡ finishing (step P c e).0
  unfolding next_position next_event
  finish-goes_on c e is =
      ap (λ o. position_by P (finishing c) (option_or o None)) is
      ∙ ap (λ o. record { cluster = (step P c e).0; lines = lines_after o (is_commit (step P c e).1) (line.Finish ∷ []) }) is

  pub after-goes_on : (c : Cluster V A) (e : Event) (n : ℕ) → next_canonical c ≡ Some e → position_after P (suc n) (finishing c) ≡ position_after P n (finishing (step P c e).0)
  unfolding position_after
  after-goes_on c e n is = ap (position_after P n) (finish-goes_on c e is)

  after-stops : (c : Cluster V A) (n : ℕ) → next_canonical c ≡ None → position_after P (suc n) (finishing c) ≡ position_after P n (finishing c)
  unfolding position_after next_position next_event
  after-stops c n none = ap (λ o. position_after P n (position_by P (finishing c) (option_or o None))) none

  pub steps-go_on : (c : Cluster V A) (e : Event) (n : ℕ) → next_canonical c ≡ Some e
      → steps_of P (suc n) (finishing c) ≡ record { event = e; outcome = (step P c e).1 } ∷ steps_of P n (finishing (step P c e).0)
  unfolding steps_of next_event
  steps-go_on c e n is = let next = finish-goes_on c e is in λ i. played_by P (finishing c) (option_or (is i) None) (steps_of P n (next i))

  pub steps-stop : (c : Cluster V A) (n : ℕ) → next_canonical c ≡ None → steps_of P (suc n) (finishing c) ≡ []
  unfolding steps_of next_event
  steps-stop c n none = rw none (λ i. [])

  -- ---- its stretches

  -- a step comes in some stretch
  some-stretch : (x : Played V A) (xs : List (Played V A)) → 1 ≤ stretches (x ∷ xs)
  some-stretch x xs = by_test (opens_epoch x.outcome)
      (λ y. rw y (omega arith))
      (λ n. rw n (omega arith))

  -- it plays something while the run is not over
  plays-some : (n : ℕ) (c : Cluster V A) (e : Event) → next_canonical c ≡ Some e → IsWhole (position_after P n (finishing c)) → 1 ≤ stretches (steps_of P n (finishing c))
  unfolding position_after next_event
  plays-some zero c e is whole = absurd (let bad : Some e ≡ None = sym (ap (λ o. option_or o None) is) ∙ whole in cc)
  plays-some (suc n) c e is whole = subst (λ xs. 1 ≤ stretches xs) (sym (steps-go_on c e n is)) (some-stretch (record { event = e; outcome = (step P c e).1 }) (steps_of P n (finishing (step P c e).0)))

  two-left : (m : Mode) (b : Bool) → m ≡ mode.Failed → 2 ≤ epochs_of m b
  two-left m b is = rw is (two b)
    where
      two : (b : Bool) → 2 ≤ epochs_of mode.Failed b
      two true = omega arith
      two false = omega arith

  none-left : (m : Mode) (b : Bool) → is_over m ≡ true → epochs_of m b ≡ 0
  none-left mode.Done b o = refl
  none-left mode.Lost b o = refl
  none-left _ b o = absurd (let bad : false ≡ true = o in cc)

  module _ (L : ProgramLaws P) where
    pub canonical-agrees : (c : Cluster V A) (e : Event) → Invariant P c → next_canonical c ≡ Some e → Invariant P (step P c e).0
    canonical-agrees c e I is = (invariant-after P L I.0 c I.1 e (canonical-names c I.1.committed.shaped.dead e is)).0

    -- no more than the rounds, and the epochs that are left beside them
    abbrev Few : ℕ → Cluster V A → Type 0
    Few n c = stretches (steps_of P n (finishing c)) + c.coordinator.round ≤ epochs_left c + (position_after P n (finishing c)).cluster.coordinator.round

    few-at_first : (c : Cluster V A) → Few zero c
    unfolding steps_of position_after
    few-at_first c = omega arith

    few-stopped : (n : ℕ) (c : Cluster V A) → next_canonical c ≡ None → Few n c → Few (suc n) c
    few-stopped n c none few =
        let steps : stretches (steps_of P (suc n) (finishing c)) ≡ 0 = ap stretches (steps-stop c n none) in
        let end : (position_after P (suc n) (finishing c)).cluster.coordinator.round ≡ (position_after P n (finishing c)).cluster.coordinator.round = ap (λ (s : Position V A). s.cluster.coordinator.round) (after-stops c n none) in
        omega (arith, few, steps, end)

    module _ (n : ℕ) (c : Cluster V A) (e : Event) (I : Invariant P c) (is : next_canonical c ≡ Some e) where
      abbrev d : Cluster V A
      d = (step P c e).0

      abbrev later : ℕ
      later = stretches (steps_of P n (finishing d))

      -- an event that stays in its epoch, after which nothing comes, ends the run, and a recovery was left before it
      ended-few : (position_after P (suc n) (finishing c)).cluster.coordinator.round ≡ (position_after P n (finishing d)).cluster.coordinator.round
          → stretches (steps_of P (suc n) (finishing c)) ≡ max 1 later → later ≤ 0 → d.coordinator.epoch ≡ c.coordinator.epoch
          → next_canonical d ≡ None → Few n d → Few (suc n) c
      ended-few end steps last same stops few =
          let over = none-over d stops in
          let two = two-left c.coordinator.mode (somebody_down c) (ends-failed P c e (canonical-goes_on c e is) same over) in
          let none : epochs_left d ≡ 0 = none-left d.coordinator.mode (somebody_down d) over in
          let rounds = (step-counts P c e).round.0 in let one : max 1 later ≤ 1 = max-le (le_refl 1) (omega (arith, last)) in
          omega (arith, end, steps, one, few, two, none, rounds)

      few-more : IsWhole (position_after P n (finishing d)) → Few n d → Few (suc n) c
      few-more whole few =
          let end : (position_after P (suc n) (finishing c)).cluster.coordinator.round ≡ (position_after P n (finishing d)).cluster.coordinator.round = ap (λ (s : Position V A). s.cluster.coordinator.round) (after-goes_on c e n is) in
          let steps : stretches (steps_of P (suc n) (finishing c)) ≡ (if opens_epoch (step P c e).1 then 1 + later else max 1 later) = ap stretches (steps-go_on c e n is) in
          let told : d.coordinator.epoch ≡ c.coordinator.epoch + cond (opens_epoch (step P c e).1) 1 0 = step-told c P e in
          let spent = (canonical-spends P L I.0 c I.1 e is).spent in by_test (opens_epoch (step P c e).1)
          (λ y.
          let steps' : stretches (steps_of P (suc n) (finishing c)) ≡ 1 + later = rw y at steps in
          let rises : d.coordinator.epoch ≡ c.coordinator.epoch + 1 = rw y at told in omega (arith, end, steps', rises, spent, few))
          (λ k.
          let steps' : stretches (steps_of P (suc n) (finishing c)) ≡ max 1 later = rw k at steps in
          let stays : d.coordinator.epoch ≡ c.coordinator.epoch + 0 = rw k at told in
          let same : d.coordinator.epoch ≡ c.coordinator.epoch = omega (arith, stays) in ⊎_elim
          (λ some. let all : max 1 later ≤ later = max-le some (le_refl later) in omega (arith, end, steps', same, spent, few, all))
          (λ last. by_option (next_canonical d)
          (λ stops. ended-few end steps' last same stops few)
          (λ e' is'. absurd (let one = plays-some n d e' is' whole in omega (arith, one, last))))
          (cases_lt 0 later))

    few-stretches : (n : ℕ) (c : Cluster V A) → Invariant P c → IsWhole (position_after P n (finishing c)) → Few n c
    few-stretches zero c I whole = few-at_first c
    few-stretches (suc n) c I whole = by_option (next_canonical c)
        (λ none. few-stopped n c none (few-stretches n c I (subst IsWhole (after-stops c n none) whole)))
        (λ e is. let rest = subst IsWhole (after-goes_on c e n is) whole in
        few-more n c e I is rest (few-stretches n (step P c e).0 (canonical-agrees c e I is) rest))

    pub finish-short : (c : Cluster V A) (played : List (Played V A)) (end : Cluster V A) → Invariant P c → IsRun P (finishing c) played end
        → stretches played + c.coordinator.round ≤ 3 + end.coordinator.round
    finish-short c played end I R =
        let few = few-stretches (length played) c I R.whole in let three = few-epochs c in
        let steps : stretches played ≡ stretches (steps_of P (length played) (finishing c)) = ap stretches R.steps in
        let last : end.coordinator.round ≡ (position_after P (length played) (finishing c)).cluster.coordinator.round = ap (λ (d : Cluster V A). d.coordinator.round) R.last in
        omega (arith, few, three, steps, last)
