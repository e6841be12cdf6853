-- The steps of `finish` in one epoch are no more than what is left at its start.
use Rattle.std.proofs.Common.{◌≡◌, ℕ, zero, suc, ◌-◌, ◌≤◌, ap, ◌∙◌, sym, arith, Option, Some, None, length}
use Rattle.gr_program.specs.Program.{Program}
use Rattle.gr_program.specs.ProgramLaws.{ProgramLaws}
use Rattle.gr_sched.specs.declared.event.Event.{Event}
use Rattle.gr_cluster.specs.Tables.{Cluster}
use Rattle.gr_cluster.specs.Step.{step}
use Rattle.gr_cluster.specs.Canonical.{next_canonical}
use Rattle.gr_cluster.specs.Left.{left}
use Rattle.gr_cluster.specs.Runs.{Position, next_event, position_by, next_position, position_after, steps_of}
use Rattle.gr_agree.specs.Agree.{Invariant}
use Rattle.gr_agree.specs.Bounds.{finishing, IsShort}
use Rattle.gr_lists.proofs.Tests.{by_option}
use Rattle.gr_law_runs.proofs.Left.Bounded.{left-bounded}
use Rattle.gr_law_runs.proofs.Left.Counts.{step-counts}
use Rattle.gr_law_runs.proofs.Left.Less.{canonical-leaves-less}
use Rattle.gr_law_runs.proofs.Bounds.Short.{after-goes_on, steps-go_on, steps-stop, canonical-agrees}

module _ {V A : Type 0} (P : Program V A) where
  -- no step lowers the epoch
  by-epoch : (s : Position V A) (o : Option Event) → s.cluster.coordinator.epoch ≤ (position_by P s o).cluster.coordinator.epoch
  by-epoch s None = omega arith
  by-epoch s (Some e) = (step-counts P s.cluster e).epoch.0

  epoch-rises : (n : ℕ) (s : Position V A) → s.cluster.coordinator.epoch ≤ (position_after P n s).cluster.coordinator.epoch
  unfolding position_after next_position
  epoch-rises zero s = omega arith
  epoch-rises (suc n) s = let one = by-epoch s (next_event s) in let rest = epoch-rises n (next_position P s) in omega (arith, one, rest)

  module _ (L : ProgramLaws P) where
    none-played : {X : Type 0} (c : Cluster V A) (m : ℕ) → length (steps_of P (suc m) (finishing c)) ≡ suc m → next_canonical c ≡ None → X
    none-played c m played none = absurd (let empty : length (steps_of P (suc m) (finishing c)) ≡ 0 = ap length (steps-stop P c m none) in omega (arith, played, empty))

    stretch : (m : ℕ) (c : Cluster V A) → Invariant P c → length (steps_of P (suc m) (finishing c)) ≡ suc m
        → (position_after P m (finishing c)).cluster.coordinator.epoch ≡ c.coordinator.epoch → suc m ≤ left c
    stretch zero c I played same = by_option (next_canonical c)
        (none-played c 0 played)
        (λ e is. let some = (canonical-leaves-less P I.0 c I.1 e is).0 in omega (arith, some))
    stretch (suc k) c I played same = by_option (next_canonical c)
        (none-played c (suc k) played)
        (λ e is.
        let d = (step P c e).0 in let J = canonical-agrees P L c e I is in
        let rest : length (steps_of P (suc k) (finishing d)) ≡ suc k = (let more : length (steps_of P (suc (suc k)) (finishing c)) ≡ suc (length (steps_of P (suc k) (finishing d))) = ap length (steps-go_on P c e (suc k) is) in omega (arith, played, more)) in
        let end : (position_after P k (finishing d)).cluster.coordinator.epoch ≡ c.coordinator.epoch = ap (λ (s : Position V A). s.cluster.coordinator.epoch) (sym (after-goes_on P c e k is)) ∙ same in
        let first = (step-counts P c e).epoch.0 in let later = epoch-rises k (finishing d) in
        let stays : d.coordinator.epoch ≡ c.coordinator.epoch = omega (arith, first, later, end) in
        let ih = stretch k d J rest (end ∙ sym stays) in
        let less = (canonical-leaves-less P I.0 c I.1 e is).1 stays in omega (arith, ih, less))

    within : (n : ℕ) (c : Cluster V A) → Invariant P c → length (steps_of P n (finishing c)) ≡ n
        → (position_after P (n - 1) (finishing c)).cluster.coordinator.epoch ≡ c.coordinator.epoch → n ≤ left c
    within zero c I played same = omega arith
    within (suc m) c I played same = let one : suc m - 1 ≡ m = omega arith in stretch m c I played (ap (λ k. (position_after P k (finishing c)).cluster.coordinator.epoch) (sym one) ∙ same)

    pub stretch-short : (c : Cluster V A) (n : ℕ) → Invariant P c → length (steps_of P n (finishing c)) ≡ n
        → (position_after P (n - 1) (finishing c)).cluster.coordinator.epoch ≡ c.coordinator.epoch → IsShort c n
    stretch-short c n I played same =
        let bound = left-bounded P I.0 c I.1 in let short = within n c I played same in
        record { by_left = short; by_places = omega (arith, bound, short) }
