-- Each canonical event brings the end of `settle` and of `finish` nearer: fewer epochs may come, or in the same epoch less is left.
use Rattle.std.proofs.Common.{◌≡◌, ◌<◌, ◌≤◌, arith, Some, ◌⊎◌, inl, inr, ⊎_elim}
use Rattle.std.proofs.lemmas.Bool.{cases_lt}
use Rattle.gr_program.specs.Program.{Program}
use Rattle.gr_program.specs.ProgramLaws.{ProgramLaws}
use Rattle.gr_sched.specs.declared.event.Event.{Event}
use Rattle.gr_cluster.specs.Tables.{Cluster}
use Rattle.gr_cluster.specs.Step.{step}
use Rattle.gr_cluster.specs.Canonical.{next_canonical}
use Rattle.gr_cluster.specs.Left.{left}
use Rattle.gr_cluster.specs.ToGo.{epochs_due}
use Rattle.gr_agree.specs.Agree.{Invariant}
use Rattle.gr_law_runs.proofs.Runs.Plain.{round-below}
use Rattle.gr_law_runs.proofs.Left.Canonical.{canonical-goes_on}
use Rattle.gr_law_runs.proofs.Left.Counts.{step-counts}
use Rattle.gr_law_runs.proofs.Left.Less.{canonical-leaves-less}
use Rattle.gr_law_runs.proofs.Events.Limit.{limit-step}
use Rattle.gr_law_runs.proofs.Bounds.Spending.{canonical-spends}

module _ {V A : Type 0} where
  abbrev pub IsNearer : Cluster V A → Cluster V A → Type 0
  IsNearer c d = (epochs_due d < epochs_due c) ⊎ ((epochs_due d ≤ epochs_due c) × (left d < left c))

  pub canonical-nearer : (P : Program V A) → ProgramLaws P → (c : Cluster V A) (e : Event) → Invariant P c → next_canonical c ≡ Some e → IsNearer c (step P c e).0
  canonical-nearer P L c e I is =
      let d = (step P c e).0 in
      let spent = (canonical-spends P L I.0 c I.1 e is).spent in
      let counts = step-counts P c e in let epoch = counts.epoch in let round = counts.round in
      let below = round-below P I.0 c I.1 (canonical-goes_on c e is) in
      let limit = limit-step P c e in ⊎_elim
      (λ raised. inl (omega (arith, spent, round, below, limit, raised)))
      (λ stays. let same : d.coordinator.epoch ≡ c.coordinator.epoch = omega (arith, epoch, stays) in
      inr (omega (arith, spent, round, below, limit, same), (canonical-leaves-less P I.0 c I.1 e is).1 same))
      (cases_lt c.coordinator.epoch d.coordinator.epoch)
