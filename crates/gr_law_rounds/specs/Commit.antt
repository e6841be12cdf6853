-- What a barrier keeps that decides nothing: a case of the law of events inside an epoch.
use Rattle.std.specs.Prelude.{◌≡◌, false}
use Rattle.gr_program.specs.Program.{Program}
use Rattle.gr_sched.specs.declared.event.Event.TheVariants as event
use Rattle.gr_cluster.specs.Tables.{Cluster}
use Rattle.gr_cluster.specs.Step.{step}
use Rattle.gr_cluster.specs.Runs.{is_commit}
use Rattle.gr_agree.specs.Truth.{Truth}
use Rattle.gr_agree.specs.Agree.{Agree}
use Rattle.gr_law_rounds.specs.Network.{IsKept}

abbrev pub BarrierKeeps : (V A : Type 0) → Type 0
BarrierKeeps V A =
    (P : Program V A) (t : Truth V) (c : Cluster V A) → Agree P t c → is_commit (step P c event.Barrier).1 ≡ false
    → (step P c event.Barrier).0.coordinator.epoch ≡ c.coordinator.epoch → IsKept P t c (step P c event.Barrier).0
