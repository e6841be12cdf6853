-- What no event raises inside an epoch, and which outcomes open a new one.
use Rattle.std.specs.Prelude.{◌+◌, ◌≡◌, ◌≤◌, cond}
use Rattle.gr_program.specs.Program.{Program}
use Rattle.gr_program.specs.ProgramLaws.{ProgramLaws}
use Rattle.gr_sched.specs.declared.event.Event.{Event}
use Rattle.gr_cluster.specs.Tables.{Cluster}
use Rattle.gr_cluster.specs.Step.{step}
use Rattle.gr_cluster.specs.Left.{left}
use Rattle.gr_agree.specs.Agree.{Invariant}
use Rattle.gr_agree.specs.Bounds.{opens_epoch}

-- inside an epoch no event leaves more, a crash neither
abbrev pub NeverLeavesMore : (V A : Type 0) → Type 0
NeverLeavesMore V A =
    (P : Program V A) → ProgramLaws P → (c : Cluster V A) (e : Event) → Invariant P c
    → (step P c e).0.coordinator.epoch ≡ c.coordinator.epoch → left (step P c e).0 ≤ left c

-- the epoch rises by the outcomes that say so, and by no other
abbrev pub EpochsAreTold : (V A : Type 0) → Type 0
EpochsAreTold V A =
    (P : Program V A) (c : Cluster V A) (e : Event)
    → (step P c e).0.coordinator.epoch ≡ c.coordinator.epoch + cond (opens_epoch (step P c e).1) 1 0
