-- What a work keeps where no rebuild is open: a case of the law of events inside an epoch.
use Rattle.std.specs.Prelude.{ℕ, ◌≡◌, false}
use Rattle.gr_program.specs.Program.{Program}
use Rattle.gr_program.specs.ProgramLaws.{ProgramLaws}
use Rattle.gr_sched.specs.declared.event.Event.TheVariants as event
use Rattle.gr_view.specs.Modes.{is_rebuild}
use Rattle.gr_cluster.specs.Tables.{Cluster}
use Rattle.gr_cluster.specs.Step.{step}
use Rattle.gr_agree.specs.Truth.{Truth}
use Rattle.gr_agree.specs.Agree.{Agree}
use Rattle.gr_law_rounds.specs.Network.{IsKept}

abbrev pub WorkKeepsInARound : (V A : Type 0) → Type 0
WorkKeepsInARound V A =
    (P : Program V A) → ProgramLaws P → (t : Truth V) (c : Cluster V A) (p : ℕ) → Agree P t c → is_rebuild c.coordinator.mode ≡ false
    → IsKept P t c (step P c (event.Work p)).0
