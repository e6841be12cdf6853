-- What the commit of a rebuild leaves as it is.
use Rattle.std.specs.Prelude.{◌≡◌, IsTrue}
use Rattle.gr_program.specs.Program.{Program}
use Rattle.gr_sched.specs.declared.event.Event.{Event}
use Rattle.gr_view.specs.Modes.{is_rebuild}
use Rattle.gr_cluster.specs.Tables.{Cluster}
use Rattle.gr_cluster.specs.GraphIn.{graph_in}
use Rattle.gr_cluster.specs.Step.{step}
use Rattle.gr_cluster.specs.Runs.{is_commit}
use Rattle.gr_agree.specs.Truth.{Truth}
use Rattle.gr_agree.specs.Agree.{Agree}

-- the committed logs say the same graph after the commit of a rebuild
abbrev pub RebuildKeepsTheGraph : (V A : Type 0) → Type 0
RebuildKeepsTheGraph V A =
    (P : Program V A) (t : Truth V) (c : Cluster V A) (e : Event) → Agree P t c
    → IsTrue (is_commit (step P c e).1) → IsTrue (is_rebuild c.coordinator.mode) → graph_in (step P c e).0 ≡ graph_in c
