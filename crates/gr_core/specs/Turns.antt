-- Which part of its work comes next at a place, until the run is over.
use Rattle.std.specs.Prelude.{nat_lt, Option, Some, None, if◌then◌else◌}
use Rattle.gr_view.specs.declared.coordinator.Coordinator.{Coordinator}
use Rattle.gr_view.specs.declared.coordinator.Mode.{Mode}
use Rattle.gr_view.specs.declared.coordinator.Mode.TheVariants as mode
use Rattle.gr_cluster.specs.Tables.{Host}
use Rattle.gr_core.specs.declared.turn.Turn.{Turn}
use Rattle.gr_core.specs.declared.turn.Turn.TheVariants as turn

-- what a mode asks of a place: the work of a round or of a rebuild, or nothing
abbrev pub turn_in : Mode → Turn
turn_in mode.Running = turn.Act
turn_in mode.Recovering = turn.Rebuild
turn_in mode.Repairing = turn.Rebuild
turn_in _ = turn.Rest

-- a place that is up installs, then adopts, then does what the mode asks
abbrev pub turn_of : {V A : Type 0} → Coordinator → Option (Host V A) → Turn
turn_of co None = turn.Rest
turn_of co (Some h) =
    if nat_lt h.installed co.commits then turn.Install
    else if nat_lt h.epoch co.epoch then turn.Adopt
    else turn_in co.mode
