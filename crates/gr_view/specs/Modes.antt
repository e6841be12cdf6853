-- The modes of a cluster.
use Rattle.std.specs.Prelude.{Bool, true, false, ◌||◌}
use Rattle.gr_view.specs.declared.coordinator.Mode.{Mode}
use Rattle.gr_view.specs.declared.coordinator.Mode.TheVariants as mode

abbrev pub is_round : Mode → Bool
is_round mode.Running = true
is_round _ = false

abbrev pub is_recovery : Mode → Bool
is_recovery mode.Recovering = true
is_recovery _ = false

abbrev pub is_repair : Mode → Bool
is_repair mode.Repairing = true
is_repair _ = false

abbrev pub is_rebuild : Mode → Bool
is_rebuild m = is_recovery m || is_repair m

abbrev pub is_failed : Mode → Bool
is_failed mode.Failed = true
is_failed _ = false

-- places work on a round or on a rebuild
abbrev pub is_open : Mode → Bool
is_open m = is_round m || is_rebuild m

-- nothing happens any more
abbrev pub is_over : Mode → Bool
is_over mode.Done = true
is_over mode.Lost = true
is_over _ = false
