-- The order of the stages of a round or of a rebuild.
use Rattle.std.specs.Prelude.{ℕ}
use Rattle.gr_batch.specs.declared.stage.Stage.{Stage}
use Rattle.gr_batch.specs.declared.stage.Stage.TheVariants as stage

-- the place of a stage in its round or its rebuild
abbrev pub place_in : Stage → ℕ
place_in stage.Gather = 0
place_in stage.Update = 1
place_in stage.Signal = 2
place_in stage.Call = 3
place_in stage.Ask = 0
place_in stage.Grant = 1
place_in stage.End = 4
