-- The stages.
use Rattle.std.specs.Prelude.{ℕ, Bool, ◌==◌}
use Rattle.gr_batch.specs.declared.stage.Stage.{Stage}
use Rattle.gr_batch.specs.declared.stage.Stage.TheVariants as stage

-- the stage that follows; none follows the end
abbrev pub stage_after : Stage → Stage
stage_after stage.Gather = stage.Update
stage_after stage.Update = stage.Signal
stage_after stage.Signal = stage.Call
stage_after stage.Call = stage.End
stage_after stage.Ask = stage.Grant
stage_after stage.Grant = stage.End
stage_after stage.End = stage.End

-- one number for each stage, as batches are spelled
abbrev pub code_of : Stage → ℕ
code_of stage.Gather = 0
code_of stage.Update = 1
code_of stage.Signal = 2
code_of stage.Call = 3
code_of stage.Ask = 4
code_of stage.Grant = 5
code_of stage.End = 6

abbrev pub is_stage : Stage → Stage → Bool
is_stage s t = code_of s == code_of t

abbrev pub is_end : Stage → Bool
is_end s = is_stage s stage.End
