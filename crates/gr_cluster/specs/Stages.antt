-- The stages of a mode.
use Rattle.std.specs.Prelude.{Bool, List, [], ◌∷◌}
use Rattle.std.specs.List.{list_any}
use Rattle.gr_batch.specs.declared.stage.Stage.{Stage}
use Rattle.gr_batch.specs.declared.stage.Stage.TheVariants as stage
use Rattle.gr_batch.specs.Stages.{is_stage}
use Rattle.gr_view.specs.declared.coordinator.Mode.{Mode}
use Rattle.gr_view.specs.declared.coordinator.Mode.TheVariants as mode

-- the stages of a round, and of a rebuild, in order
abbrev pub stages_of : Mode → List Stage
stages_of mode.Running = stage.Gather ∷ stage.Update ∷ stage.Signal ∷ stage.Call ∷ stage.End ∷ []
stages_of mode.Recovering = stage.Ask ∷ stage.Grant ∷ stage.End ∷ []
stages_of mode.Repairing = stage.Ask ∷ stage.Grant ∷ stage.End ∷ []
stages_of _ = []

abbrev pub has_stage : List Stage → Stage → Bool
has_stage ss s = list_any (is_stage s) ss
