use Rattle.gr_program.proofs.Recompute.{inactive-recomputed}
use Rattle.gr_program.proofs.laws.inactive_may_be_recomputed.Goals as goal

pub returns : goal.returns
returns g c = λ p laws forgets es sources r v lt off x kept. inactive-recomputed laws es sources forgets r v lt off x kept
