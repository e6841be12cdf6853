use Rattle.std.proofs.Common.{[], ◌∷◌, ◌++◌, refl, inl}
use Rattle.gr_sched.specs.declared.event.Line.TheVariants as line
use Rattle.gr_law_runs.proofs.Runs.Finish.{after-finishes, whole-over}
use Rattle.gr_cluster.specs.Runs.{position_after}
use Rattle.gr_law_runs.proofs.finish_is_over.Goals as goal

pub returns : goal.returns
returns g c = λ P k before n whole.
    whole-over P (position_after P n (record { cluster = k; lines = before ++ line.Finish ∷ [] }))
    (after-finishes P n (record { cluster = k; lines = before ++ line.Finish ∷ [] }) (inl (record { before = before; is = refl }))) whole
