-- The cluster after a step has no count more than one above that before.
use Rattle.std.specs.Prelude.{◌≡◌}
use Rattle.std.proofs.Common.{sym, subst}
use Rattle.gr_program.specs.Program.{Program}
use Rattle.gr_batch.specs.declared.outcome.Outcome.{Outcome}
use Rattle.gr_sched.specs.declared.event.Event.{Event}
use Rattle.gr_cluster.specs.Tables.{Cluster}
use Rattle.gr_cluster.specs.Step.{step}
use Rattle.gr_agree.specs.Bounds.{IsRaisedByOne}
use Rattle.gr_law_runs.proofs.Left.Counts.{step-counts}

pub stepped-raised : {V A : Type 0} (P : Program V A) (c d : Cluster V A) (e : Event) (o : Outcome V A) → (d, o) ≡ step P c e → IsRaisedByOne c d
stepped-raised P c d e o is = subst (λ x. IsRaisedByOne c x.0) (sym is) (step-counts P c e)
