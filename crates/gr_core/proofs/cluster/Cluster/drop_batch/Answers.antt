use Rattle.std.proofs.Common.{◌≡◌, ◌∙◌, sym, ap, subst, true, false, slice_get}
use Rattle.gr_sched.specs.declared.event.Event.TheVariants as event
use Rattle.gr_view.specs.Modes.{is_over}
use Rattle.gr_cluster.specs.Tables.{Cluster}
use Rattle.gr_core.specs.Tables.{Agrees}
use Rattle.gr_core.specs.Steps.{may_drop}
use Rattle.gr_core.proofs.Network.{drop-idle, drop-step}
use Rattle.gr_core.proofs.Kept.{keeps}
use Rattle.gr_core.proofs.Standing.{no-targets}
use Rattle.gr_core.proofs.Resting.{nobody}
use Rattle.gr_core.proofs.cluster.Cluster.drop_batch.Goals as goal

pub invariant_of-self : goal.invariant_of-self
invariant_of-self g c =
    let s = c.self.inside in
    let P = g.P.VertexProgram.program_of s.program in
    let k : Cluster g.row.P-Value.Denot g.row.P-Acc.Denot = record { hosts = s.hosts.items; logs = s.logs.items; flight = s.flight; serial = s.serial; coordinator = s.coordinator; places = s.places; losses = s.losses; theta = s.theta } in
    let over : is_over k.coordinator.mode ≡ false = ap (λ x. is_over x.cluster.coordinator.mode) c.self.view_is ∙ c.requires in
    let may : may_drop k (slice_get k.flight c.args.i) ≡ true = ap (λ x. may_drop x.cluster (slice_get x.cluster.flight c.args.i)) c.self.view_is ∙ (sym c.may_drop.ensures ∙ c.if-may_drop.true) in
    let is = drop-step P k c.args.i over c.drop_from.new.flight c.drop_from.result may c.drop_from.ensures.flight c.drop_from.ensures.outcome in
    record { agrees = subst (λ x. Agrees P x.0) (sym is) (keeps P (g.met.P.VertexProgram.laws s.program) k c.self.invariant.agrees (event.Discarded c.args.i) tt); targets = λ q ts h here at. absurd (no-targets _ c.forget_all.ensures q ts here); resting = λ q here. absurd (nobody _ c.none-self-inside.ensures q here); retired = c.self.invariant.retired }

pub returns-then-may_drop-clause-step : goal.returns-then-may_drop-clause-step
returns-then-may_drop-clause-step g c =
    let s = c.self.inside in
    let P = g.P.VertexProgram.program_of s.program in
    let k : Cluster g.row.P-Value.Denot g.row.P-Acc.Denot = record { hosts = s.hosts.items; logs = s.logs.items; flight = s.flight; serial = s.serial; coordinator = s.coordinator; places = s.places; losses = s.losses; theta = s.theta } in
    let over : is_over k.coordinator.mode ≡ false = ap (λ x. is_over x.cluster.coordinator.mode) c.self.view_is ∙ c.requires in
    let may : may_drop k (slice_get k.flight c.args.i) ≡ true = ap (λ x. may_drop x.cluster (slice_get x.cluster.flight c.args.i)) c.self.view_is ∙ (sym c.may_drop.ensures ∙ c.if-may_drop.true) in
    let is = drop-step P k c.args.i over c.drop_from.new.flight c.drop_from.result may c.drop_from.ensures.flight c.drop_from.ensures.outcome in
    rw (← c.self.view_is) is

pub returns-else-may_drop-clause-step : goal.returns-else-may_drop-clause-step
returns-else-may_drop-clause-step g c =
    drop-idle (g.P.VertexProgram.program_of c.args.self.now.program) c.args.self.now.cluster c.args.i c.requires (sym c.may_drop.ensures ∙ c.if-may_drop.false)
