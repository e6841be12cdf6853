use Rattle.std.proofs.Common.{◌≡◌, ◌∙◌, ap, false}
use Rattle.gr_view.specs.Modes.{is_over}
use Rattle.gr_cluster.specs.Tables.{Cluster, host}
use Rattle.gr_core.specs.declared.turn.Turn.TheVariants as turn
use Rattle.gr_core.specs.Turns.{turn_of}
use Rattle.gr_core.proofs.Needs.{rest-step}
use Rattle.gr_core.proofs.cluster.Cluster.rest_at.Goals as goal

pub returns : goal.returns
returns g c =
    let s = c.self.inside in
    let P = g.P.VertexProgram.program_of s.program in
    let k : Cluster g.row.P-Value.Denot g.row.P-Acc.Denot = record { hosts = s.hosts.items; logs = s.logs.items; flight = s.flight; serial = s.serial; coordinator = s.coordinator; places = s.places; losses = s.losses; theta = s.theta } in
    let p = c.args.p in
    let over : is_over k.coordinator.mode ≡ false = ap (λ x. is_over x.cluster.coordinator.mode) c.self.view_is ∙ c.requires.going in
    let next : turn_of k.coordinator (host k p) ≡ turn.Rest = ap (λ x. turn_of x.cluster.coordinator (host x.cluster p)) c.self.view_is ∙ c.requires.turn in
    rw (← c.self.view_is) (rest-step P (g.met.P.VertexProgram.laws s.program) c.self.invariant.agrees.state k c.self.invariant.agrees.holds over p next)
