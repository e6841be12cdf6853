use Rattle.std.proofs.Common.{◌<◌, ◌^◌, length, subst}
use Rattle.gr_cluster.specs.Step.{lost_list}
use Rattle.gr_cluster.specs.Tables.{Cluster}
use Rattle.gr_core.proofs.Lost.{lost-few}
use Rattle.gr_core.proofs.cluster.Cluster.lost.Goals as goal

pub returns-clause-few : goal.returns-clause-few
returns-clause-few g c =
    let s = c.self.inside in
    let P = g.P.VertexProgram.program_of s.program in
    let k : Cluster g.row.P-Value.Denot g.row.P-Acc.Denot = record { hosts = s.hosts.items; logs = s.logs.items; flight = s.flight; serial = s.serial; coordinator = s.coordinator; places = s.places; losses = s.losses; theta = s.theta } in
    subst (λ x. length (lost_list x.cluster) < 2 ^ 32) c.self.view_is (lost-few P c.self.invariant.agrees.state k c.self.invariant.agrees.holds)
