use Rattle.std.proofs.Common.{◌≡◌, ◌∙◌, ◌<◌, length, sym, ap, subst, false, arith}
use Rattle.gr_sched.specs.declared.event.Event.TheVariants as event
use Rattle.gr_view.specs.Modes.{is_over}
use Rattle.gr_cluster.specs.Tables.{Cluster, host, view_of}
use Rattle.gr_core.specs.Tables.{Agrees}
use Rattle.gr_core.specs.declared.turn.Turn.TheVariants as turn
use Rattle.gr_core.specs.Turns.{turn_of}
use Rattle.gr_core.proofs.Turns.{adopt-step}
use Rattle.gr_core.proofs.Kept.{keeps, cut-fits}
use Rattle.gr_core.proofs.Standing.{no-targets}
use Rattle.gr_core.proofs.Resting.{nobody}
use Rattle.gr_core.proofs.cluster.Cluster.adopt_at.Goals as goal

pub invariant_of-self : goal.invariant_of-self
invariant_of-self g c =
    let s = c.self.inside in
    let P = g.P.VertexProgram.program_of s.program in
    let k : Cluster g.row.P-Value.Denot g.row.P-Acc.Denot = record { hosts = s.hosts.items; logs = s.logs.items; flight = s.flight; serial = s.serial; coordinator = s.coordinator; places = s.places; losses = s.losses; theta = s.theta } in
    let over : is_over k.coordinator.mode ≡ false = ap (λ x. is_over x.cluster.coordinator.mode) c.self.view_is ∙ c.requires.going in
    let next : turn_of k.coordinator (host k c.args.p) ≡ turn.Adopt = ap (λ x. turn_of x.cluster.coordinator (host x.cluster c.args.p)) c.self.view_is ∙ c.requires.turn in
    let is = adopt-step P k c.args.p over c.adopt.new.hosts.items c.cut_tail.new.logs.items next (c.adopt.ensures k.coordinator.mode (sym c.is_rebuild-rebuild.ensures)) c.cut_tail.ensures in
    let fits : c.args.p < k.places = subst (λ x. c.args.p < x.cluster.places) (sym c.self.view_is) c.requires.place in
    let whole : length k.logs ≡ k.places = c.self.invariant.agrees.holds.committed.shaped.logs in
    record { agrees = subst (λ x. Agrees P x.0) (sym is) (keeps P (g.met.P.VertexProgram.laws s.program) k c.self.invariant.agrees (event.Work c.args.p) tt); targets = λ q ts h here at. absurd (no-targets _ c.forget_all.ensures q ts here); resting = λ q here. absurd (nobody _ c.none-self-inside.ensures q here); retired = cut-fits (view_of P k) k.logs c.args.p (omega (arith, fits, whole)) c.cut_tail.ensures s.retired c.self.invariant.retired }

pub returns-clause-step : goal.returns-clause-step
returns-clause-step g c =
    let s = c.self.inside in
    let P = g.P.VertexProgram.program_of s.program in
    let k : Cluster g.row.P-Value.Denot g.row.P-Acc.Denot = record { hosts = s.hosts.items; logs = s.logs.items; flight = s.flight; serial = s.serial; coordinator = s.coordinator; places = s.places; losses = s.losses; theta = s.theta } in
    let over : is_over k.coordinator.mode ≡ false = ap (λ x. is_over x.cluster.coordinator.mode) c.self.view_is ∙ c.requires.going in
    let next : turn_of k.coordinator (host k c.args.p) ≡ turn.Adopt = ap (λ x. turn_of x.cluster.coordinator (host x.cluster c.args.p)) c.self.view_is ∙ c.requires.turn in
    let is = adopt-step P k c.args.p over c.adopt.new.hosts.items c.cut_tail.new.logs.items next (c.adopt.ensures k.coordinator.mode (sym c.is_rebuild-rebuild.ensures)) c.cut_tail.ensures in
    rw (← c.self.view_is) is
