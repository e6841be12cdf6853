use Rattle.std.proofs.Common.{◌≡◌, ◌∙◌, sym, ap, subst, false}
use Rattle.gr_sched.specs.declared.event.Event.TheVariants as event
use Rattle.gr_view.specs.Modes.{is_over}
use Rattle.gr_cluster.specs.Tables.{Cluster}
use Rattle.gr_cluster.specs.Step.{step}
use Rattle.gr_core.proofs.Network.{IfOk-delivered, OnErr-kept, fit-result, flight-fresh}
use Rattle.gr_view.specs.Decisions.{parties}
use Rattle.gr_core.specs.Targets.{TargetsFit}
use Rattle.gr_core.proofs.Resting.{nobody}
use Rattle.gr_core.proofs.Kept.{keeps, keeps-stepped}
use Rattle.gr_core.proofs.cluster.Cluster.deliver_batch.Goals as goal

pub deliver_from-requires : goal.deliver_from-requires
deliver_from-requires g c = record {
  fresh = λ b is.
      let s = c.self.inside in
      let k : Cluster g.row.P-Value.Denot g.row.P-Acc.Denot = record { hosts = s.hosts.items; logs = s.logs.items; flight = s.flight; serial = s.serial; coordinator = s.coordinator; places = s.places; losses = s.losses; theta = s.theta } in
      flight-fresh (g.P.VertexProgram.program_of s.program) k c.args.i b c.self.invariant.agrees.state c.self.invariant.agrees.holds is;
}

pub invariant_of-self : goal.invariant_of-self
invariant_of-self g c =
    let s = c.self.inside in
    let P = g.P.VertexProgram.program_of s.program in
    let k : Cluster g.row.P-Value.Denot g.row.P-Acc.Denot = record { hosts = s.hosts.items; logs = s.logs.items; flight = s.flight; serial = s.serial; coordinator = s.coordinator; places = s.places; losses = s.losses; theta = s.theta } in
    let r = c.deliver_from.result in
    let hs = c.deliver_from.new.hosts.items in
    let fl = c.deliver_from.new.flight in
    let over : is_over k.coordinator.mode ≡ false = ap (λ x. is_over x.cluster.coordinator.mode) c.self.view_is ∙ c.requires in
    let fit = fit-result P k c.args.i r hs fl s.coordinator.epoch (parties s.coordinator) s.kept c.deliver_from.ensures.ok c.deliver_from.ensures.hosts_kept c.self.invariant.targets in
    record {
      retired = c.self.invariant.retired;
      resting = λ q here. absurd (nobody _ c.none-self-inside.ensures q here);
      targets = subst (TargetsFit P s.coordinator.epoch (parties s.coordinator) hs) (sym c.forget_receiver.ensures) fit;
      agrees = keeps-stepped P k (record k { hosts = hs; flight = fl }) (step P k (event.Deliver c.args.i)) r
          (IfOk-delivered P k c.args.i r hs fl over c.deliver_from.ensures.ok)
          (OnErr-kept P k c.args.i r hs fl c.deliver_from.ensures.hosts_kept c.deliver_from.ensures.flight_kept)
          c.self.invariant.agrees (keeps P (g.met.P.VertexProgram.laws s.program) k c.self.invariant.agrees (event.Deliver c.args.i) tt);
    }

pub returns-clause-ok : goal.returns-clause-ok
returns-clause-ok g c =
    let s = c.self.inside in
    let P = g.P.VertexProgram.program_of s.program in
    let k : Cluster g.row.P-Value.Denot g.row.P-Acc.Denot = record { hosts = s.hosts.items; logs = s.logs.items; flight = s.flight; serial = s.serial; coordinator = s.coordinator; places = s.places; losses = s.losses; theta = s.theta } in
    let over : is_over k.coordinator.mode ≡ false = ap (λ x. is_over x.cluster.coordinator.mode) c.self.view_is ∙ c.requires in
    let ok = IfOk-delivered P k c.args.i c.deliver_from.result c.deliver_from.new.hosts.items c.deliver_from.new.flight over c.deliver_from.ensures.ok in
    rw (← c.self.view_is) ok
