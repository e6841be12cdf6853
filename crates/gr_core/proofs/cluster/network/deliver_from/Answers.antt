use Rattle.std.proofs.Common.{◌∙◌, sym, ap, slice_get}
use Rattle.std.specs.Prelude.{option_copied}
use Rattle.gr_core.proofs.Network.{delivered-none, delivered-some}
use Rattle.gr_core.proofs.cluster.network.deliver_from.Goals as goal

pub returns-in_default-clause-ok : goal.returns-in_default-clause-ok
returns-in_default-clause-ok g c = λ k at in_flight.
    delivered-none k c.args.i c.args.hosts.now.items c.args.flight.now at in_flight (slice_get c.args.flight.now c.args.i) (sym c.peek.ensures ∙ ap option_copied c.in_default.is)

pub returns-in-Some-take-clause-ok : goal.returns-in-Some-take-clause-ok
returns-in-Some-take-clause-ok g c = λ k at in_flight.
    delivered-some k c.args.i c.args.hosts.now.items c.args.flight.now at in_flight (slice_get c.args.flight.now c.args.i) c.in-Some-take.batch c.in-Some.batch.now
    c.in_ok-fate.fate c.receive.new.hosts.items c.take.new.self
    (sym c.take.ensures.taken ∙ c.in-Some-take.is)
    (sym c.peek.ensures ∙ ap option_copied c.in-Some.is)
    c.in_ok-fate.ensures.ok c.take.ensures.rest c.in_ok-fate.ensures.fate
