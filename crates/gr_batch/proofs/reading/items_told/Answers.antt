use Rattle.std.proofs.Common.{◌∙◌, ◌+◌, refl, ap, arith}
use Rattle.gr_batch.proofs.Items.{reads-start, reads-none, reads-below, reads-next}
use Rattle.gr_batch.proofs.reading.items_told.Goals as goal

pub loop-i-init : goal.loop-i-init
loop-i-init g c = rw c.new-items.ensures (record { count = omega arith; so_far = reads-start g.I.Item.told g.I.Item.key g.I.Item.Fits c.args.numbers.now })

pub loop-i-preserved : goal.loop-i-preserved
loop-i-preserved g c =
    let vertex = c.vertex-vertex.ensures in
    let more = reads-next g.I.Item.told g.I.Item.key g.I.Item.Fits c.args.numbers.now c.loop-i.items c.loop-i.rest.now c.loop-i.least c.loop-i.invariant.so_far c.in-Some.front.0 c.in-Some.front.1.now c.in-Some.ensures.found (omega (arith, vertex, c.if-vertex-least.false))
    c.push.new.self c.in-Some.front.1.now (c.vertex-vertex.result + 1) c.in_ok-push-in-Some.ensures.ok refl (ap (λ n. n + 1) vertex) in
    record { count = more.0 ∙ ap (λ n. n + 1) c.loop-i.invariant.count; so_far = more.1 }

pub returns-in-None-clause-absent : goal.returns-in-None-clause-absent
returns-in-None-clause-absent g c = λ items are count e.
    let so_far = c.loop-i.invariant.count in
    let more = c.loop-i-test.true in
    reads-none g.I.Item.told g.I.Item.key g.I.Item.Fits c.args.numbers.now c.loop-i.items c.loop-i.rest.now c.loop-i.least c.loop-i.invariant.so_far items c.in-None.ensures.absent are.each (omega (arith, so_far, more, count)) e

pub returns-then-vertex-least-clause-absent : goal.returns-then-vertex-least-clause-absent
returns-then-vertex-least-clause-absent g c = λ items are count e.
    let so_far = c.loop-i.invariant.count in
    let more = c.loop-i-test.true in
    let vertex = c.vertex-vertex.ensures in
    reads-below g.I.Item.told g.I.Item.key g.I.Item.Fits c.args.numbers.now c.loop-i.items c.loop-i.rest.now c.loop-i.least c.loop-i.invariant.so_far c.in-Some.front.0 c.in-Some.front.1.now c.in-Some.ensures.found items (omega (arith, vertex, c.if-vertex-least.true)) are (omega (arith, so_far, more, count)) e
