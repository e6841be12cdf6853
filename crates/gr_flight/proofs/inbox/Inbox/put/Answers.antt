use Rattle.std.proofs.Common.{◌≡◌, ◌∙◌, false, ap}
use Rattle.std.specs.List.{list_any}
use Rattle.gr_batch.specs.Bodies.{is_of, stage_of_body}
use Rattle.gr_flight.proofs.Once.{once-put}
use Rattle.gr_flight.proofs.inbox.Inbox.put.Goals as goal

pub invariant_of-self-in-Ok : goal.invariant_of-self-in-Ok
invariant_of-self-in-Ok g c =
    let b = c.args.batch in let items = c.self.inside.batches.items in
    let absent : list_any (is_of b.sender b.epoch (stage_of_body b.body)) items ≡ false = ap (list_any (is_of b.sender b.epoch (stage_of_body b.body))) c.self.view_is ∙ c.requires in
    rw c.in-Ok.ensures.items (once-put b items c.self.invariant.0 absent, c.with-newest.ensures items c.self.invariant.1)

pub invariant_of-self-in-Err : goal.invariant_of-self-in-Err
invariant_of-self-in-Err g c = rw c.in-Err.ensures.items c.self.invariant
