use Rattle.std.proofs.Common.{◌≡◌, ◌∙◌, List, Some, refl, sym, ap}
use Rattle.std.specs.Prelude.{slice_get}
use Rattle.std.proofs.lemmas.Option.{slice_get_read}
use Rattle.gr_batch.specs.declared.batch.Batch.{Batch}
use Rattle.gr_flight.proofs.Once.{once-find}
use Rattle.gr_flight.proofs.inbox.Inbox.at_its_position.Goals as goal

pub returns-then-is_of : goal.returns-then-is_of
returns-then-is_of g c =
    let b = c.in_ok-batch.batch.now in let items = c.self.inside.batches.items in let i = c.in_ok-position.field-0.now in
    let found = c.in_ok-batch.ensures.lookup in
    let read : slice_get c.deref-2.result.now i ≡ Some b = slice_get_read c.deref-2.result.now _ i b refl found.3.0 found.1 in
    let at : slice_get items i ≡ Some b = ap (λ (xs : List (Batch g.row.V.Denot g.row.A.Denot)). slice_get xs i) (sym c.deref-2.ensures.value) ∙ read in
    rw (← c.self.view_is) (once-find c.args.sender c.args.epoch c.args.stage b items i c.self.invariant.0 at (sym c.is_of.ensures ∙ c.if-is_of.true))
