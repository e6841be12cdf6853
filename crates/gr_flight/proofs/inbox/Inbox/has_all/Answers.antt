use Rattle.std.proofs.Common.{ℕ, List, ap, ◌∙◌}
use Rattle.std.specs.Prelude.{slice_get}
use Rattle.std.specs.List.{list_any}
use Rattle.gr_base.proofs.Differences.{first-without}
use Rattle.gr_batch.specs.Bodies.{is_of}
use Rattle.gr_flight.proofs.inbox.Inbox.has_all.Goals as goal

pub returns-in-Some : goal.returns-in-Some
returns-in-Some g c =
    c.first.ensures.first
    ∙ ap (λ (ps : List ℕ). slice_get ps 0) c.difference.ensures.difference
    ∙ first-without (λ p. list_any (is_of p c.args.epoch c.args.stage) c.args.self.now) c.args.senders c.in-Some.there c.difference.ensures.places (λ p small. c.in-Some.ensures p small)
