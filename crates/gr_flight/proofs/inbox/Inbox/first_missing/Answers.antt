use Rattle.std.proofs.Common.{◌∙◌, ◌<◌, ℕ, not, sym, ap, arith}
use Rattle.std.specs.List.{list_any}
use Rattle.std.proofs.lemmas.List.Elements.{All-contains}
use Rattle.gr_base.proofs.PlaceTests.{has-contains}
use Rattle.gr_base.proofs.Missing.{none-missing, first-missing}
use Rattle.gr_batch.specs.Bodies.{is_of}
use Rattle.gr_flight.proofs.inbox.Inbox.first_missing.Goals as goal

pub returns-then-not-has_batch : goal.returns-then-not-has_batch
returns-then-not-has_batch g c =
    sym (first-missing (λ p. not (list_any (is_of p c.args.epoch c.args.stage) c.args.self.now)) c.args.senders c.loop-p.p c.has.ensures.places.rise
    (sym c.has.ensures.test ∙ c.if-has.true)
    (ap not (sym c.has_batch.ensures ∙ c.if-not-has_batch.true))
    (λ q l s. ap not (c.loop-p.invariant.passed q l s)))

pub returns : goal.returns
returns g c =
    let i = c.loop-p.invariant in
    sym (none-missing (λ p. not (list_any (is_of p c.args.epoch c.args.stage) c.args.self.now)) c.args.senders
    (λ q s. let b = All-contains (λ (p : ℕ). p < 64) c.args.senders q (i.places (omega arith)).below (has-contains c.args.senders q s) in ap not (i.passed q (omega arith) s)))
