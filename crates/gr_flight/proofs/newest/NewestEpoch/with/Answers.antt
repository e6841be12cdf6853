use Rattle.std.proofs.Common.{◌≡◌, ◌<◌, ◌∙◌, ℕ, List, [], get_or, length, ap, arith}
use Rattle.std.proofs.lemmas.List.{get_or_default}
use Rattle.gr_base.specs.Places.{with_place}
use Rattle.gr_batch.specs.Stages.{code_of}
use Rattle.gr_flight.proofs.Senders.{is_of-other_epoch, is_of-other_sender, knows-beside, knows-put}
use Rattle.gr_flight.proofs.newest.NewestEpoch.with.Goals as goal

pub returns-then-batch-newest : goal.returns-then-batch-newest
returns-then-batch-newest g c = λ xs K.
    let n = c.since-newest.result in let b = c.args.batch.now in
    knows-beside n b xs (omega arith) (λ s p small. is_of-other_epoch p n.epoch s b (λ q. omega arith)) (c.since-newest.ensures.senders xs K)

pub returns-then-batch-ge64 : goal.returns-then-batch-ge64
returns-then-batch-ge64 g c = λ xs K.
    let n = c.since-newest.result in let b = c.args.batch.now in
    knows-beside n b xs (omega arith) (λ s p small. is_of-other_sender p n.epoch s b (λ q. omega arith)) (c.since-newest.ensures.senders xs K)

pub returns : goal.returns
returns g c = λ xs K.
    let n = c.since-newest.result in let b = c.args.batch.now in
    let i = c.index_of-i.result in
    let inside : i < length n.senders = omega arith in
    let at : b.epoch ≡ n.epoch = omega arith in
    let code = c.index_of-i.ensures.code ∙ ap code_of c.stage_of.ensures in
    let read : get_or n.senders i c.index-newest-i.result ≡ get_or n.senders i [] = get_or_default n.senders i c.index-newest-i.result [] inside in
    knows-put n b i c.with.result xs at code inside (c.with.ensures ∙ ap (λ (ps : List ℕ). with_place ps b.sender) read) (c.since-newest.ensures.senders xs K)
