use Rattle.std.proofs.Common.{◌∙◌, ◌+◌, sym, refl}
use Rattle.gr_copies.specs.Holders.{extras}
use Rattle.gr_repair.proofs.Granted.{not-short, no-place, no-holder, granted}
use Rattle.gr_repair.proofs.grant.copy_for.Goals as goal

pub returns-then-not-is_short : goal.returns-then-not-is_short
returns-then-not-is_short g c =
    let w = c.args.view.now in
    let k = c.args.copy.now in
    not-short w c.requires.dead c.is_short.ensures.places.rise c.args.me c.args.to k c.requires.held.master (extras w.live (w.losses + 1) k.master k.holders) (λ r. refl)
    (sym c.is_short.ensures.short ∙ c.if-not-is_short.true)

pub returns-then-to-view : goal.returns-then-to-view
returns-then-to-view g c =
    let w = c.args.view.now in
    let k = c.args.copy.now in
    no-place w c.requires.dead c.is_short.ensures.places.rise c.args.me c.args.to k c.requires.held.master (extras w.live (w.losses + 1) k.master k.holders) (λ r. refl) c.if-to-view.true

pub returns-then-not-has : goal.returns-then-not-has
returns-then-not-has g c =
    let w = c.args.view.now in
    no-holder w c.requires.dead c.is_short.ensures.places.rise c.args.me c.args.to c.args.copy.now c.requires.held.master c.extras_of.result c.extras_of.ensures
    c.either-holders.result c.either-holders.ensures (sym c.has.ensures.test ∙ c.if-not-has.true)

pub returns : goal.returns
returns g c =
    let w = c.args.view.now in
    granted w c.requires.dead c.is_short.ensures.places.rise c.args.me c.args.to c.args.copy.now c.requires.held.master c.extras_of.result c.extras_of.ensures
    c.either-holders.result c.value_at-value.result c.either-holders.ensures c.value_at-value.ensures
    (sym c.is_short.ensures.short ∙ c.if-not-is_short.false) (sym c.has.ensures.test ∙ c.if-not-has.false)
