use Rattle.std.proofs.Common.{◌∙◌, Some, None, ap, sym}
use Rattle.std.specs.Prelude.{if◌then◌else◌}
use Rattle.gr_base.specs.Rising.{has}
use Rattle.gr_migrate.specs.Granted.{holders_after}
use Rattle.gr_migrate.proofs.GrantLines.{holders_for-past, holders_for-unmet, holders_for-met}
use Rattle.gr_migrate.proofs.grant.granted_holders.Goals as goal

pub returns-then-to-view : goal.returns-then-to-view
returns-then-to-view c = holders_for-past c.args.view.now c.args.holders c.args.askers c.args.to c.if-to-view.true

pub returns-then-count-meets : goal.returns-then-count-meets
returns-then-count-meets c =
    holders_for-unmet c.args.view.now c.args.holders c.args.askers c.args.to c.count.result c.meets.result c.count.ensures c.meets.ensures c.if-count-meets.true

pub returns-then-has : goal.returns-then-has
returns-then-has c =
    let w = c.args.view.now in
    let all = holders_after w c.args.holders c.args.askers in
    let on = ap (λ l. has l c.args.to) (sym c.new_holders-holders.ensures) ∙ (sym c.has.ensures.test ∙ c.if-has.true) in
    ap Some c.new_holders-holders.ensures
    ∙ sym (holders_for-met w c.args.holders c.args.askers c.args.to c.count.result c.meets.result c.count.ensures c.meets.ensures c.if-count-meets.false ∙ ap (λ b. if b then Some all else None) on)

pub returns-else-has : goal.returns-else-has
returns-else-has c =
    let w = c.args.view.now in
    let all = holders_after w c.args.holders c.args.askers in
    let off = ap (λ l. has l c.args.to) (sym c.new_holders-holders.ensures) ∙ (sym c.has.ensures.test ∙ c.if-has.false) in
    sym (holders_for-met w c.args.holders c.args.askers c.args.to c.count.result c.meets.result c.count.ensures c.meets.ensures c.if-count-meets.false ∙ ap (λ b. if b then Some all else None) off)
