use Rattle.std.proofs.Common.{◌≡◌, ◌∙◌, ◌-◌, ℕ, true, arith, ap, sym, length}
use Rattle.gr_view.specs.declared.coordinator.Coordinator.{Coordinator}
use Rattle.gr_view.specs.declared.coordinator.Mode.TheVariants as mode
use Rattle.gr_view.specs.declared.coordinator.Opening.TheVariants as opening
use Rattle.gr_view.specs.Decisions.{may_recover, at_recovery}
use Rattle.gr_view.proofs.Decided.{recovery-idle, recovery-lost, recovery-opens, enough-spares}
use Rattle.gr_view.proofs.coordinator.Coordinator.open_recovery.Goals as goal

pub returns-then-not-may_recover-clause-decision : goal.returns-then-not-may_recover-clause-decision
returns-then-not-may_recover-clause-decision c = sym (recovery-idle c.args.self.now c.args.rebirth c.args.any_lost (cc))

pub returns-then-any_lost-clause-decision : goal.returns-then-any_lost-clause-decision
returns-then-any_lost-clause-decision c = cc (recovery-lost c.args.self.now c.args.rebirth (cc))

pub spares_left-self-requires : goal.spares_left-self-requires
spares_left-self-requires c =
    let may : may_recover c.args.self.now c.args.rebirth ≡ true = cc in
    omega (arith, enough-spares c.args.self.now c.args.rebirth may, ap (λ (co : Coordinator). co.spares) c.raise_epoch.ensures)

pub returns-clause-decision : goal.returns-clause-decision
returns-clause-decision c =
    let may : may_recover c.args.self.now c.args.rebirth ≡ true = cc in
    let left = c.spares_left-self.ensures ∙ ap (λ (n : ℕ). c.raise_epoch.new.self.spares - n) c.count.ensures in
    ap (λ (n : ℕ). (record c.raise_epoch.new.self { mode = mode.Recovering; reborn = c.args.rebirth; spares = n }, opening.Opened c.raise_epoch.new.self.epoch)) left
    ∙ ap (λ (co : Coordinator). (record co { mode = mode.Recovering; reborn = c.args.rebirth; spares = co.spares - length c.args.rebirth }, opening.Opened co.epoch)) c.raise_epoch.ensures
    ∙ sym (recovery-opens c.args.self.now c.args.rebirth may)
    ∙ ap (at_recovery c.args.self.now c.args.rebirth) (sym c.if-any_lost.false)
