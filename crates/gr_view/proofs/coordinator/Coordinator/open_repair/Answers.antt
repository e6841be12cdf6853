use Rattle.std.proofs.Common.{◌∙◌, Some, refl, ap, sym}
use Rattle.gr_view.specs.declared.coordinator.Coordinator.{Coordinator}
use Rattle.gr_view.specs.declared.coordinator.Mode.TheVariants as mode
use Rattle.gr_view.proofs.Decided.{repair-opens, repair-none, other-is_no_round}
use Rattle.gr_view.proofs.coordinator.Coordinator.open_repair.Goals as goal

pub returns-in-Running-clause-decision : goal.returns-in-Running-clause-decision
returns-in-Running-clause-decision c =
    ap (λ (co : Coordinator). (record co { mode = mode.Repairing }, Some co.epoch)) c.raise_epoch.ensures
    ∙ sym (repair-opens c.args.self.now c.args.self.now.mode c.in-Running.is)

pub returns-in_default-clause-decision : goal.returns-in_default-clause-decision
returns-in_default-clause-decision c = sym (repair-none c.args.self.now c.args.self.now.mode c.in_default.not-Running)

pub returns-in_default-clause-none : goal.returns-in_default-clause-none
returns-in_default-clause-none c = ((λ same. other-is_no_round c.args.self.now.mode c.in_default.not-Running), (λ other. refl))
