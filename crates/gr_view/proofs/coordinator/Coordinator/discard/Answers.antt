use Rattle.std.proofs.Common.{◌∙◌, Some, ap, sym}
use Rattle.gr_view.specs.declared.coordinator.Coordinator.{Coordinator}
use Rattle.gr_view.specs.declared.coordinator.Mode.TheVariants as mode
use Rattle.gr_view.proofs.Decided.{discard-begins_anew, discard-sends_back, discard-none}
use Rattle.gr_view.proofs.coordinator.Coordinator.discard.Goals as goal

pub returns-in-Running-clause-decision : goal.returns-in-Running-clause-decision
returns-in-Running-clause-decision c =
    ap (λ (co : Coordinator). (record co { mode = mode.Running }, Some co.epoch)) c.raise_epoch.ensures
    ∙ sym (discard-begins_anew c.args.self.now c.args.crashed c.args.self.now.mode c.in-Running.is)

pub returns-in-Recovering-clause-decision : goal.returns-in-Recovering-clause-decision
returns-in-Recovering-clause-decision c =
    ap (λ (co : Coordinator). (co, Some co.epoch)) c.send_back.ensures
    ∙ sym (discard-sends_back c.args.self.now c.args.crashed c.args.self.now.mode c.in-Recovering.is)

pub returns-in_default-clause-decision : goal.returns-in_default-clause-decision
returns-in_default-clause-decision c =
    sym (discard-none c.args.self.now c.args.crashed c.args.self.now.mode c.in_default.not-Running c.in_default.not-Repairing c.in_default.not-Recovering)
