use Rattle.std.proofs.Common.{◌≡◌, ◌∙◌, Some, None, false, ap, arith, sym}
use Rattle.gr_view.specs.declared.coordinator.Coordinator.{Coordinator}
use Rattle.gr_view.specs.declared.coordinator.Verdict.TheVariants as verdict
use Rattle.gr_view.specs.Modes.{is_over, is_failed}
use Rattle.gr_view.specs.Decisions.{commit_unless, unready}
use Rattle.gr_view.proofs.Decided.{barrier-over, barrier-fails, barrier-after_failure, barrier-unless}
use Rattle.gr_view.proofs.coordinator.Coordinator.barrier.Goals as goal

pub returns-then-is_over-clause-decision : goal.returns-then-is_over-clause-decision
returns-then-is_over-clause-decision c = sym (barrier-over c.args.self.now c.args.crashed (cc))

pub returns-then-count-gt0-clause-decision : goal.returns-then-count-gt0-clause-decision
returns-then-count-gt0-clause-decision c = cc (barrier-fails c.args.self.now c.args.crashed (cc) (omega arith))

pub returns-then-is_failed-clause-decision : goal.returns-then-is_failed-clause-decision
returns-then-is_failed-clause-decision c = sym (barrier-after_failure c.args.self.now c.args.crashed (cc) (omega arith) (cc))

pub returns-in-Some-clause-decision : goal.returns-in-Some-clause-decision
returns-in-Some-clause-decision c =
    let is : unready c.args.self.now ≡ Some c.in-Some.p = sym c.unready.ensures ∙ c.in-Some.is in
    let on : is_over c.args.self.now.mode ≡ false = cc in
    let stands : is_failed c.args.self.now.mode ≡ false = cc in
    sym (barrier-unless c.args.self.now c.args.crashed on (omega arith) stands ∙ ap (commit_unless c.args.self.now) is)

pub returns-in-None-clause-decision : goal.returns-in-None-clause-decision
returns-in-None-clause-decision c =
    let is : unready c.args.self.now ≡ None = sym c.unready.ensures ∙ c.in-None.is in
    let on : is_over c.args.self.now.mode ≡ false = cc in
    let stands : is_failed c.args.self.now.mode ≡ false = cc in
    ap (λ (co : Coordinator). (co, verdict.Committed co.commits co.round c.args.self.now.due)) c.commit.ensures
    ∙ sym (barrier-unless c.args.self.now c.args.crashed on (omega arith) stands ∙ ap (commit_unless c.args.self.now) is)
