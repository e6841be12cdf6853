use Rattle.std.proofs.Common.{◌≡◌, ◌∙◌, ℕ, List, filter, map, ap}
use Rattle.std.proofs.lemmas.Result.{IfOk-weaker}
use Rattle.gr_base.specs.Rising.{has}
use Rattle.gr_batch.specs.declared.body.NewValue.{NewValue}
use Rattle.gr_rules.specs.Round.{woke_by}
use Rattle.gr_signal.specs.Signals.{is_target, target_of, signalled}
use Rattle.gr_signal.proofs.Signalled.{listed-same, targets-signalled}
use Rattle.gr_signal.proofs.target.targets_from.Goals as goal

pub returns-clause-signal : goal.returns-clause-signal
returns-clause-signal g c =
    let rows = c.args.rows.now.stable in
    let woken = c.args.woken.now in
    let arcs = c.args.arcs.now.stable in
    let ends = c.as_slice.result.now in
    IfOk-weaker c.as_targets.result (λ targets. targets ≡ map target_of (filter (λ c. has ends c.vertex) rows))
    (λ targets. (news : List (NewValue g.row.V.Denot)) → ((v : ℕ) → has woken v ≡ woke_by news v) → targets ≡ signalled news rows arcs)
    (λ targets is news same. is
    ∙ listed-same (has ends) (λ v. is_target woken arcs v) (λ v. ap (λ l. has l v) c.as_slice.ensures ∙ c.in_ok-ends.ensures.members v) rows
    ∙ targets-signalled woken rows arcs news same) c.as_targets.ensures
