use Rattle.std.proofs.Common.{◌∙◌, ◌++◌, ◌∷◌, [], map, sym, ap, subst, arith}
use Rattle.std.proofs.lemmas.List.{take_all}
use Rattle.gr_base.specs.Rising.{RisesBy}
use Rattle.gr_lists.proofs.Maps.{map-rises}
use Rattle.gr_signal.specs.Signals.{target_of}
use Rattle.gr_signal.proofs.Picked.{any, copies, copies-rise, copies-listed, targets-some, targets-none}
use Rattle.gr_signal.proofs.Selected.{vertex}
use Rattle.gr_signal.proofs.target.as_targets.Goals as goal
use Rattle.gr_signal.proofs.target.as_targets.Goals.{in-Some+in_ok-push, in_default}

pub invariant_of-result : goal.invariant_of-result
invariant_of-result g c =
    let rows = c.args.rows.now.stable in
    let vertices = c.args.vertices.now in
    subst (RisesBy (λ x. x.vertex)) (sym (c.loop-v.invariant.items ∙ ap (λ vs. map target_of (copies any rows vs)) (take_all c.loop-v.v-index vertices c.loop-v-test.false)))
    (map-rises target_of (λ x. x.vertex) (copies any rows vertices) (copies-rise any rows vertices c.requires))

pub returns : goal.returns
returns g c =
    let rows = c.args.rows.now.stable in
    let vertices = c.args.vertices.now in
    c.loop-v.invariant.items ∙ ap (λ vs. map target_of (copies any rows vs)) (take_all c.loop-v.v-index vertices c.loop-v-test.false)
    ∙ ap (map target_of) (copies-listed any rows vertices c.requires (λ some. c.loop-v.invariant.rise (omega arith)))

pub loop-v-preserved : goal.loop-v-preserved
loop-v-preserved g c =
    let rows = c.args.rows.now.stable in
    let i = c.loop-v.v-index in
    let next = c.args.vertices.now in
    record {
      rise = λ some. c.get.ensures.rise.stable_rises;
      items = elim c.match-get.branch [
        | in-Some+in_ok-push w ↦ w.items-is ∙ w.in_ok-push.ensures.ok ∙ ap (λ l. l ++ target_of w.in-Some.copy ∷ []) c.loop-v.invariant.items ∙ sym (targets-some rows next i _ c.loop-v-test.true w.in-Some.copy w.in-Some.ensures.copy)
        | in_default w ↦ w.items-is ∙ c.loop-v.invariant.items ∙ sym (targets-none rows next i _ c.loop-v-test.true w.in_default.ensures.copy)
      ];
    }
