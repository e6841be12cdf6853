use Rattle.std.proofs.Common.{◌∙◌, ◌||◌, ◌==◌, get_or, map, take, sym, ap}
use Rattle.std.proofs.lemmas.List.{take_more}
use Rattle.std.proofs.lemmas.List.Folds.{list_any-append}
use Rattle.gr_base.specs.Rising.{has}
use Rattle.gr_signal.specs.Signals.{is_target}
use Rattle.gr_signal.proofs.Ends.{target-none, target-more}
use Rattle.gr_signal.proofs.edge_targets.ends_of.Goals as goal

pub loop-v-init : goal.loop-v-init
loop-v-init c = λ t. ap (λ l. has l t) c.new-ends.ensures.items ∙ sym (target-none c.args.arcs.now.stable t)

pub loop-v-preserved : goal.loop-v-preserved
loop-v-preserved c = λ t.
    let woken = c.args.woken.now in
    let arcs = c.args.arcs.now.stable in
    let i = c.loop-v.v-index in
    let found = c.edges_out_of.result.now in
    ap (λ l. has l t) c.in_ok-push_targets.ensures
    ∙ list_any-append (λ x. x == t) c.loop-v.ends.items (map (λ e. e.edge.dst) found)
    ∙ ap (λ b. b || has (map (λ e. e.edge.dst) found) t) (c.loop-v.invariant t)
    ∙ ap (λ es. is_target (take i woken) arcs t || has (map (λ e. e.edge.dst) es) t) c.edges_out_of.ensures.edges
    ∙ sym (ap (λ us. is_target us arcs t) (take_more woken i 0 c.loop-v-test.true) ∙ target-more (take i woken) (get_or woken i 0) arcs t)
