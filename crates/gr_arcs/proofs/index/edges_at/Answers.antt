use Rattle.std.proofs.Common.{◌∙◌, ◌+◌, ◌≡◌, ◌-◌, ap, take, drop, arith}
use Rattle.std.proofs.lemmas.List.{take_rest}
use Rattle.gr_base.specs.declared.records.NumberedEdge.{NumberedEdge}
use Rattle.gr_arcs.specs.End.{vertex_at}
use Rattle.gr_arcs.proofs.Runs.{before, before-more, run-of-key}
use Rattle.gr_arcs.proofs.index.edges_at.Goals as goal

pub slice_bounds-result-count : goal.slice_bounds-result-count
slice_bounds-result-count c =
    let at = λ (e : NumberedEdge). vertex_at c.args.end e.edge in
    let xs = c.args.index.now in
    let v = c.args.v in
    let first = c.count_below-first.ensures.count ∙ ap (λ w. before at v w xs) c.from-v.ensures in
    let past = c.count_through-past.ensures.count ∙ ap (λ w. before at v (w + 1) xs) c.from-v.ensures in
    omega (arith, first, past, before-more at v xs)

pub returns : goal.returns
returns c =
    let at = λ (e : NumberedEdge). vertex_at c.args.end e.edge in
    let xs = c.args.index.now in
    let v = c.args.v in
    let n = c.count_below-first.result in
    let first : n ≡ before at v v xs = c.count_below-first.ensures.count ∙ ap (λ w. before at v w xs) c.from-v.ensures in
    let past = c.count_through-past.ensures.count ∙ ap (λ w. before at v (w + 1) xs) c.from-v.ensures in
    ap (take (c.count_through-past.result - n)) (take_rest xs n)
    ∙ ap (λ k. take (k - n) (drop n xs)) past
    ∙ ap (λ k. take (before at v (v + 1) xs - k) (drop k xs)) first
    ∙ run-of-key at v xs c.requires
