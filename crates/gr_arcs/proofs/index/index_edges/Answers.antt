use Rattle.std.proofs.Common.{List, ◌≡◌, subst, rules}
use Rattle.std.specs.List.Sorted.{IsPermutation}
use Rattle.std.proofs.lemmas.Fn.{always_returns_same}
use Rattle.std.proofs.lemmas.List.Sorted.{length_permutation}
use Rattle.gr_base.specs.declared.records.NumberedEdge.{NumberedEdge}
use Rattle.gr_arcs.specs.End.{vertex_at}
use Rattle.gr_arcs.specs.Layers.{number_of}
use Rattle.gr_arcs.proofs.Orders.{order_from_sort, filter-permutation}
use Rattle.gr_arcs.proofs.index.index_edges.Goals as goal

pub returns-clause-index : goal.returns-clause-index
returns-clause-index c =
    let at = λ (e : NumberedEdge). vertex_at c.args.end e.edge in
    let xs = c.args.edges.now in
    let ys = c.sort_unstable_by_key.new.self.items in
    let same = subst (λ (l : List NumberedEdge). IsPermutation l ys) c.copy_over.ensures.items c.sort_unstable_by_key.ensures.permutation in
    let order = order_from_sort at number_of ys (c.sort_unstable_by_key.ensures.sorted (λ e. (at e, e.number)) (always_returns_same _ (λ a r. r ≡ (at a.0.now, a.0.now.number)) _ (λ a r f h. search rules))) in
    record { grouped = order.0; same = λ v. filter-permutation at number_of v xs ys c.requires.rises same order.1; len = length_permutation xs ys same }
