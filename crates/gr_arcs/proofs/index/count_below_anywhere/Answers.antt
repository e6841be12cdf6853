use Rattle.std.proofs.Common.{sym, ltb, rules}
use Rattle.std.proofs.lemmas.List.Sorted.{IsPartitionPoint-from_clause, IsPartitionedBy-ltb}
use Rattle.gr_base.proofs.Rising.{prefix-at_point}
use Rattle.gr_base.specs.declared.records.NumberedEdge.{NumberedEdge}
use Rattle.gr_arcs.specs.End.{vertex_at}
use Rattle.gr_arcs.proofs.index.count_below_anywhere.Goals as goal

pub returns-clause-count : goal.returns-clause-count
returns-clause-count c =
    let xs = c.args.index.now in
    let at = λ (e : NumberedEdge). vertex_at c.args.end e.edge in
    let point = IsPartitionPoint-from_clause (λ x. ltb (at x) c.args.bound) xs c.partition_point.result c.partition_point.ensures.partitioned
    (IsPartitionedBy-ltb at xs c.args.bound c.requires) (λ a r f h. search rules) in
    sym (prefix-at_point at c.args.bound xs c.partition_point.result c.partition_point.ensures.bound point)
