use Rattle.std.proofs.Common.{sym, ltb, rules}
use Rattle.std.proofs.lemmas.List.Sorted.{IsPartitionPoint-from_clause, IsPartitionedBy-ltb}
use Rattle.gr_base.proofs.Rising.{not-falling, prefix-at_point}
use Rattle.gr_high.proofs.partial.place_of.Goals as goal

pub returns : goal.returns
returns g c =
    let xs = c.args.parts.now in
    let point = IsPartitionPoint-from_clause (λ x. ltb x.vertex c.args.v) xs c.partition_point.result c.partition_point.ensures.partitioned
    (IsPartitionedBy-ltb (λ x. x.vertex) xs c.args.v (not-falling (λ x. x.vertex) xs c.requires)) (λ a r f h. search rules) in
    sym (prefix-at_point (λ x. x.vertex) c.args.v xs c.partition_point.result c.partition_point.ensures.bound point)
