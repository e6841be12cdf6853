use Rattle.std.proofs.Common.{sym, ltb, rules}
use Rattle.std.proofs.lemmas.List.Sorted.{IsPartitionPoint-from_clause, IsPartitionedBy-ltb}
use Rattle.gr_base.proofs.Rising.{not-falling, prefix-at_point}
use Rattle.gr_arcs.specs.Layers.{number_of}
use Rattle.gr_arcs.proofs.arcs.place_of.Goals as goal

pub returns : goal.returns
returns c =
    let xs = c.args.edges.now in
    let point = IsPartitionPoint-from_clause (λ x. ltb x.number c.args.number) xs c.partition_point.result c.partition_point.ensures.partitioned
    (IsPartitionedBy-ltb number_of xs c.args.number (not-falling number_of xs c.requires)) (λ a r f h. search rules) in
    sym (prefix-at_point number_of c.args.number xs c.partition_point.result c.partition_point.ensures.bound point)
