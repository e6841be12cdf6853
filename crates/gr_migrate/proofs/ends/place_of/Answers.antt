use Rattle.std.proofs.Common.{ℕ, sym, ltb, rules}
use Rattle.std.proofs.lemmas.List.Sorted.{IsPartitionPoint-from_clause, IsPartitionedBy-ltb}
use Rattle.gr_base.proofs.Rising.{not-falling, prefix-at_point}
use Rattle.gr_log.specs.Directory.{Entry}
use Rattle.gr_migrate.proofs.ends.place_of.Goals as goal

abbrev vertex_of : Entry → ℕ
vertex_of e = e.vertex

pub returns : goal.returns
returns c =
    let xs = c.args.entries.now in
    let point = IsPartitionPoint-from_clause (λ x. ltb x.vertex c.args.v) xs c.partition_point.result c.partition_point.ensures.partitioned
    (IsPartitionedBy-ltb vertex_of xs c.args.v (not-falling vertex_of xs c.requires)) (λ a r f h. search rules) in
    sym (prefix-at_point vertex_of c.args.v xs c.partition_point.result c.partition_point.ensures.bound point)
