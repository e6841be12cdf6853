use Rattle.std.proofs.Common.{◌≡◌, ltb, sym, rules}
use Rattle.std.specs.List.{prefix_len}
use Rattle.std.proofs.lemmas.List.Sorted.{IsPartitionPoint-from_clause, IsPartitionedBy-ltb}
use Rattle.gr_base.proofs.Rising.{not-falling, prefix-at_point}
use Rattle.gr_edges.specs.declared.graph.VertexInfo.{VertexInfo}
use Rattle.gr_edges.specs.Vertices.{id_of}
use Rattle.gr_edges.proofs.Degrees.{stands-there}
use Rattle.gr_edges.proofs.positions.searched_position.Goals as goal

pub returns : goal.returns
returns c =
    let vs = c.args.vertices.now in
    let point = IsPartitionPoint-from_clause (λ (x : VertexInfo). ltb x.id c.args.id) vs c.partition_point.result c.partition_point.ensures.partitioned
    (IsPartitionedBy-ltb id_of vs c.args.id (not-falling id_of vs c.requires.rise)) (λ a r f h. search rules) in
    let position : prefix_len (λ (x : VertexInfo). ltb (id_of x) c.args.id) vs ≡ c.partition_point.result = prefix-at_point id_of c.args.id vs c.partition_point.result c.partition_point.ensures.bound point in
    let there = stands-there c.args.id vs c.partition_point.result c.requires.rise c.requires.stands position in
    record { position = sym position; within = there.0; found = there.1 }
