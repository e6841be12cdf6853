use Rattle.std.proofs.Common.{◌≡◌, ◌<◌, ◌^◌, [], map, take}
use Rattle.std.specs.List.{All}
use Rattle.gr_edges.specs.Vertices.{vertex_of}
use Rattle.gr_edges.proofs.build.hinted_graph.Given as goal

abbrev pub invariant-loop-id : goal.invariant-loop-id
invariant-loop-id l = record {
  made : l.vertices.items ≡ map (vertex_of []) (take l.id-index l.ids);
  small : All (λ v. v.id < 2 ^ 32) l.vertices.items;
}
