use Rattle.std.proofs.Common.{◌≡◌, ◌≤◌, take, map}
use Rattle.std.specs.Vec.{vec_capacity}
use Rattle.gr_rows.specs.Layers.{vertex_of}
use Rattle.gr_rows.proofs.layer.push_vertices.Given as goal

abbrev pub invariant-loop-copy : goal.invariant-loop-copy
invariant-loop-copy g l = record {
  vertices : l.vertices.items ≡ map vertex_of (take l.copy-index l.copies);
  capacity : vec_capacity l.initial.vertices ≤ vec_capacity l.vertices;
}
