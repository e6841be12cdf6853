use Rattle.std.proofs.Common.{◌≡◌, ◌++◌, ◌<◌, ◌^◌, take}
use Rattle.std.specs.List.{All, flat_map}
use Rattle.gr_edges.specs.Text.{vertex_line, edge_line, Has32Bits}
use Rattle.gr_edges.proofs.print.append_lines.Given as goal

abbrev pub invariant-loop-v : goal.invariant-loop-v
invariant-loop-v l = record {
  lines : l.into.items ≡ l.initial.into.items ++ flat_map vertex_line (take l.v-index l.v-items);
  small : All (λ v. v.id < 2 ^ 32) (take l.v-index l.v-items);
}

abbrev pub invariant-loop-e : goal.invariant-loop-e
invariant-loop-e l = record {
  lines : l.into.items ≡ l.initial.into.items ++ flat_map edge_line (take l.e-index l.e-items);
  small : All Has32Bits (take l.e-index l.e-items);
}
