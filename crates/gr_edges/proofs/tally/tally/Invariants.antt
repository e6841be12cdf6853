use Rattle.std.proofs.Common.{◌≡◌, ℕ, ◌<◌, eqb, cond, length, take, get_or}
use Rattle.std.specs.List.{count_by}
use Rattle.gr_base.specs.declared.records.Edge.{Edge}
use Rattle.gr_edges.proofs.tally.tally.Given as goal

abbrev pub invariant-loop-edge : goal.invariant-loop-edge
invariant-loop-edge l = record {
  len : length l.counts.items ≡ l.room;
  counts : (v : ℕ) → v < length l.counts.items → get_or l.counts.items v 0 ≡ count_by (λ (e : Edge). eqb (cond l.at_sources e.src e.dst) v) (take l.edge-index l.edges);
}
