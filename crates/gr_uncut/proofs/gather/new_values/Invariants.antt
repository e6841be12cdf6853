use Rattle.std.proofs.Common.{◌≡◌, ℕ, map, take, length, IsTrue}
use Rattle.std.specs.List.{All}
use Rattle.gr_edges.specs.Vertices.{ids}
use Rattle.gr_uncut.specs.Round.{Reads, applied}
use Rattle.gr_uncut.proofs.gather.new_values.Given as goal

abbrev pub invariant-loop-position : goal.invariant-loop-position
invariant-loop-position g l =
    let p = g.P.VertexProgram.program_of l.program in
    record {
      long : length l.new ≡ l.position-index;
      values : (x : ℕ → g.row.P-Value.Denot) → Reads x l.values → l.new ≡ map (applied p (ids l.vertices) l.index x) (take l.position-index l.active);
      kept : All (λ x. IsTrue (p.is_value x)) l.new;
    }
