use Rattle.std.proofs.Common.{◌≡◌, ℕ, map, take, IsTrue}
use Rattle.gr_program.specs.Program.{total}
use Rattle.gr_uncut.specs.Round.{Reads, brought}
use Rattle.gr_uncut.proofs.gather.gathered.Given as goal

abbrev pub invariant-loop-arc : goal.invariant-loop-arc
invariant-loop-arc g l =
    let p = g.P.VertexProgram.program_of l.program in
    record {
      sum : (x : ℕ → g.row.P-Value.Denot) → Reads x l.values → l.sum ≡ total p (map (brought p x) (take l.arc-index l.arcs));
      kept : IsTrue (p.is_acc l.sum);
    }
