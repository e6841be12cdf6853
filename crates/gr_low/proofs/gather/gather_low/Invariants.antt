use Rattle.std.proofs.Common.{◌≡◌, IsTrue, take, map}
use Rattle.std.specs.List.{filter}
use Rattle.gr_base.specs.declared.records.NumberedEdge.{NumberedEdge}
use Rattle.gr_program.specs.Program.{total}
use Rattle.gr_rules.specs.Rows.{row, into}
use Rattle.gr_rules.specs.Round.{along_row}
use Rattle.gr_low.proofs.gather.gather_low.Given as goal

abbrev pub invariant-loop-edge : goal.invariant-loop-edge
invariant-loop-edge g l =
    let p = g.P.VertexProgram.program_of l.program in
    record {
      edges : l.edge-items ≡ filter (into l.v) l.arcs.stable;
      sum : l.sum ≡ total p (map (λ (a : NumberedEdge). along_row p (row l.rows.stable a.edge.src) a.edge.weight) (take l.edge-index l.edge-items));
      kept : IsTrue (p.is_acc l.sum);
    }
