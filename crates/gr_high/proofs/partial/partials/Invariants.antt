use Rattle.std.proofs.Common.{◌≡◌, ◌≤◌, ◌-◌, IsTrue, length, take}
use Rattle.std.specs.List.{All, filter_map}
use Rattle.gr_rules.specs.Round.{gather_line}
use Rattle.gr_high.proofs.DueCopies.{due_copies}
use Rattle.gr_high.proofs.partial.partials.Given as goal

abbrev pub invariant-loop-copy : goal.invariant-loop-copy
invariant-loop-copy g l =
    let p = g.P.VertexProgram.program_of l.program in
    record {
      within : l.i ≤ length (due_copies l.rows.stable);
      parts : l.parts ≡ filter_map (gather_line p l.theta l.to l.rows.stable l.arcs.stable) (take l.i (due_copies l.rows.stable));
      kept : All (λ x. IsTrue (p.is_acc x.acc)) l.parts;
    }

abbrev pub decreases-loop-copy : goal.decreases-loop-copy
decreases-loop-copy g l = length (due_copies l.rows.stable) - l.i
