use Rattle.std.proofs.Common.{◌≡◌, ◌≤◌, ◌-◌, length, take}
use Rattle.gr_batch.specs.declared.stage.Stage.TheVariants as stage
use Rattle.gr_rules.specs.Round.{new_value}
use Rattle.gr_high.proofs.DueCopies.{due_copies}
use Rattle.gr_round.specs.Party.{brought_to}
use Rattle.gr_round.proofs.Selecting.{chosen, is_own}
use Rattle.gr_round.proofs.values.own_values.Given as goal

abbrev pub invariant-loop-copy : goal.invariant-loop-copy
invariant-loop-copy g l = record {
  within : l.i ≤ length (due_copies l.rows.stable);
  news : l.news ≡ chosen (is_own l.party.place) (new_value (g.P.VertexProgram.program_of l.given.program.now) l.rows.stable l.given.arcs.now.stable (brought_to l.party l.given.inbox.now stage.Gather)) (take l.i (due_copies l.rows.stable));
}

abbrev pub decreases-loop-copy : goal.decreases-loop-copy
decreases-loop-copy g l = length (due_copies l.rows.stable) - l.i
