use Rattle.std.proofs.Common.{◌≡◌, ◌≤◌, ◌-◌, length}
use Rattle.std.specs.List.{All}
use Rattle.gr_edges.specs.Vertices.{ids}
use Rattle.gr_program.specs.Rounds.{state_after, last_from, last_round}
use Rattle.gr_uncut.specs.Round.{Holds}
use Rattle.gr_uncut.proofs.rounds.plain_rounds.Given as goal

abbrev pub invariant-rounds : goal.invariant-rounds
invariant-rounds g l =
    let p = g.P.VertexProgram.program_of l.program in
    let vs = ids l.graph.vertices in
    record {
      within : l.last ≤ l.limit;
      holds : Holds p vs (state_after p l.graph.edges l.last) l.values l.active;
      long : length l.stamps ≡ length l.graph.vertices;
      stamps : All (λ stamp. stamp ≤ l.last) l.stamps;
      rest : last_from p l.graph.edges vs (l.limit - l.last) l.last ≡ last_round p l.graph.edges vs l.limit;
    }

abbrev pub decreases-rounds : goal.decreases-rounds
decreases-rounds g l = l.limit - l.last
