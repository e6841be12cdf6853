use Rattle.std.proofs.Common.{subst}
use Rattle.gr_round.specs.Needs.{ValuesReady}
use Rattle.gr_round.proofs.Parties.{same-party}
use Rattle.gr_round.proofs.line.PlaceRound.targets.Goals as goal

pub targets_at-requires : goal.targets_at-requires
targets_at-requires g c = record {
  needs = subst (λ p. ValuesReady (g.P.VertexProgram.program_of c.args.given.now.program.now) p c.args.given.now.inbox.now c.args.rows.now c.args.given.now.arcs.now.stable)
      (same-party c.args.me c.args.view.now c.args.self.now c.others_of.result c.stage.result c.has_new_values.result c.others_of.ensures c.stage.ensures c.has_new_values.ensures) c.requires.needs;
}
