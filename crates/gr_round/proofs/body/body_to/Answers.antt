use Rattle.std.proofs.Common.{◌∙◌, sym, ap}
use Rattle.gr_batch.specs.declared.stage.Stage.TheVariants as stage
use Rattle.gr_batch.specs.declared.body.Body.TheVariants as body
use Rattle.gr_rules.specs.AtPlace.{known_values, round_body}
use Rattle.gr_signal.specs.Signals.{signals_to}
use Rattle.gr_signal.proofs.Signalled.{signals-signalled}
use Rattle.gr_round.specs.Kept.{is_of_targets}
use Rattle.gr_round.proofs.body.body_to.Goals as goal

pub returns-in_ok-mastered_by-in-Signal : goal.returns-in_ok-mastered_by-in-Signal
returns-in_ok-mastered_by-in-Signal g c =
    let p = g.P.VertexProgram.program_of c.args.given.now.program.now in
    let rows = c.args.rows.now.stable in
    let arcs = c.args.given.now.arcs.now.stable in
    let party = c.args.party.now in
    let known = known_values p party.place party.epoch party.others c.args.given.now.inbox.now rows arcs in
    let fit = c.requires.targets (ap is_of_targets c.in-Signal.is) in
    ap body.Signal (c.in_ok-mastered_by-in-Signal.ensures.body ∙ ap (λ ts. signals_to ts c.args.to) fit ∙ signals-signalled known rows arcs c.args.to)
    ∙ ap (round_body p party.place party.epoch party.others c.args.given.now.inbox.now rows arcs party.theta c.args.to) (sym c.in-Signal.is)

pub call_body-requires-clause-targets : goal.call_body-requires-clause-targets
call_body-requires-clause-targets g c = c.requires.targets (ap is_of_targets c.in-Call.is)

pub returns-in_ok-called-in-Call : goal.returns-in_ok-called-in-Call
returns-in_ok-called-in-Call g c =
    let p = g.P.VertexProgram.program_of c.args.given.now.program.now in
    let rows = c.args.rows.now.stable in
    let arcs = c.args.given.now.arcs.now.stable in
    let party = c.args.party.now in
    ap body.Call c.in_ok-called-in-Call.ensures
    ∙ ap (round_body p party.place party.epoch party.others c.args.given.now.inbox.now rows arcs party.theta c.args.to) (sym c.in-Call.is)
