use Rattle.std.proofs.Common.{◌∙◌, map, sym, ap, subst}
use Rattle.gr_base.specs.Places.{without_place}
use Rattle.gr_rows.specs.Layers.{CopyLayers, vertex_of}
use Rattle.std.specs.Prelude.{IsTrue}
use Rattle.gr_batch.specs.Stages.{is_end}
use Rattle.gr_round.specs.Kept.{is_of_targets, takes_targets, targets_in}
use Rattle.gr_round.specs.Needs.{RoundReady}
use Rattle.gr_round.proofs.Parties.{same-party}
use Rattle.gr_round.proofs.Rounds.{vertices-round}
use Rattle.gr_round.proofs.Steps.{computes-new, reports-end}
use Rattle.gr_round.proofs.line.PlaceRound.act.Goals as goal

pub stage_rows-requires-clause-needs : goal.stage_rows-requires-clause-needs
stage_rows-requires-clause-needs g c =
    subst (λ p. RoundReady (g.P.VertexProgram.program_of c.args.given.now.program.now) p c.args.given.now.inbox.now c.args.rows.now c.args.given.now.arcs.now.stable)
    (same-party c.args.me c.args.view.now c.args.self.now c.others_of.result c.stage.result c.has_new_values.result c.others_of.ensures c.stage.ensures c.has_new_values.ensures) c.requires.needs

pub stage_rows-requires-clause-targets : goal.stage_rows-requires-clause-targets
stage_rows-requires-clause-targets g c = λ on.
    let given = c.args.given.now in
    let takes = subst (λ n. IsTrue (takes_targets c.args.self.now.exchange.stage n)) c.in-Compute.ensures.next (subst (λ s. IsTrue (is_end s)) c.stage.ensures on) in
    c.requires.targets takes
    ∙ ap (λ p. targets_in (g.P.VertexProgram.program_of given.program.now) p given.inbox.now c.args.rows.now.stable given.arcs.now.stable)
    (same-party c.args.me c.args.view.now c.args.self.now c.others_of.result c.stage.result c.has_new_values.result c.others_of.ensures c.stage.ensures c.has_new_values.ensures)

pub note_computed-requires : goal.note_computed-requires
note_computed-requires g c =
    computes-new c.args.given.now.inbox.now c.args.view.now.epoch (without_place c.args.view.now.parties c.args.me) c.args.self.now.exchange c.args.self.now.reported (sym c.in-Compute.ensures.next)

pub body_to-requires-clause-place : goal.body_to-requires-clause-place
body_to-requires-clause-place g c = c.in-Send.ensures.place

pub body_to-requires-clause-needs : goal.body_to-requires-clause-needs
body_to-requires-clause-needs g c =
    (subst (λ p. RoundReady (g.P.VertexProgram.program_of c.args.given.now.program.now) p c.args.given.now.inbox.now c.args.rows.now c.args.given.now.arcs.now.stable)
    (same-party c.args.me c.args.view.now c.args.self.now c.others_of.result c.stage.result c.has_new_values.result c.others_of.ensures c.stage.ensures c.has_new_values.ensures) c.requires.needs).news

pub body_to-requires-clause-signals : goal.body_to-requires-clause-signals
body_to-requires-clause-signals g c =
    (subst (λ p. RoundReady (g.P.VertexProgram.program_of c.args.given.now.program.now) p c.args.given.now.inbox.now c.args.rows.now c.args.given.now.arcs.now.stable)
    (same-party c.args.me c.args.view.now c.args.self.now c.others_of.result c.stage.result c.has_new_values.result c.others_of.ensures c.stage.ensures c.has_new_values.ensures) c.requires.needs).signals

pub body_to-requires-clause-targets : goal.body_to-requires-clause-targets
body_to-requires-clause-targets g c = λ on.
    let given = c.args.given.now in
    let takes = subst (λ n. IsTrue (takes_targets c.args.self.now.exchange.stage n)) c.in-Send.ensures.next (subst (λ s. IsTrue (is_of_targets s)) c.stage.ensures on) in
    c.requires.targets takes
    ∙ ap (λ p. targets_in (g.P.VertexProgram.program_of given.program.now) p given.inbox.now c.args.rows.now.stable given.arcs.now.stable)
    (same-party c.args.me c.args.view.now c.args.self.now c.others_of.result c.stage.result c.has_new_values.result c.others_of.ensures c.stage.ensures c.has_new_values.ensures)

pub note_reported-requires-clause-computed : goal.note_reported-requires-clause-computed
note_reported-requires-clause-computed g c =
    (reports-end c.args.given.now.inbox.now c.args.view.now.epoch (without_place c.args.view.now.parties c.args.me) c.args.self.now.exchange c.args.self.now.reported (sym c.in-Report.ensures.next)).0

pub note_reported-requires-clause-end : goal.note_reported-requires-clause-end
note_reported-requires-clause-end g c =
    (reports-end c.args.given.now.inbox.now c.args.view.now.epoch (without_place c.args.view.now.parties c.args.me) c.args.self.now.exchange c.args.self.now.reported (sym c.in-Report.ensures.next)).1

pub returns-in_ok-stage_rows-in-Compute-clause-vertices : goal.returns-in_ok-stage_rows-in-Compute-clause-vertices
returns-in_ok-stage_rows-in-Compute-clause-vertices g c =
    let p = g.P.VertexProgram.program_of c.args.given.now.program.now in
    let rows = c.args.rows.now in
    let is = c.in_ok-stage_rows-in-Compute.ensures.ok in
    ap (λ (l : CopyLayers g.row.P-Value.Denot). map vertex_of l.pending) is
    ∙ vertices-round p c.args.me c.args.view.now.epoch c.others_of.result c.args.given.now.inbox.now rows.stable c.args.given.now.arcs.now.stable c.stage.result rows.pending
    ∙ c.requires.needs.pending ∙ sym (ap (λ (l : CopyLayers g.row.P-Value.Denot). map vertex_of l.stable) is)
