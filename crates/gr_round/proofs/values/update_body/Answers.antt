use Rattle.std.proofs.Common.{◌≡◌, ◌∙◌, sym, ap, arith}
use Rattle.std.proofs.lemmas.Bool.{and_parts}
use Rattle.gr_base.proofs.Nth.{get-some}
use Rattle.gr_batch.specs.declared.stage.Stage.TheVariants as stage
use Rattle.gr_rules.specs.Round.{new_value}
use Rattle.gr_high.proofs.DueCopies.{due_copies}
use Rattle.gr_round.specs.Party.{brought_to}
use Rattle.gr_round.proofs.Selecting.{due-value, due-staged, chosen, chosen-more, chosen-same, chosen-whole, chosen-due_copies, is_own, is_updated, updated-are, updated-not_due}
use Rattle.gr_round.proofs.values.update_body.Goals as goal
use Rattle.gr_round.proofs.values.update_body.Goals.{then-is_updated+in_ok-push, else-is_updated}

pub new_value-requires-clause-value : goal.new_value-requires-clause-value
new_value-requires-clause-value g c =
    due-value (g.P.VertexProgram.program_of c.args.given.now.program.now) c.args.party.now c.args.given.now.inbox.now c.args.rows.now c.args.given.now.arcs.now.stable c.requires.needs c.loop-copy.i c.in-Some.copy c.in-Some.ensures.copy

pub new_value-requires-clause-staged : goal.new_value-requires-clause-staged
new_value-requires-clause-staged g c =
    due-staged (g.P.VertexProgram.program_of c.args.given.now.program.now) c.args.party.now c.args.given.now.inbox.now c.args.rows.now c.args.given.now.arcs.now.stable c.requires.needs c.loop-copy.i c.in-Some.copy c.in-Some.ensures.copy
    (and_parts (is_own c.args.party.now.place c.in-Some.copy) _ (sym c.is_updated.ensures ∙ c.if-is_updated.true)).0

pub loop-copy-preserved : goal.loop-copy-preserved
loop-copy-preserved g c =
    let given = c.args.given.now in
    let p = g.P.VertexProgram.program_of given.program.now in
    let rows = c.args.rows.now.stable in
    let party = c.args.party.now in
    let gathers = brought_to party given.inbox.now stage.Gather in
    let t = is_updated c.args.to g.P.VertexProgram.FORGETFUL party.place in
    let f = new_value p rows given.arcs.now.stable gathers in
    let due = due_copies rows in
    let x = c.in-Some.copy in
    let at = get-some due c.loop-copy.i x c.in-Some.ensures.copy in
    let is : t x ≡ c.is_updated.result = sym (c.is_updated.ensures ∙ ap (λ b. is_updated c.args.to b party.place x) c.FORGETFUL.ensures) in
    record {
      within = omega (arith, at.0);
      news = elim c.if-is_updated.branch [
        | then-is_updated+in_ok-push w ↦
            w.news-is ∙ w.in_ok-push.ensures.ok
            ∙ chosen-more t f due c.loop-copy.i x _ c.in-Some.ensures.copy (is ∙ w.if-is_updated.true) c.loop-copy.invariant.news w.new_value.result w.new_value.ensures
        | else-is_updated w ↦ w.news-is ∙ chosen-same t f due c.loop-copy.i x _ c.in-Some.ensures.copy (is ∙ w.if-is_updated.false) c.loop-copy.invariant.news
      ];
    }

pub returns : goal.returns
returns g c =
    let given = c.args.given.now in
    let p = g.P.VertexProgram.program_of given.program.now in
    let rows = c.args.rows.now.stable in
    let party = c.args.party.now in
    let gathers = brought_to party given.inbox.now stage.Gather in
    let arcs = given.arcs.now.stable in
    let t = is_updated c.args.to g.P.VertexProgram.FORGETFUL party.place in
    let f = new_value p rows arcs gathers in
    chosen-whole t f (due_copies rows) c.loop-copy.i _ c.in_default.ensures.copy c.loop-copy.invariant.news
    ∙ chosen-due_copies t f (updated-not_due c.args.to g.P.VertexProgram.FORGETFUL party.place) rows
    ∙ ap (λ b. chosen (is_updated c.args.to b party.place) f rows) (sym (g.met.P.VertexProgram.marked given.program.now))
    ∙ sym (updated-are p rows arcs gathers party.place c.args.to)
