use Rattle.std.proofs.Common.{◌∙◌, refl, sym, subst, arith}
use Rattle.gr_base.proofs.Nth.{get-some}
use Rattle.gr_base.specs.Rising.{RisesBy}
use Rattle.gr_batch.specs.declared.stage.Stage.TheVariants as stage
use Rattle.gr_rules.specs.Round.{new_value}
use Rattle.gr_high.proofs.DueCopies.{due_copies}
use Rattle.gr_round.specs.Party.{brought_to}
use Rattle.gr_round.proofs.Selecting.{due-value, due-staged, chosen-more, chosen-same, chosen-whole, chosen-rises, chosen-due_copies, is_own, own-are, own-not_due}
use Rattle.gr_round.proofs.values.own_values.Goals as goal
use Rattle.gr_round.proofs.values.own_values.Goals.{then-is_own+in_ok-push, else-is_own}

pub new_value-requires-clause-value : goal.new_value-requires-clause-value
new_value-requires-clause-value g c =
    due-value (g.P.VertexProgram.program_of c.args.given.now.program.now) c.args.party.now c.args.given.now.inbox.now c.args.rows.now c.args.given.now.arcs.now.stable c.requires.needs c.loop-copy.i c.in-Some.copy c.in-Some.ensures.copy

pub new_value-requires-clause-staged : goal.new_value-requires-clause-staged
new_value-requires-clause-staged g c =
    due-staged (g.P.VertexProgram.program_of c.args.given.now.program.now) c.args.party.now c.args.given.now.inbox.now c.args.rows.now c.args.given.now.arcs.now.stable c.requires.needs c.loop-copy.i c.in-Some.copy c.in-Some.ensures.copy
    (sym c.is_own.ensures ∙ c.if-is_own.true)

pub loop-copy-preserved : goal.loop-copy-preserved
loop-copy-preserved g c =
    let given = c.args.given.now in
    let p = g.P.VertexProgram.program_of given.program.now in
    let rows = c.args.rows.now.stable in
    let party = c.args.party.now in
    let gathers = brought_to party given.inbox.now stage.Gather in
    let t = is_own party.place in
    let f = new_value p rows given.arcs.now.stable gathers in
    let due = due_copies rows in
    let at = get-some due c.loop-copy.i c.in-Some.copy c.in-Some.ensures.copy in
    record {
      within = omega (arith, at.0);
      news = elim c.if-is_own.branch [
        | then-is_own+in_ok-push w ↦
            w.news-is ∙ w.in_ok-push.ensures.ok
            ∙ chosen-more t f due c.loop-copy.i c.in-Some.copy _ c.in-Some.ensures.copy (sym c.is_own.ensures ∙ w.if-is_own.true) c.loop-copy.invariant.news w.new_value.result w.new_value.ensures
        | else-is_own w ↦ w.news-is ∙ chosen-same t f due c.loop-copy.i c.in-Some.copy _ c.in-Some.ensures.copy (sym c.is_own.ensures ∙ w.if-is_own.false) c.loop-copy.invariant.news
      ];
    }

pub returns-clause-values : goal.returns-clause-values
returns-clause-values g c =
    let given = c.args.given.now in
    let p = g.P.VertexProgram.program_of given.program.now in
    let rows = c.args.rows.now.stable in
    let party = c.args.party.now in
    let gathers = brought_to party given.inbox.now stage.Gather in
    let t = is_own party.place in
    let f = new_value p rows given.arcs.now.stable gathers in
    chosen-whole t f (due_copies rows) c.loop-copy.i _ c.in_default.ensures.copy c.loop-copy.invariant.news
    ∙ chosen-due_copies t f (own-not_due party.place) rows
    ∙ sym (own-are p rows given.arcs.now.stable gathers party.place)

pub returns-clause-rise : goal.returns-clause-rise
returns-clause-rise g c =
    let given = c.args.given.now in
    let p = g.P.VertexProgram.program_of given.program.now in
    let rows = c.args.rows.now.stable in
    let party = c.args.party.now in
    let gathers = brought_to party given.inbox.now stage.Gather in
    let arcs = given.arcs.now.stable in
    subst (RisesBy (λ n. n.vertex)) (sym (returns-clause-values g c ∙ own-are p rows arcs gathers party.place))
    (chosen-rises (is_own party.place) (new_value p rows arcs gathers) (λ k. k.vertex) (λ n. n.vertex) (λ k. refl) rows c.in_default.ensures.rise.stable_rises)
