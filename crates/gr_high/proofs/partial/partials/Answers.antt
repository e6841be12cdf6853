use Rattle.std.proofs.Common.{◌∙◌, ◌++◌, ◌∷◌, [], IsTrue, take, sym, ap, subst, arith}
use Rattle.std.specs.Prelude.{IsSomeAnd}
use Rattle.std.specs.List.{All, filter_map, cons_option}
use Rattle.std.proofs.lemmas.List.{take_all, append-nil}
use Rattle.std.proofs.lemmas.List.Elements.{All-push}
use Rattle.gr_base.proofs.Nth.{get-some, get-none, filter_map-more}
use Rattle.gr_base.specs.Rising.{RisesBy}
use Rattle.gr_rules.specs.Rows.{row}
use Rattle.gr_rules.specs.Round.{gather_line}
use Rattle.gr_high.specs.Parts.{is_due_high}
use Rattle.gr_high.proofs.DueCopies.{due_copies}
use Rattle.gr_high.proofs.Lines.{gather_body-due, gather_body-rises, gather_body-high}
use Rattle.gr_high.proofs.partial.partials.Goals as goal
use Rattle.gr_high.proofs.partial.partials.Goals.{in-Some-part_of+in_ok-push, in_default-part_of}

pub loop-copy-preserved : goal.loop-copy-preserved
loop-copy-preserved g c =
    let p = g.P.VertexProgram.program_of c.args.program.now in
    let rows = c.args.rows.now.stable in
    let due = due_copies rows in
    let h = gather_line p c.args.theta c.args.to rows c.args.arcs.now.stable in
    let i = c.loop-copy.i in
    let x = c.in-Some.copy in
    let at = get-some due i x c.in-Some.ensures.copy in
    let more = filter_map-more h due i x at.0 in
    elim c.match-part_of.branch [
      | in-Some-part_of+in_ok-push w ↦
          let grown = w.parts-is ∙ w.in_ok-push.ensures.ok in
          record {
            within = omega (arith, at.0);
            parts = grown ∙ ap (λ l. l ++ w.in-Some-part_of.part ∷ []) c.loop-copy.invariant.parts
                ∙ ap (λ o. filter_map h (take i due) ++ cons_option o []) (w.in-Some-part_of.ensures.part ∙ ap h at.1) ∙ sym more;
            kept = subst (All (λ k. IsTrue (p.is_acc k.acc))) (sym grown) (All-push (λ k. IsTrue (p.is_acc k.acc)) c.loop-copy.parts w.in-Some-part_of.part c.loop-copy.invariant.kept w.in-Some-part_of.ensures.kept);
          }
      | in_default-part_of w ↦ record {
        within = omega (arith, at.0);
        parts = w.parts-is ∙ c.loop-copy.invariant.parts ∙ sym (append-nil (filter_map h (take i due)))
            ∙ ap (λ o. filter_map h (take i due) ++ cons_option o []) (w.in_default-part_of.ensures.part ∙ ap h at.1) ∙ sym more;
        kept = subst (All (λ k. IsTrue (p.is_acc k.acc))) (sym w.parts-is) c.loop-copy.invariant.kept;
      }
    ]

pub returns-clause-body : goal.returns-clause-body
returns-clause-body g c =
    let p = g.P.VertexProgram.program_of c.args.program.now in
    let rows = c.args.rows.now.stable in
    let due = due_copies rows in
    c.loop-copy.invariant.parts ∙ ap (filter_map (gather_line p c.args.theta c.args.to rows c.args.arcs.now.stable)) (take_all c.loop-copy.i due (get-none due c.loop-copy.i c.in_default.ensures.copy))
    ∙ sym (gather_body-due p c.args.theta c.args.to rows c.args.arcs.now.stable)

pub returns-clause-rise : goal.returns-clause-rise
returns-clause-rise g c =
    subst (RisesBy (λ x. x.vertex)) (sym (returns-clause-body g c))
    (gather_body-rises (g.P.VertexProgram.program_of c.args.program.now) c.args.theta c.args.to c.args.rows.now.stable c.args.arcs.now.stable c.due_at.ensures.rise.stable_rises)

pub returns-clause-high : goal.returns-clause-high
returns-clause-high g c =
    subst (All (λ x. IsSomeAnd (row c.args.rows.now.stable x.vertex) (λ k. IsTrue (is_due_high c.args.theta k)))) (sym (returns-clause-body g c))
    (gather_body-high (g.P.VertexProgram.program_of c.args.program.now) c.args.theta c.args.to c.args.rows.now.stable c.args.arcs.now.stable c.due_at.ensures.rise.stable_rises)
