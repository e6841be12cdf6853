use Rattle.std.proofs.Common.{◌∙◌, ◌++◌, ◌∷◌, ℕ, [], take, sym, ap, subst, arith}
use Rattle.std.specs.List.{filter}
use Rattle.std.proofs.lemmas.List.{take_all}
use Rattle.gr_base.proofs.Nth.{get-some, get-none}
use Rattle.gr_base.proofs.Rising.{filter-rises, keys-rise}
use Rattle.gr_base.specs.Rising.{RisesBy}
use Rattle.gr_program.specs.declared.copy.VertexCopy.{VertexCopy}
use Rattle.gr_rules.specs.Round.{vertices_where}
use Rattle.gr_repair.specs.Short.{is_short}
use Rattle.gr_repair.proofs.Chosen.{chosen-yes, chosen-no}
use Rattle.gr_repair.proofs.missing.short.Goals as goal
use Rattle.gr_repair.proofs.missing.short.Goals.{then-is_short+in_ok-push, else-is_short}

pub loop-copy-preserved : goal.loop-copy-preserved
loop-copy-preserved g c =
    let rows = c.args.rows.now.stable in
    let t = is_short c.args.me c.args.losses c.args.live in
    let vertex = λ (k : VertexCopy g.row.V.Denot). k.vertex in
    let i = c.loop-copy.i in
    let x = c.in-Some.copy in
    let at = get-some rows i x c.in-Some.ensures.copy in
    record {
      within = omega (arith, at.0);
      vertices = elim c.if-is_short.branch [
        | then-is_short+in_ok-push w ↦
            w.vertices-is ∙ w.in_ok-push.ensures.ok ∙ ap (λ l. l ++ x.vertex ∷ []) c.loop-copy.invariant.vertices
            ∙ ap (λ k. vertices_where t (take i rows) ++ vertex k ∷ []) at.1
            ∙ sym (chosen-yes vertex t rows i x at.0 (sym (ap t at.1) ∙ sym c.is_short.ensures.short ∙ w.if-is_short.true))
        | else-is_short w ↦
            w.vertices-is ∙ c.loop-copy.invariant.vertices ∙ sym (chosen-no vertex t rows i x at.0 (sym (ap t at.1) ∙ sym c.is_short.ensures.short ∙ w.if-is_short.false))
      ];
    }

pub returns-clause-short : goal.returns-clause-short
returns-clause-short g c =
    let rows = c.args.rows.now.stable in
    c.loop-copy.invariant.vertices ∙ ap (vertices_where (is_short c.args.me c.args.losses c.args.live)) (take_all c.loop-copy.i rows (get-none rows c.loop-copy.i c.in_default.ensures.copy))

pub returns-clause-rise : goal.returns-clause-rise
returns-clause-rise g c =
    let rows = c.args.rows.now.stable in
    let t = is_short c.args.me c.args.losses c.args.live in
    let vertex = λ (k : VertexCopy g.row.V.Denot). k.vertex in
    subst (RisesBy (λ (n : ℕ). n)) (sym (returns-clause-short g c)) (keys-rise vertex (filter t rows) (filter-rises vertex t rows c.in_default.ensures.rise.stable_rises))
