use Rattle.std.proofs.Common.{◌∙◌, ◌++◌, ℕ, List, ap, sym, subst, arith}
use Rattle.gr_program.specs.declared.copy.VertexCopy.{VertexCopy}
use Rattle.gr_rows.proofs.Agree.{agree-marks}
use Rattle.gr_rows.specs.Changes.{AgreeBut}
use Rattle.gr_rows.specs.Layer.{is_due}
use Rattle.gr_rows.specs.Positions.{positions_from}
use Rattle.gr_rows.proofs.rows.Rows.stage_due.Goals as goal

pub invariant_of-self : goal.invariant_of-self
invariant_of-self g c =
    let xs = c.self.inside.pending.copies in
    let ys = c.self.inside.stable.copies in
    let ns = c.self.inside.changes.positions in
    let new = c.mark_due.new.self.copies in
    record {
      stable_rises = c.self.invariant.stable_rises;
      pending_rises = c.mark_due.ensures.rises;
      room_for_install = omega arith;
      room_for_discard = omega arith;
      stable_few = omega arith;
      pending_few = omega arith;
      agree = λ h.
          let h1 = c.note-2.ensures.before h in
          let a = c.self.invariant.agree (c.note.ensures.before h1) in
          let listed =
          c.note-2.ensures.positions h
          ∙ ap (λ (l : List ℕ). l ++ c.due_positions-2.result.now) (c.note.ensures.positions h1 ∙ ap (λ (l : List ℕ). ns ++ l) c.due_positions.ensures)
          ∙ ap (λ (l : List ℕ). (ns ++ positions_from is_due 0 xs) ++ l) c.due_positions-2.ensures
          in
          subst (λ (l : List ℕ). AgreeBut l new ys) (sym listed)
          (subst (λ (zs : List (VertexCopy g.row.V.Denot)). AgreeBut ((ns ++ positions_from is_due 0 xs) ++ positions_from is_due 0 zs) zs ys) (sym c.mark_due.ensures.due) (agree-marks c.args.due.now ns xs ys a));
    }
