use Rattle.std.proofs.Common.{◌∙◌, ◌+◌, sym, ap, arith}
use Rattle.std.specs.Prelude.{◌&&◌, ◌==◌}
use Rattle.std.proofs.lemmas.Bool.{and_parts}
use Rattle.std.proofs.lemmas.List.{take_all}
use Rattle.std.proofs.lemmas.List.Sums.{count_by_more_yes, count_by_more_no}
use Rattle.gr_base.proofs.Nth.{get-some, get-none}
use Rattle.gr_lists.proofs.Counts.{count_by-filter}
use Rattle.gr_program.specs.declared.copy.VertexCopy.{VertexCopy}
use Rattle.gr_rules.specs.AtPlace.{due_count}
use Rattle.gr_high.proofs.DueCopies.{due_copies, length-due_copies}
use Rattle.gr_round.proofs.due.due_count.Goals as goal
use Rattle.gr_round.proofs.due.due_count.Goals.{then-is_counted, else-is_counted}

pub overflow_add-count : goal.overflow_add-count
overflow_add-count g c =
    let rows = c.args.rows.now.pending in
    let at = get-some (due_copies rows) c.loop-copy.i c.in-Some.copy c.in-Some.ensures.copy in
    omega (arith, at.0, length-due_copies rows)

pub loop-copy-preserved : goal.loop-copy-preserved
loop-copy-preserved g c =
    let rows = c.args.rows.now.pending in
    let i = c.loop-copy.i in
    let x = c.in-Some.copy in
    let due = due_copies rows in
    let at = get-some due i x c.in-Some.ensures.copy in
    let t = λ (k : VertexCopy g.row.V.Denot). (k.master == c.args.place) && k.due in
    elim c.if-is_counted.branch [
      | then-is_counted w ↦ record {
        within = omega (arith, at.0);
        counted = w.count-is ∙ ap (λ n. n + 1) c.loop-copy.invariant.counted ∙ sym (count_by_more_yes t due i x at.0 (sym (ap t at.1) ∙ sym c.is_counted.ensures ∙ w.if-is_counted.true));
        few = omega (arith, w.count-is);
      }
      | else-is_counted w ↦ record {
        within = omega (arith, at.0);
        counted = w.count-is ∙ c.loop-copy.invariant.counted ∙ sym (count_by_more_no t due i x at.0 (sym (ap t at.1) ∙ sym c.is_counted.ensures ∙ w.if-is_counted.false));
        few = omega (arith, w.count-is);
      }
    ]

pub returns : goal.returns
returns g c =
    let rows = c.args.rows.now.pending in
    let due = due_copies rows in
    c.loop-copy.invariant.counted ∙ ap (due_count c.args.place) (take_all c.loop-copy.i due (get-none due c.loop-copy.i c.in_default.ensures.copy))
    ∙ count_by-filter (λ (k : VertexCopy g.row.V.Denot). (k.master == c.args.place) && k.due) (λ k. k.due)
    (λ k h. (and_parts (k.master == c.args.place) k.due h).1) rows
