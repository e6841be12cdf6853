use Rattle.std.proofs.Common.{◌∙◌, ℕ, List, get_or, length, ltb, sym, ap, subst, arith}
use Rattle.std.specs.List.{prefix_len}
use Rattle.gr_base.specs.Rising.{RisesBy}
use Rattle.gr_base.proofs.Rising.{keys-rise}
use Rattle.gr_rows.proofs.Staged.{IsAt-from_vertices, GoesAt-from_vertices}
use Rattle.gr_rows.specs.Layer.{LayerCopies, IsAt, GoesAt}
use Rattle.gr_rows.specs.Layers.{vertex_of}
use Rattle.gr_rows.proofs.layer.Layer.search.Goals as goal
use Rattle.gr_rows.proofs.layer.Layer.search.Goals.{else-at-len-via-then-at-len+else-index-v, else-at-len-via-else-at-len}

pub count_below-at-requires : goal.count_below-at-requires
count_below-at-requires g c = subst (RisesBy (λ (n : ℕ). n)) (sym (c.as_slice.ensures.value ∙ c.self.invariant.vertices_are)) (keys-rise vertex_of c.self.inside.copies.items c.self.invariant.rises)

pub returns-then-index-v-clause-found : goal.returns-then-index-v-clause-found
returns-then-index-v-clause-found g c =
    let xs = c.self.inside.copies.items in
    let v = c.args.v in
    let at = c.count_below-at.result in
    let e = c.self.invariant.vertices_are in
    let place = c.count_below-at.ensures ∙ ap (prefix_len (λ (n : ℕ). ltb n v)) (c.as_slice.ensures.value ∙ e) in
    subst (IsAt v at) (ap (λ (l : LayerCopies g.row.V.Denot). l.copies) c.self.view_is)
    (IsAt-from_vertices v at c.index.result.now xs place (omega (arith, ap length e)) (c.index.ensures ∙ ap (λ (l : List ℕ). get_or l at c.index.result.now) e) c.if-index-v.true)

pub returns-else-at-len-clause-missing : goal.returns-else-at-len-clause-missing
returns-else-at-len-clause-missing g c =
    let xs = c.self.inside.copies.items in
    let v = c.args.v in
    let at = c.count_below-at.result in
    let e = c.self.invariant.vertices_are in
    let place = c.count_below-at.ensures ∙ ap (prefix_len (λ (n : ℕ). ltb n v)) (c.as_slice.ensures.value ∙ e) in
    subst (GoesAt v at) (ap (λ (l : LayerCopies g.row.V.Denot). l.copies) c.self.view_is)
    (elim c.else-at-len.branch [
      | else-at-len-via-then-at-len+else-index-v w ↦
          GoesAt-from_vertices v at w.index.result.now xs place (λ l q. w.if-index-v.false (w.index.ensures ∙ ap (λ (l : List ℕ). get_or l at w.index.result.now) e ∙ q))
      | else-at-len-via-else-at-len w ↦
          GoesAt-from_vertices v at 0 xs place (λ l q. omega (arith, ap length e))
    ])
