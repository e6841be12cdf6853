use Rattle.std.proofs.Common.{◌∙◌, ltb, length, sym, ap, subst, arith}
use Rattle.std.specs.List.{prefix_len}
use Rattle.std.specs.Prelude.{IsNone}
use Rattle.std.proofs.lemmas.Bool.{true≢false}
use Rattle.std.proofs.lemmas.List.Sums.{prefix_len-le-length}
use Rattle.gr_base.specs.Rising.{RisesBy}
use Rattle.gr_base.proofs.Rising.{found-at, with-missing, with-rises}
use Rattle.gr_base.specs.declared.records.NumberedEdge.{NumberedEdge}
use Rattle.gr_arcs.specs.Layers.{number_of}
use Rattle.gr_arcs.proofs.arcs.put_edge.Goals as goal

pub insert-requires : goal.insert-requires
insert-requires c =
    let e = c.place_of-at.ensures ∙ ap (prefix_len (λ (k : NumberedEdge). ltb k.number c.args.edge.number)) c.as_slice.ensures.value in
    omega (arith, e, prefix_len-le-length (λ (k : NumberedEdge). ltb k.number c.args.edge.number) c.args.edges.now.items, ap length c.as_slice.ensures.value)

pub returns-clause-ok : goal.returns-clause-ok
returns-clause-ok c =
    let xs = c.args.edges.now.items in
    let e = c.place_of-at.ensures ∙ ap (prefix_len (λ (k : NumberedEdge). ltb k.number c.args.edge.number)) c.as_slice.ensures.value in
    c.in_ok-insert.ensures.items ∙ with-missing number_of c.args.edge xs c.place_of-at.result c.args.edge (sym e)
    (λ l q. let f = (found-at number_of c.args.edge.number xs c.place_of-at.result c.args.edge c.requires.rises (sym e) l q).0 in true≢false (subst (λ o. IsNone o) f c.requires.fresh))

pub returns-clause-rises : goal.returns-clause-rises
returns-clause-rises c = subst (RisesBy number_of) (sym (returns-clause-ok c)) (with-rises number_of c.args.edge c.args.edges.now.items c.requires.rises)
