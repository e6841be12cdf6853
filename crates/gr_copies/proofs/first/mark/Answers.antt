use Rattle.std.proofs.Common.{◌≡◌, ◌∙◌, ◌<◌, ap, sym, subst, set, eqb, length}
use Rattle.std.specs.Prelude.{slice_index}
use Rattle.std.proofs.lemmas.List.{length-map, get_or-map}
use Rattle.gr_base.specs.Places.{with_place}
use Rattle.gr_base.proofs.Rising.{keys-rise}
use Rattle.gr_edges.specs.declared.graph.VertexInfo.{VertexInfo}
use Rattle.gr_edges.specs.Vertices.{id_of, ids}
use Rattle.gr_copies.specs.Ends.{IsMarked}
use Rattle.gr_copies.proofs.Marks.{marked-at}
use Rattle.gr_copies.proofs.first.mark.Goals as goal

pub returns : goal.returns
returns c =
    let xs = c.args.vertices.now in
    let vs = ids xs in
    let i = c.position_of-at.result in
    let there = c.position_of-at.ensures in
    let none : VertexInfo = record { id = 0; indeg = 0; outdeg = 0 } in
    let count = length-map xs id_of in
    let low : i < length vs = rw count there.within in
    let long : length c.args.sets.now ≡ length vs = c.requires.count ∙ sym count in
    let found : slice_index vs i ≡ c.args.v = get_or-map id_of xs i none 0 there.within ∙ there.found none in
    subst (λ x. IsMarked vs c.args.p (λ w. eqb c.args.v w) c.args.sets.now (set c.args.sets.now i x)) (sym (c.with.ensures ∙ ap (λ l. with_place l c.args.p) c.index-sets-at.is))
    (marked-at vs c.args.p c.args.sets.now i c.args.v c.index-sets-at.result (keys-rise id_of xs c.requires.rise) low long found)
