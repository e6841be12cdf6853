use Rattle.std.proofs.Common.{◌≡◌, ◌∙◌, ◌<◌, ◌+◌, ◌++◌, ap, sym, subst, take, drop, length, get_or, slice_index_or, [], ◌∷◌, arith}
use Rattle.std.specs.List.{All}
use Rattle.std.proofs.lemmas.List.{length-map, get_or-map}
use Rattle.std.proofs.Math.Seq.{take-append_seam}
use Rattle.gr_edges.specs.declared.graph.VertexInfo.{VertexInfo}
use Rattle.gr_edges.specs.Vertices.{id_of, ids}
use Rattle.gr_cut.specs.Cut.{home, place_at_load}
use Rattle.gr_cut.proofs.Rows.{row, rows-at, rows-count}
use Rattle.gr_copies.specs.Ends.{AreEnds}
use Rattle.gr_copies.proofs.Marks.{ends-none, ends-more}
use Rattle.gr_copies.proofs.FirstHolders.{row-bound}
use Rattle.gr_copies.proofs.first.first_holders.Goals as goal

pub loop-p-init : goal.loop-p-init
loop-p-init c =
    let xs = c.as_slice-vertices.result.now in
    let places = c.args.places in
    let none : VertexInfo = record { id = 0; indeg = 0; outdeg = 0 } in
    let is = c.in_ok-sets.ensures in
    ends-none places c.args.graph.now.edges c.args.cut.now (ids xs) c.in_ok-sets.sets.items
    (ap length is ∙ length-map xs (λ v. home places v.id ∷ []) ∙ sym (length-map xs id_of))
    (λ k lk.
    let lt : k < length xs = rw (length-map xs id_of) at lk in
    ap (λ l. get_or l k []) is ∙ get_or-map (λ v. home places v.id ∷ []) xs k none [] lt ∙ ap (λ w. home places w ∷ []) (sym (get_or-map id_of xs k none 0 lt)))

pub at-requires : goal.at-requires
at-requires c =
    let cut = c.requires.cut in
    let count : length c.args.cut.now ≡ c.args.places = ap length cut.1 ∙ rows-count (place_at_load c.args.places cut.0 c.args.graph.now.edges) c.args.places c.args.graph.now.edges in
    omega (arith, count, c.loop-p-test.true)

pub mark_ends-requires-clause-numbers : goal.mark_ends-requires-clause-numbers
mark_ends-requires-clause-numbers c =
    let cut = c.requires.cut in
    let es = c.args.graph.now.edges in
    let p = c.loop-p.p in
    let place = place_at_load c.args.places cut.0 es in
    let is : c.at.result.now ≡ row place es p = c.at.ensures ∙ ap (λ l. slice_index_or l p []) cut.1 ∙ rows-at place c.args.places es p [] c.loop-p-test.true in
    subst (All (λ n. n < length c.as_slice-edges.result.now)) (sym is) (row-bound place p es 0 (length c.as_slice-edges.result.now) es (omega (arith, ap length c.as_slice-edges.ensures)))

pub loop-p-preserved : goal.loop-p-preserved
loop-p-preserved c =
    let es = c.args.graph.now.edges in
    let vs = ids c.as_slice-vertices.result.now in
    let p = c.loop-p.p in
    let new = c.mark_ends.new.sets in
    let rest = drop (length new) c.loop-p.sets.items in
    let marked = rw (c.as_slice-edges.ensures, c.at.ensures, c.as_mut_slice.ensures.value) at c.mark_ends.ensures in
    let len : c.loop-p.sets.len ≡ length new = omega (arith, c.as_mut_slice.ensures.len, c.mark_ends.ensures.long) in
    subst (AreEnds c.args.places (p + 1) es c.args.cut.now vs) (sym (ap (λ n. take n (new ++ rest)) len ∙ take-append_seam new rest))
    (ends-more c.args.places p es c.args.cut.now vs c.loop-p.sets.items new c.loop-p.invariant marked)
