use Rattle.std.proofs.Common.{◌≡◌, ◌∙◌, ◌<◌, ◌+◌, ℕ, ap, sym, take, length, slice_index_or, [], ◌∷◌, ◌++◌}
use Rattle.std.specs.Prelude.{◌||◌, min, slice_index}
use Rattle.std.specs.List.{filter}
use Rattle.std.proofs.lemmas.List.{length-map, get_or-map, get_or_default, map-append, take_more}
use Rattle.gr_base.specs.declared.records.Directory.{Directory}
use Rattle.gr_base.specs.Rising.{has}
use Rattle.gr_base.specs.Places.{ring, below}
use Rattle.gr_edges.specs.declared.graph.VertexInfo.{VertexInfo}
use Rattle.gr_edges.specs.Vertices.{id_of, ids}
use Rattle.gr_cut.specs.Cut.{home}
use Rattle.gr_copies.specs.Holders.{needed_holders, first_holders, first_directory, further}
use Rattle.gr_copies.proofs.FirstHolders.{needed-is, holders-are}
use Rattle.gr_copies.proofs.first.directory.Goals as goal

pub loop-k-preserved : goal.loop-k-preserved
loop-k-preserved c = λ theta es ends.
    let xs = c.args.vertices.now in
    let vs = ids xs in
    let k = c.loop-k.k in
    let places = c.args.places in
    let losses = c.args.losses in
    let none : VertexInfo = record { id = 0; indeg = 0; outdeg = 0 } in
    let v = slice_index vs k in
    let lt : k < length xs = c.loop-k-test.true in
    let low : k < length vs = rw (length-map xs id_of) lt in
    let id : (slice_index_or xs k none).id ≡ v = sym (get_or-map id_of xs k none 0 lt) in
    let master : c.home_of-master.result ≡ home places v = c.home_of-master.ensures.home ∙ ap (home places) id in
    let s = c.index-sets-k.result in
    let in_sets : k < length c.args.sets.now = rw c.requires.count lt in
    let set_is : s ≡ slice_index_or c.args.sets.now k [] = c.index-sets-k.is ∙ get_or_default c.args.sets.now k s [] in_sets in
    let needed : s ≡ needed_holders places theta losses es v = needed-is places theta losses es c.requires.most c.requires.some v s c.holders_of-holders.ensures.needed (λ r. ap (λ l. has l r) set_is ∙ ends.members k low r) in
    let holders : c.holders_of-holders.result ≡ first_holders places theta losses es v = holders-are places theta losses es c.requires.most c.requires.some v s c.holders_of-holders.result needed
    (c.holders_of-holders.ensures.holders ∙ ap (λ m. filter (λ p. has s p || has (further (min (losses + 1) places) s (ring m (below places))) p) (below 64)) master) in
    let copies : ℕ → Directory = λ w. record { vertex = w; master = home places w; holders = first_holders places theta losses es w } in
    let item : Directory = record { vertex = (slice_index_or xs k none).id; master = c.home_of-master.result; holders = c.holders_of-holders.result } in
    let item_is : item ≡ copies v = λ i. record { vertex = id i; master = master i; holders = holders i } in
    c.in_ok-push.ensures.ok
    ∙ ap (λ l. l ++ item ∷ []) (c.loop-k.invariant theta es ends)
    ∙ ap (λ x. first_directory places theta losses es (take k vs) ++ x ∷ []) item_is
    ∙ sym (map-append copies (take k vs) (v ∷ []))
    ∙ sym (ap (first_directory places theta losses es) (take_more vs k 0 low))
