use Rattle.std.proofs.Common.{◌≡◌, ◌∙◌, ◌<◌, [], length, map, slice_index_or, ap, sym, subst, arith}
use Rattle.std.specs.List.{All}
use Rattle.std.proofs.lemmas.List.{take_all}
use Rattle.gr_base.specs.Rising.{RisesBy}
use Rattle.gr_arcs.specs.Layers.{number_of}
use Rattle.gr_core.proofs.Edges.{numbered_at, numbers, numbers-bound, cut-count, cut-at, edges-again, edges-rise}
use Rattle.gr_core.proofs.load.first_edges.Goals as goal

pub at-number-items-requires : goal.at-number-items-requires
at-number-items-requires c =
    let es = c.args.graph.now.edges in
    omega (arith, ap length c.requires.cut, cut-count c.args.job.now.places c.args.job.now.theta es c.args.p, c.requires.place)

pub bounds-all-number : goal.bounds-all-number
bounds-all-number c =
    let places = c.args.job.now.places in
    let theta = c.args.job.now.theta in
    let es = c.args.graph.now.edges in
    let p = c.args.p in
    let items = c.at-number-items.result.now in
    let is : items ≡ numbers places theta es p = c.at-number-items.ensures ∙ ap (λ l. slice_index_or l p []) c.requires.cut ∙ cut-at places theta es p c.requires.place in
    let all = subst (All (λ n. n < length es)) (sym is) (numbers-bound places theta es p) in
    let one = all c.loop-number.number-index 0 c.loop-number-test.true in
    omega (arith, one, ap length c.as_slice-all.ensures)

pub returns-clause-edges : goal.returns-clause-edges
returns-clause-edges c =
    let places = c.args.job.now.places in
    let theta = c.args.job.now.theta in
    let es = c.args.graph.now.edges in
    let p = c.args.p in
    let items = c.at-number-items.result.now in
    let is : items ≡ numbers places theta es p = c.at-number-items.ensures ∙ ap (λ l. slice_index_or l p []) c.requires.cut ∙ cut-at places theta es p c.requires.place in
    c.loop-number.invariant ∙ ap (map (numbered_at es)) (take_all c.loop-number.number-index items (omega (arith, c.loop-number-test.false)) ∙ is) ∙ edges-again places theta es p

pub returns-clause-rise : goal.returns-clause-rise
returns-clause-rise c =
    subst (RisesBy number_of) (sym (returns-clause-edges c)) (edges-rise c.args.job.now.places c.args.job.now.theta c.args.graph.now.edges c.args.p)
