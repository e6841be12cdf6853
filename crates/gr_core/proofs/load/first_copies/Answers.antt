use Rattle.std.proofs.Common.{◌≡◌, ◌∙◌, ◌<◌, ◌≤◌, ℕ, Bool, length, map, take, get_or, filter, refl, ap, sym, subst, arith}
use Rattle.std.proofs.lemmas.List.{length-map, get_or-map, take_all}
use Rattle.gr_base.specs.declared.records.Directory.{Directory}
use Rattle.gr_base.specs.Rising.{RisesBy, has, with_item}
use Rattle.gr_edges.specs.declared.graph.VertexInfo.{VertexInfo}
use Rattle.gr_edges.specs.Vertices.{id_of, ids, HasDegrees}
use Rattle.gr_lists.proofs.Maps.{map-rises}
use Rattle.gr_rows.specs.Layers.{CopyLayers, vertex_of}
use Rattle.gr_cut.specs.Cut.{home}
use Rattle.gr_copies.specs.Holders.{first_holders}
use Rattle.gr_cluster.specs.Load.{first_copy}
use Rattle.gr_core.specs.Loaded.{setting_of}
use Rattle.gr_core.proofs.Loaded.{rows-are}
use Rattle.gr_core.proofs.Rising.{chosen-on, chosen-off}
use Rattle.gr_core.proofs.load.first_copies.Goals as goal
use Rattle.gr_core.proofs.load.first_copies.Goals.{then-has+in_ok-stage_copy, else-has}

pub loop-k-preserved : goal.loop-k-preserved
loop-k-preserved g c =
    let P = g.P.VertexProgram.program_of c.args.program.now in
    let job = c.args.job.now in
    let s = setting_of job in
    let es = c.args.graph.now.edges in
    let xs = c.args.graph.now.vertices in
    let vs = ids xs in
    let p = c.args.p in
    let k = c.loop-k.k in
    let none : VertexInfo = record { id = 0; indeg = 0; outdeg = 0 } in
    let ys = c.as_slice-vertices.result.now in
    let same : ys ≡ xs = c.as_slice-vertices.ensures in
    let lt : k < length xs = omega (arith, ap length same, c.loop-k-test.true) in
    let low : k < length vs = rw (length-map xs id_of) lt in
    let v = get_or vs k 0 in
    let id : (get_or ys k none).id ≡ v = ap (λ l. (get_or l k none).id) same ∙ sym (get_or-map id_of xs k none 0 lt) in
    let holders = first_holders job.places job.theta job.losses es in
    let copies : ℕ → Directory = λ w. record { vertex = w; master = home job.places w; holders = holders w } in
    let entry_is : (d : Directory) → get_or c.args.directory.now k d ≡ copies v = λ d. ap (λ l. get_or l k d) c.requires.directory ∙ get_or-map copies vs k 0 d low in
    let test : ℕ → Bool = λ w. has (holders w) p in
    let test_is : c.has.result ≡ test v = c.has.ensures.test ∙ ap (λ (d : Directory). has d.holders p) (entry_is c.index-directory-k.result) in
    let rise : RisesBy (λ w. w) vs = map-rises id_of (λ w. w) xs c.vertex_count-count.ensures.rise in
    let degrees : HasDegrees es (get_or ys k none) = subst (λ l. HasDegrees es (get_or l k none)) (sym same) (c.vertex_count-count.ensures.degrees k none lt) in
    let f = first_copy P s es vs p in
    elim c.if-has.branch [
      | then-has+in_ok-stage_copy w ↦
          let d = w.index-directory-k-then-has.result in
          let entry : d ≡ copies (get_or ys k none).id = w.index-directory-k-then-has.is ∙ entry_is d ∙ sym (ap copies id) in
          let copy : w.copy_at_load.result ≡ f v = w.copy_at_load.ensures s es vs degrees entry ∙ ap f id in
          ap (λ (r : CopyLayers _). r.pending) (w.rows-is ∙ w.in_ok-stage_copy.ensures.ok)
          ∙ ap (with_item vertex_of w.copy_at_load.result) c.loop-k.invariant
          ∙ ap (λ x. with_item vertex_of x (map f (filter test (take k vs)))) copy
          ∙ chosen-on vertex_of f (λ w. refl) test vs k rise low (sym test_is ∙ w.if-has.true)
      | else-has w ↦
          ap (λ (r : CopyLayers _). r.pending) w.rows-is ∙ c.loop-k.invariant
          ∙ sym (chosen-off vertex_of f (λ w. refl) test vs k rise low (sym test_is ∙ w.if-has.false))
    ]

pub returns-clause-copies : goal.returns-clause-copies
returns-clause-copies g c =
    let P = g.P.VertexProgram.program_of c.args.program.now in
    let job = c.args.job.now in
    let s = setting_of job in
    let es = c.args.graph.now.edges in
    let xs = c.args.graph.now.vertices in
    let vs = ids xs in
    let p = c.args.p in
    let end : length vs ≤ c.loop-k.k = omega (arith, length-map xs id_of, ap length c.as_slice-vertices.ensures, c.loop-k-test.false) in
    ap (λ (r : CopyLayers _). r.stable) c.install.ensures ∙ c.loop-k.invariant
    ∙ ap (λ l. map (first_copy P s es vs p) (filter (λ v. has (first_holders job.places job.theta job.losses es v) p) l)) (take_all c.loop-k.k vs end)
    ∙ rows-are P s es vs p
