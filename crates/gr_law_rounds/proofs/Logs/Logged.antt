-- The vertices and the edges that the committed logs say.
use Rattle.std.proofs.Common.{◌≡◌, ◌<◌, ℕ, List, [], Bool, true, false, not, ◌==◌, ◌&&◌, map, filter, flat_map, length, sym, ap, ◌∙◌, arith}
use Rattle.std.proofs.lemmas.Simd.{map-map}
use Rattle.gr_base.specs.declared.records.NumberedEdge.{NumberedEdge}
use Rattle.gr_base.specs.Rising.{RisesBy, has}
use Rattle.gr_base.specs.Places.{below}
use Rattle.gr_base.proofs.Rising.{filter-rises}
use Rattle.gr_program.specs.Program.{Program}
use Rattle.gr_log.specs.Directory.{Entry, directory_in, edges_in, edge_of, kept_edges, with_items}
use Rattle.gr_cluster.specs.Tables.{Cluster, log}
use Rattle.gr_cluster.specs.GraphIn.{Degrees, graph_of, logged, graph_in}
use Rattle.gr_cluster.specs.Directory.{unretired, directory_of}
use Rattle.gr_agree.specs.Truth.{Truth, edge_list, held, place_of, arcs_at, true_entry, entries_at}
use Rattle.gr_agree.specs.Logs.{Sound, LogsHold}
use Rattle.gr_agree.specs.Agree.{Agree}
use Rattle.gr_lists.proofs.Tests.{by_test}
use Rattle.gr_lists.proofs.Each.{Each-both, Each-has}
use Rattle.gr_lists.proofs.Any.{has-filter, list_any-is}
use Rattle.gr_lists.proofs.Items.{items-rising, parts-whole}
use Rattle.gr_lists.proofs.Maps.{Each-map, filter-map, map-rises, rises-map, filter_map-flat_map}
use Rattle.gr_base.proofs.Ranges.{has-range, range-within, range-rises}
use Rattle.gr_lists.proofs.Numbers.{any-has}

module _ {V A : Type 0} (P : Program V A) (t : Truth V) (c : Cluster V A) (AG : Agree P t c) where
  -- the number by which each list rises
  abbrev vertex : Entry → ℕ
  vertex e = e.vertex

  abbrev number : NumberedEdge → ℕ
  number a = a.number

  S : Sound P t
  S = AG.committed.sound

  G : LogsHold t c.places c.theta c.coordinator (log c)
  G = AG.committed.logs

  -- ---- places that are not retired

  is-unretired : (p : ℕ) → p < c.places → has c.coordinator.retired p ≡ false → has (unretired c) p ≡ true
  is-unretired p lt r = has-filter (λ q. not (has c.coordinator.retired q)) (below c.places) p ∙ (λ i. has-range 0 c.places p (omega arith) (omega (arith, lt)) i && not (r i))

  unretired-is : (p : ℕ) → has (unretired c) p ≡ true → (p < c.places) × (has c.coordinator.retired p ≡ false)
  unretired-is p m =
      let both : (has (below c.places) p && not (has c.coordinator.retired p)) ≡ true = sym (has-filter (λ q. not (has c.coordinator.retired q)) (below c.places) p) ∙ m in by_test (has (below c.places) p)
      (λ b. by_test (has c.coordinator.retired p)
      (λ r. absurd (let bad : false ≡ true = rw (b, r) at both in cc))
      (λ r. (let lt = range-within 0 c.places p b in omega (arith, lt), r)))
      (λ b. absurd (let bad : false ≡ true = rw b at both in cc))

  -- a holder of a vertex is not retired
  holder-unretired : (v p : ℕ) → has t.vertices v ≡ true → held t p v ≡ true → has (unretired c) p ≡ true
  holder-unretired v p m h = let k = G.holders v p m h in is-unretired p k.0 k.1

  -- ---- the vertices

  abbrev entries : List Entry
  entries = map (true_entry t) t.vertices

  entries-rise : RisesBy vertex entries
  entries-rise = map-rises (true_entry t) vertex t.vertices S.rise

  abbrev holds : ℕ → Entry → Bool
  holds p e = has e.holders p

  entries_at-filter : (p : ℕ) → entries_at t p ≡ filter (holds p) entries
  unfolding entries_at
  entries_at-filter p = sym (filter-map (holds p) (true_entry t) t.vertices)

  entry-parts : (p : ℕ) → has (unretired c) p ≡ true → with_items vertex (directory_in (log c p).committed) [] ≡ filter (holds p) entries
  entry-parts p m =
      let k = unretired-is p m in
      ap (λ l. with_items vertex l []) (G.entries p k.0 k.1 ∙ entries_at-filter p) ∙ items-rising vertex (filter (holds p) entries) (filter-rises vertex (holds p) entries entries-rise)

  directory-is : directory_of c ≡ entries
  unfolding directory_of
  directory-is = parts-whole vertex (λ p. directory_in (log c p).committed) holds entries entries-rise (unretired c)
      (Each-has _ (unretired c) entry-parts)
      (Each-map _ (true_entry t) t.vertices (Each-has _ t.vertices (λ v m.
      any-has (λ p. has (t.holders v) p) (unretired c) (t.master v) (holder-unretired v (t.master v) m (S.master_holds v m)) (S.master_holds v m))))

  -- ---- the edges

  edges-rise : RisesBy number t.edges
  edges-rise = rises-map number (λ n. n) t.edges (rw S.numbers (range-rises 0 (length t.edges)))

  abbrev stands : ℕ → NumberedEdge → Bool
  stands p a = place_of t a == p

  edge-parts : (p : ℕ) → has (unretired c) p ≡ true → with_items number (kept_edges (log c p).committed) [] ≡ filter (stands p) t.edges
  unfolding edges_in arcs_at
  edge-parts p m = let k = unretired-is p m in G.edges p k.0 k.1

  kept-logged : kept_edges (logged c) ≡ flat_map (λ p. kept_edges (log c p).committed) (unretired c)
  kept-logged = filter_map-flat_map edge_of (λ p. (log c p).committed) (unretired c)

  edges-are : edges_in (logged c) ≡ t.edges
  unfolding edges_in
  edges-are = ap (λ l. with_items number l []) kept-logged
      ∙ parts-whole number (λ p. kept_edges (log c p).committed) stands t.edges edges-rise (unretired c)
      (Each-has _ (unretired c) edge-parts)
      (Each-both _ _ _ (λ a m h. list_any-is (place_of t a) (unretired c) ∙ holder-unretired a.edge.src (place_of t a) m h) t.edges S.sources S.sources_held)

  -- ---- both

  abbrev with_degrees : Entry → Degrees
  with_degrees e = record { vertex = e.vertex; indeg = e.indeg; outdeg = e.outdeg }

  pub graph-in : graph_in c ≡ graph_of (edge_list t) t.vertices
  unfolding graph_in
  graph-in =
      let degrees = ap (map with_degrees) directory-is ∙ map-map with_degrees (true_entry t) t.vertices in
      (λ i. record { vertices = degrees i; edges = map (λ a. a.edge) (edges-are i) })
