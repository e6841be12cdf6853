-- The edges that a place takes over, by the logs and by the committed state.
use Rattle.std.proofs.Common.{◌≡◌, ◌<◌, ℕ, List, [], ◌∷◌, ◌++◌, Bool, true, false, ◌==◌, ◌&&◌, map, filter, flat_map, length, refl, sym, ap, ◌∙◌, subst, arith, eqb-true}
use Rattle.std.specs.List.{AllByRecursion as Each, list_any}
use Rattle.std.proofs.Math.Bool.{and-true, and_assoc}
use Rattle.std.proofs.lemmas.Bool.{and_parts, and_from, and_right}
use Rattle.std.proofs.lemmas.List.{map-append}
use Rattle.gr_base.specs.declared.records.NumberedEdge.{NumberedEdge}
use Rattle.gr_base.specs.Rising.{RisesBy, has}
use Rattle.gr_base.specs.Places.{below}
use Rattle.gr_base.proofs.Rising.{filter-rises}
use Rattle.gr_base.proofs.Ranges.{has-range, range-rises}
use Rattle.gr_program.specs.Program.{Program}
use Rattle.gr_cut.specs.Cut.{is_high, edge_place}
use Rattle.gr_copies.specs.declared.view.RebuildView.{RebuildView}
use Rattle.gr_copies.specs.Granter.{is_retiring}
use Rattle.gr_log.specs.declared.record.LogRecord.{LogRecord}
use Rattle.gr_log.specs.Log.{Log}
use Rattle.gr_log.specs.Directory.{kept_edges, with_items}
use Rattle.gr_rules.specs.Taken.{log_at, master_after, Ends, edges_with_ends, goes_to, taken, taken_edges}
use Rattle.gr_agree.specs.Truth.{Truth, held, place_of, true_indegree, true_entry}
use Rattle.gr_agree.specs.Logs.{Sound}
use Rattle.gr_agree.specs.Rebuilt.{place_after, is_taken_by, true_taken}
use Rattle.gr_lists.proofs.Tests.{by_test}
use Rattle.gr_lists.proofs.Each.{Each-both, Each-has, Each-always}
use Rattle.gr_lists.proofs.Any.{has-filter, list_any-agree, list_any-and, list_any-is, list_any-flat_map}
use Rattle.gr_lists.proofs.Maps.{filter-map, rises-map}
use Rattle.gr_lists.proofs.Items.{parts-whole}
use Rattle.gr_lists.proofs.Chosen.{Each-passing, map-undone}
use Rattle.gr_law_rebuilds.proofs.Rebuild.Once.{put-filter, put-any}
use Rattle.gr_law_rebuilds.proofs.Rebuild.Selecting.{filter-agree, filter-both, any-filter, any-map, any-swap, flat_map-agree}
use Rattle.gr_law_rebuilds.proofs.Rebuild.Logged.{IsSaid, true_ends, number, edges-apart, edges-put, edges-ends}

map-flat_map_map : {X Y : Type 0} (out : Y → X) (h : X → Y) → ((x : X) → out (h x) ≡ x) → (g : ℕ → List X) (rs : List ℕ) → map out (flat_map (λ r. map h (g r)) rs) ≡ flat_map g rs
map-flat_map_map out h same g [] = refl
map-flat_map_map out h same g (r ∷ rs) = map-append out (map h (g r)) (flat_map (λ r. map h (g r)) rs) ∙ (λ i. map-undone h out same (g r) i ++ map-flat_map_map out h same g rs i)

module _ {V A : Type 0} (P : Program V A) (t : Truth V) (S : Sound P t) (w : RebuildView) (logs : List Log) (theta : w.theta ≡ t.theta)
    (within : (v q : ℕ) → has t.vertices v ≡ true → held t q v ≡ true → q < w.places)
    (said : (r : ℕ) → is_retiring w r ≡ true → IsSaid t r (log_at logs r).committed) (p : ℕ) where
  -- by the new masters an edge stands at p
  abbrev goes : NumberedEdge → Bool
  goes a = place_after w t a == p

  abbrev records : ℕ → List LogRecord
  records r = (log_at logs r).committed

  abbrev retiring_places : List ℕ
  retiring_places = filter (is_retiring w) (below w.places)

  retires : (r : ℕ) → has retiring_places r ≡ true → is_retiring w r ≡ true
  retires r m = (and_parts (has (below w.places) r) (is_retiring w r) (sym (has-filter (is_retiring w) (below w.places) r) ∙ m)).1

  taken-at : (r : ℕ) → has retiring_places r ≡ true → filter (goes_to w p) (edges_with_ends (records r)) ≡ map (true_ends t) (filter goes (kept_edges (records r)))
  taken-at r m = ap (filter (goes_to w p)) (edges-ends P t S r (records r) (said r (retires r m)))
      ∙ (filter-map (goes_to w p) (true_ends t) (kept_edges (records r))
      ∙ (λ i. map (true_ends t) (filter (λ a. edge_place (master_after w (true_entry t a.edge.src)) (master_after w (true_entry t a.edge.dst)) (is_high (theta i) (true_indegree t a.edge.dst)) == p) (kept_edges (records r)))))

  taken-is : taken w logs p ≡ flat_map (λ r. map (true_ends t) (filter goes (kept_edges (records r)))) retiring_places
  unfolding taken
  taken-is = flat_map-agree _ _ retiring_places (Each-has _ retiring_places taken-at)

  -- ---- the edges themselves

  edges-rise : RisesBy number t.edges
  edges-rise = rises-map number (λ n. n) t.edges (subst (RisesBy (λ n. n)) (sym S.numbers) (range-rises 0 (length t.edges)))

  -- what goes to p of the edges at a retiring place
  part-is : (r : ℕ) → has retiring_places r ≡ true → with_items number (filter goes (kept_edges (records r))) [] ≡ filter (λ a. place_of t a == r) (true_taken w t p)
  unfolding true_taken
  part-is r m =
      let y = retires r m in let D = said r y in
      put-filter number goes (kept_edges (records r)) (edges-apart P t S r (records r) D)
      ∙ (ap (filter goes) (edges-put P t S r (records r) D)
      ∙ (filter-both goes (λ a. place_of t a == r) t.edges
      ∙ (filter-agree _ _ t.edges (Each-always _ (λ a. by_test (place_of t a == r)
      (λ e. let same : is_retiring w (place_of t a) ≡ true = ap (is_retiring w) (eqb-true _ _ e) ∙ y in rw (e, same) (sym (and-true (goes a))))
      (λ e. rw e (sym (and_right (is_taken_by w t p a) false refl)))) t.edges)
      ∙ sym (filter-both (λ a. place_of t a == r) (is_taken_by w t p) t.edges))))

  all-parts : Each (λ a. list_any (λ r. place_of t a == r) retiring_places ≡ true) (true_taken w t p)
  unfolding true_taken
  all-parts = Each-passing _ (is_taken_by w t p) t.edges (Each-both _ _ _ (λ a m h k.
      let y = (and_parts (is_retiring w (place_of t a)) _ k).0 in let lt = within a.edge.src (place_of t a) m h in
      list_any-is (place_of t a) retiring_places ∙ (has-filter (is_retiring w) (below w.places) (place_of t a)
      ∙ and_from _ _ (has-range 0 w.places (place_of t a) (omega arith) (omega (arith, lt))) y)) t.edges S.sources S.sources_held)

  pub taken_edges-true : taken_edges w logs p ≡ true_taken w t p
  unfolding taken_edges true_taken
  taken_edges-true = ap (λ xs. with_items number xs []) (ap (map (λ (x : Ends). x.arc)) taken-is ∙ map-flat_map_map (λ (x : Ends). x.arc) (true_ends t) (λ a. refl) (λ r. filter goes (kept_edges (records r))) retiring_places)
      ∙ parts-whole number (λ r. filter goes (kept_edges (records r))) (λ r a. place_of t a == r) (true_taken w t p) rises retiring_places (Each-has _ retiring_places part-is) all-parts
    where
      rises : RisesBy number (true_taken w t p)
      rises = filter-rises number (is_taken_by w t p) t.edges edges-rise

  -- ---- whether one of them passes a test

  any-at : (F : Ends → Bool) (r : ℕ) → has retiring_places r ≡ true
      → list_any F (map (true_ends t) (filter goes (kept_edges (records r)))) ≡ list_any (λ a. (place_of t a == r) && (goes a && F (true_ends t a))) t.edges
  any-at F r m =
      let D = said r (retires r m) in
      any-map F (true_ends t) (filter goes (kept_edges (records r)))
      ∙ (any-filter (λ a. F (true_ends t a)) goes (kept_edges (records r))
      ∙ (sym (put-any number (λ a. goes a && F (true_ends t a)) (kept_edges (records r)) (edges-apart P t S r (records r) D))
      ∙ (ap (list_any (λ a. goes a && F (true_ends t a))) (edges-put P t S r (records r) D)
      ∙ any-filter (λ a. goes a && F (true_ends t a)) (λ a. place_of t a == r) t.edges)))

  pub any-taken : (F : Ends → Bool) → list_any F (taken w logs p) ≡ list_any (λ a. is_taken_by w t p a && F (true_ends t a)) t.edges
  any-taken F = ap (list_any F) taken-is
      ∙ (list_any-flat_map F (λ r. map (true_ends t) (filter goes (kept_edges (records r)))) retiring_places
      ∙ (list_any-agree _ _ retiring_places (Each-has _ retiring_places (any-at F))
      ∙ (any-swap (λ r a. (place_of t a == r) && (goes a && F (true_ends t a))) retiring_places t.edges
      ∙ list_any-agree _ _ t.edges (Each-both _ _ _ (λ a m h.
      let lt = within a.edge.src (place_of t a) m h in
      list_any-and (λ r. place_of t a == r) (goes a && F (true_ends t a)) retiring_places
      ∙ (ap (λ b. b && (goes a && F (true_ends t a))) (list_any-is (place_of t a) retiring_places ∙ (has-filter (is_retiring w) (below w.places) (place_of t a)
      ∙ ap (λ b. b && is_retiring w (place_of t a)) (has-range 0 w.places (place_of t a) (omega arith) (omega (arith, lt)))))
      ∙ sym (and_assoc (is_retiring w (place_of t a)) (goes a) (F (true_ends t a))))) t.edges S.sources S.sources_held))))
