-- The edges of the places that retire, and what a place takes and asks for of them.
use Rattle.std.proofs.Common.{◌≡◌, ◌∙◌, ◌<◌, ◌++◌, ◌==◌, ℕ, List, [], ◌∷◌, true, false, length, set, map, flat_map, refl, sym, ap, eqb-true, eq-eqb}
use Rattle.std.specs.List.{filter}
use Rattle.std.proofs.lemmas.Bool.{both_ways}
use Rattle.std.proofs.lemmas.List.{get_or-set_other}
use Rattle.std.proofs.lemmas.Grind.{get_or-set_at}
use Rattle.std.proofs.lemmas.List.Concat.{flat_map-append}
use Rattle.gr_base.specs.declared.records.NumberedEdge.{NumberedEdge}
use Rattle.gr_lists.proofs.Tests.{by_test}
use Rattle.gr_program.specs.declared.copy.VertexCopy.{VertexCopy}
use Rattle.gr_copies.specs.declared.view.RebuildView.{RebuildView}
use Rattle.gr_copies.specs.Granter.{is_retiring}
use Rattle.gr_log.specs.Log.{Log, empty_log}
use Rattle.gr_log.specs.Directory.{Entry, with_items}
use Rattle.gr_rules.specs.Taken.{Ends, taken, taken_edges, ask_body, edges_with_ends, goes_to, log_at}
use Rattle.gr_migrate.specs.Asks.{both_ends, ends_taken, taken_among, is_missing_from, with_missing, asked_among}
use Rattle.gr_migrate.specs.Ends.{retired_edges, retiring}
use Rattle.gr_migrate.proofs.Picked.{filter-more, filter-same, gathered-append}
use Rattle.gr_migrate.proofs.Placed.{parts, filter-flat_map}

-- the edges of one log
abbrev pub edges_at : List Log → ℕ → List Ends
edges_at logs r = edges_with_ends (log_at logs r).committed

pub retired-parts : (w : RebuildView) (logs : List Log) → parts (is_retiring w) (edges_at logs) w.places ≡ retired_edges w logs
unfolding retired_edges
retired-parts w logs = refl

-- they stay the same if a log keeps what is committed
pub retired-set : (w : RebuildView) (logs : List Log) (p : ℕ) (l : Log) → p < length logs → l.committed ≡ (log_at logs p).committed → retired_edges w (set logs p l) ≡ retired_edges w logs
unfolding retired_edges
retired-set w logs p l lt same = λ i. flat_map (λ r. edges_with_ends (each r i)) (retiring w)
  where
    each : (r : ℕ) → (log_at (set logs p l) r).committed ≡ (log_at logs r).committed
    each r = by_test (r == p)
        (λ e. let is = eqb-true r p e in ap (λ (x : Log). x.committed) (get_or-set_at logs p r l empty_log is lt) ∙ (same ∙ ap (λ q. (log_at logs q).committed) (sym is)))
        (λ n. ap (λ (x : Log). x.committed) (get_or-set_other logs p r l empty_log (λ is. both_ways _ n (eq-eqb r p is))))

-- what p takes and asks for of them is what the rules say
goes-retired : (w : RebuildView) (logs : List Log) (p : ℕ) → filter (goes_to w p) (retired_edges w logs) ≡ taken w logs p
unfolding retired_edges taken
goes-retired w logs p = filter-flat_map (goes_to w p) (edges_at logs) (retiring w)

pub taken-retired : (w : RebuildView) (logs : List Log) (p : ℕ) → taken_among w p (retired_edges w logs) ≡ taken_edges w logs p
unfolding taken_among taken_edges
taken-retired w logs p = ap (λ xs. with_items (λ (a : NumberedEdge). a.number) (map (λ (x : Ends). x.arc) xs) []) (goes-retired w logs p)

module _ {V : Type 0} (w : RebuildView) (p : ℕ) (rows : List (VertexCopy V)) (q : ℕ) where
  pub asked-retired : (logs : List Log) → asked_among w p rows q (retired_edges w logs) ≡ ask_body w logs p rows q
  unfolding asked_among ask_body
  asked-retired logs = ap (λ xs. with_missing w rows q [] (flat_map both_ends xs)) (goes-retired w logs p)

  -- what it asks for with one edge more
  abbrev pub asked_so_far : List Ends → List ℕ
  asked_so_far xs = with_missing w rows q [] (ends_taken w p xs)

  pub asked-more : (xs : List Ends) (x : Ends) → goes_to w p x ≡ true → asked_so_far (xs ++ x ∷ []) ≡ with_missing w rows q (with_missing w rows q (asked_so_far xs) (x.src ∷ [])) (x.dst ∷ [])
  asked-more xs x on =
      let test = is_missing_from w rows q in
      let key = λ (e : Entry). e.vertex in
      ap (λ l. with_missing w rows q [] (flat_map both_ends l)) (filter-more (goes_to w p) xs x on)
      ∙ (ap (with_missing w rows q []) (flat_map-append both_ends (filter (goes_to w p) xs) (x ∷ []))
      ∙ (gathered-append test key [] (ends_taken w p xs) (both_ends x) ∙ gathered-append test key (asked_so_far xs) (x.src ∷ []) (x.dst ∷ [])))

  pub asked-same : (xs : List Ends) (x : Ends) → goes_to w p x ≡ false → asked_so_far (xs ++ x ∷ []) ≡ asked_so_far xs
  asked-same xs x off = ap (λ l. with_missing w rows q [] (flat_map both_ends l)) (filter-same (goes_to w p) xs x off)
