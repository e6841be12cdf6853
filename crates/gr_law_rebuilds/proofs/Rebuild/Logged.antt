-- What the committed log of a place says of the edges that stand there.
use Rattle.std.proofs.Common.{◌≡◌, ℕ, List, [], ◌∷◌, true, false, ◌==◌, map, filter, find, sym, ap, ◌∙◌, subst, Some, eqb-true}
use Rattle.std.specs.List.{AllByRecursion as Each}
use Rattle.gr_base.specs.declared.records.NumberedEdge.{NumberedEdge}
use Rattle.gr_base.specs.Rising.{has}
use Rattle.gr_program.specs.Program.{Program}
use Rattle.gr_log.specs.declared.record.LogRecord.{LogRecord}
use Rattle.gr_log.specs.Directory.{Entry, directory_in, edges_in, kept_edges, entry_in, with_items}
use Rattle.gr_agree.specs.Logs.{KeepsEachOnce}
use Rattle.gr_rules.specs.Taken.{Ends, ends_of, edges_with_ends}
use Rattle.gr_agree.specs.Truth.{Truth, held, place_of, arcs_at, true_entry, entries_at}
use Rattle.gr_agree.specs.Logs.{Sound}
use Rattle.gr_lists.proofs.Tests.{by_test}
use Rattle.gr_lists.proofs.Each.{Each-both}
use Rattle.gr_lists.proofs.Chosen.{Each-passing}
use Rattle.gr_law_rebuilds.proofs.Rebuild.Once.{Apart, once-apart, put-each}
use Rattle.gr_law_rebuilds.proofs.Rebuild.Selecting.{filter_map-each}

-- some records say what a place holds and which edges stand there
pub record IsSaid {V : Type 0} (t : Truth V) (r : ℕ) (rs : List LogRecord) : Type 0 where
  pub entries : directory_in rs ≡ entries_at t r
  pub edges : edges_in rs ≡ arcs_at t r
  pub once : KeepsEachOnce rs

-- an edge with the entries of its ends
abbrev pub true_ends : {V : Type 0} → Truth V → NumberedEdge → Ends
true_ends t a = record { arc = a; src = true_entry t a.edge.src; dst = true_entry t a.edge.dst }

abbrev pub number : NumberedEdge → ℕ
number a = a.number

module _ {V A : Type 0} (P : Program V A) (t : Truth V) (S : Sound P t) (r : ℕ) (rs : List LogRecord) (D : IsSaid t r rs) where
  pub edges-apart : Apart number (kept_edges rs)
  unfolding edges_in
  edges-apart = once-apart number (kept_edges rs) D.once

  pub edges-put : with_items number (kept_edges rs) [] ≡ filter (λ a. place_of t a == r) t.edges
  unfolding edges_in arcs_at
  edges-put = D.edges

  find-entries : (vs : List ℕ) (v : ℕ) → has vs v ≡ true → held t r v ≡ true → find (λ e. e.vertex == v) (map (true_entry t) (filter (held t r) vs)) ≡ Some (true_entry t v)
  find-entries [] v m h = absurd (let bad : false ≡ true = m in cc)
  find-entries (u ∷ vs) v m h = by_test (u == v)
      (λ e. let same : u ≡ v = eqb-true u v e in
      let hu : held t r u ≡ true = ap (held t r) same ∙ h in
      rw (hu, e) (ap (λ x. Some (true_entry t x)) same))
      (λ e. let m' : has vs v ≡ true = rw e at m in by_test (held t r u)
      (λ k. rw (k, e) (find-entries vs v m' h))
      (λ k. rw k (find-entries vs v m' h)))

  entry-there : (v : ℕ) → has t.vertices v ≡ true → held t r v ≡ true → entry_in rs v ≡ Some (true_entry t v)
  unfolding entries_at
  entry-there v m h = ap (find (λ (e : Entry). e.vertex == v)) D.entries ∙ find-entries t.vertices v m h

  -- an edge whose ends the records name
  abbrev IsNamed : NumberedEdge → Type 0
  IsNamed a = ends_of a (entry_in rs a.edge.src) (entry_in rs a.edge.dst) ≡ Some (true_ends t a)

  edge-named : (a : NumberedEdge) → has t.vertices a.edge.src ≡ true → has t.vertices a.edge.dst ≡ true → held t r a.edge.src ≡ true → held t r a.edge.dst ≡ true → IsNamed a
  edge-named a s d hs hd = λ i. ends_of a (entry-there a.edge.src s hs i) (entry-there a.edge.dst d hd i)

  all-named : Each IsNamed (filter (λ a. place_of t a == r) t.edges)
  all-named = Each-passing IsNamed (λ a. place_of t a == r) t.edges (Each-both _ _ _
      (λ a v h e. let same = eqb-true (place_of t a) r e in edge-named a v.0 v.1 (subst (λ q. held t q a.edge.src ≡ true) same h.0) (subst (λ q. held t q a.edge.dst ≡ true) same h.1))
      t.edges
      (Each-both _ _ (λ a. (has t.vertices a.edge.src ≡ true) × (has t.vertices a.edge.dst ≡ true)) (λ a s d. (s, d)) t.edges S.sources S.targets)
      (Each-both _ _ (λ a. (held t (place_of t a) a.edge.src ≡ true) × (held t (place_of t a) a.edge.dst ≡ true)) (λ a s d. (s, d)) t.edges S.sources_held S.targets_held))

  pub edges-ends : edges_with_ends rs ≡ map (true_ends t) (kept_edges rs)
  unfolding edges_with_ends
  edges-ends = filter_map-each _ (true_ends t) (kept_edges rs) (put-each number IsNamed (kept_edges rs) edges-apart (subst (Each IsNamed) (sym edges-put) all-named))
