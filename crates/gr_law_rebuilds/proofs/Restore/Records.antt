-- What a log says once a rebuild has appended to it.
use Rattle.std.proofs.Common.{◌≡◌, ℕ, ◌+◌, List, [], ◌++◌, map, filter_map, length, sym, ap, ◌∙◌}
use Rattle.std.proofs.lemmas.List.{length-append}
use Rattle.std.proofs.lemmas.List.Elements.{filter_map-append}
use Rattle.std.proofs.lemmas.List.Sums.{fold-append}
use Rattle.gr_base.specs.declared.records.NumberedEdge.{NumberedEdge}
use Rattle.gr_base.specs.Rising.{RisesBy, with_item}
use Rattle.gr_program.specs.Program.{Program}
use Rattle.gr_copies.specs.declared.view.RebuildView.{RebuildView}
use Rattle.gr_copies.specs.Granter.{is_retiring}
use Rattle.std.specs.Prelude.{false}
use Rattle.gr_log.specs.declared.record.LogRecord.{LogRecord}
use Rattle.gr_log.specs.Directory.{Entry, entry_of, edge_of, with_items, directory_in, kept_edges, edges_in}
use Rattle.gr_agree.specs.Logs.{KeepsEachOnce}
use Rattle.gr_rules.specs.Rows.{entry}
use Rattle.gr_rules.specs.Grants.{records_after}
use Rattle.gr_agree.specs.Truth.{Truth, entries_at, arcs_at}
use Rattle.gr_agree.specs.Rebuilt.{true_granted, true_taken, true_records, rebuilt}
use Rattle.gr_law_rounds.proofs.Load.Load.{entries-kept, edges-kept}
use Rattle.gr_law_rebuilds.proofs.Restore.Fits.{Fits}
use Rattle.gr_law_rebuilds.proofs.Restore.Layers.{entries-after}
use Rattle.gr_law_rebuilds.proofs.Restore.Edges.{arcs-after, length-arcs_after}

directory-append : (rs ss : List LogRecord) → directory_in (rs ++ ss) ≡ with_items (λ (e : Entry). e.vertex) (filter_map entry_of ss) (directory_in rs)
unfolding directory_in
directory-append rs ss =
    ap (λ l. with_items (λ (e : Entry). e.vertex) l []) (filter_map-append entry_of rs ss)
    ∙ fold-append (λ ys x. with_item (λ (e : Entry). e.vertex) x ys) [] (filter_map entry_of rs) (filter_map entry_of ss)

kept-append : (rs ss : List LogRecord) → kept_edges (rs ++ ss) ≡ kept_edges rs ++ kept_edges ss
kept-append rs ss = filter_map-append edge_of rs ss

edges-append : (rs ss : List LogRecord) → edges_in (rs ++ ss) ≡ with_items (λ (a : NumberedEdge). a.number) (kept_edges ss) (edges_in rs)
unfolding edges_in
edges-append rs ss =
    ap (λ l. with_items (λ (a : NumberedEdge). a.number) l []) (kept-append rs ss)
    ∙ fold-append (λ ys x. with_item (λ (a : NumberedEdge). a.number) x ys) [] (kept_edges rs) (kept_edges ss)

module _ {V A : Type 0} (P : Program V A) (w : RebuildView) (want : ℕ) (t : Truth V) (p : ℕ) (stays : is_retiring w p ≡ false) (rs : List LogRecord) where
  abbrev t' : Truth V
  t' = rebuilt P w want t

  entries-appended : filter_map entry_of (true_records P w want t p) ≡ map entry (true_granted P w want t p)
  unfolding records_after
  entries-appended = entries-kept (true_granted P w want t p) (true_taken w t p)

  edges-appended : kept_edges (true_records P w want t p) ≡ true_taken w t p
  unfolding records_after
  edges-appended = edges-kept (true_granted P w want t p) (true_taken w t p)

  pub directory-after : Fits w t → RisesBy (λ v. v) t.vertices → directory_in rs ≡ entries_at t p → directory_in (rs ++ true_records P w want t p) ≡ entries_at t' p
  directory-after F rise was =
      directory-append rs (true_records P w want t p)
      ∙ ((λ i. with_items (λ (e : Entry). e.vertex) (entries-appended i) (was i)) ∙ entries-after P w want t F rise p stays)

  module _ (was : edges_in rs ≡ arcs_at t p) (rise : RisesBy (λ (a : NumberedEdge). a.number) t.edges) where
    pub edges-after : edges_in (rs ++ true_records P w want t p) ≡ arcs_at t' p
    edges-after =
        edges-append rs (true_records P w want t p)
        ∙ ((λ i. with_items (λ (a : NumberedEdge). a.number) (edges-appended i) (was i)) ∙ arcs-after P w want t p stays rise)

    pub once-after : KeepsEachOnce rs → KeepsEachOnce (rs ++ true_records P w want t p)
    once-after once =
        ap length edges-after
        ∙ (length-arcs_after P w want t p stays
        ∙ ((λ i. length (sym was i) + length (sym edges-appended i))
        ∙ (ap (λ n. n + length (kept_edges (true_records P w want t p))) once
        ∙ (sym (length-append (kept_edges rs) (kept_edges (true_records P w want t p)))
        ∙ ap length (sym (kept-append rs (true_records P w want t p)))))))
