-- The committed state after a rebuild, and what the rebuild takes, asks for, grants and appends.
use Rattle.std.specs.Prelude.{ℕ, Bool, not, ◌&&◌, ◌||◌, ◌==◌, List, map, if◌then◌else◌}
use Rattle.std.specs.List.{filter, list_any}
use Rattle.gr_base.specs.declared.records.NumberedEdge.{NumberedEdge}
use Rattle.gr_base.specs.Rising.{has, union}
use Rattle.gr_program.specs.declared.copy.VertexCopy.{VertexCopy}
use Rattle.gr_program.specs.Program.{Program}
use Rattle.gr_cut.specs.Cut.{edge_place}
use Rattle.gr_copies.specs.declared.view.RebuildView.{RebuildView}
use Rattle.gr_copies.specs.Granter.{is_retiring}
use Rattle.gr_log.specs.declared.record.LogRecord.{LogRecord}
use Rattle.gr_rules.specs.Rows.{blank_copy}
use Rattle.gr_rules.specs.Taken.{is_granter, master_after}
use Rattle.gr_rules.specs.Grants.{new_holders, is_granted, records_after}
use Rattle.gr_agree.specs.Truth.{Truth, high, held, place_of, true_entry, entries_at, hidden, copy_at, rows_at}

module _ {V : Type 0} (w : RebuildView) where
  abbrev pub true_master_after : Truth V → ℕ → ℕ
  true_master_after t v = master_after w (true_entry t v)

  -- the place of an edge by the new masters
  abbrev pub place_after : Truth V → NumberedEdge → ℕ
  place_after t a = edge_place (true_master_after t a.edge.src) (true_master_after t a.edge.dst) (high t a.edge.dst)

  -- p takes the edges of retiring places that stand at p by the new masters
  abbrev pub is_taken_by : Truth V → ℕ → NumberedEdge → Bool
  is_taken_by t p a = is_retiring w (place_of t a) && (place_after t a == p)

  unfoldable pub true_taken : Truth V → ℕ → List NumberedEdge
  true_taken t p = filter (is_taken_by t p) t.edges

  -- a place asks for a vertex that it lacks where it takes an edge of it
  unfoldable pub is_asker : Truth V → ℕ → ℕ → Bool
  is_asker t v q = not (held t q v) && list_any (λ a. is_taken_by t q a && ((a.edge.src == v) || (a.edge.dst == v))) t.edges

  abbrev pub true_askers : Truth V → ℕ → List ℕ
  true_askers t v = filter (is_asker t v) (union w.live w.reborn)

  -- Ask: the vertices for which p asks q
  unfoldable pub true_asks : Truth V → ℕ → ℕ → List ℕ
  true_asks t p q = filter (λ v. is_asker t v p && is_granter w (true_entry t v) q) t.vertices

-- a rebuild by its view, which wants so many holders
module _ {V A : Type 0} (P : Program V A) (w : RebuildView) (want : ℕ) where
  -- a vertex without readers whose master died: its value is gone, so it is due
  abbrev pub is_orphan : Truth V → ℕ → Bool
  is_orphan t v = hidden P t v && has w.dead (t.master v)

  -- the same graph, values and active vertices, with the new masters and holders
  abbrev pub rebuilt : Truth V → Truth V
  rebuilt t = record t {
    master = true_master_after w t;
    holders = λ v. new_holders w want (true_entry t v) (true_askers w t v);
    due = λ v. t.due v || is_orphan t v;
    kept = λ v. t.kept v && not (is_orphan t v);
  }

  -- the vertices that are granted anew to p
  abbrev pub is_granted_at : Truth V → ℕ → ℕ → Bool
  is_granted_at t p v = is_granted w want (true_entry t v) (true_askers w t v) && held (rebuilt t) p v

  -- all copies that are granted to p
  unfoldable pub true_granted : Truth V → ℕ → List (VertexCopy V)
  true_granted t p = map (copy_at P (rebuilt t) p) (filter (is_granted_at t p) t.vertices)

  -- Grant: those of them that p grants to q
  unfoldable pub true_grants : Truth V → ℕ → ℕ → List (VertexCopy V)
  true_grants t p q =
      map (copy_at P (rebuilt t) q) (filter (λ v. is_granter w (true_entry t v) p && is_granted_at t q v) t.vertices)

  -- what p appends to its log
  abbrev pub true_records : Truth V → ℕ → List LogRecord
  true_records t p = records_after (true_granted t p) (true_taken w t p)

  -- the stable copies of a party: without values at a reborn place
  abbrev pub stable_at : Truth V → ℕ → List (VertexCopy V)
  stable_at t p = if has w.reborn p then map blank_copy (entries_at t p) else rows_at P t p
