-- What a rebuild grants, stages and appends.
use Rattle.std.specs.Prelude.{ℕ, ◌+◌, Bool, not, ◌&&◌, ◌||◌, ◌==◌, nat_lt, List, ◌++◌, Option, Some, None, map, length, if◌then◌else◌}
use Rattle.std.specs.List.{list_any, filter, filter_map}
use Rattle.gr_base.specs.declared.records.NumberedEdge.{NumberedEdge}
use Rattle.gr_base.specs.Rising.{has}
use Rattle.gr_base.specs.Places.{below}
use Rattle.gr_program.specs.declared.copy.VertexCopy.{VertexCopy}
use Rattle.gr_copies.specs.declared.view.RebuildView.{RebuildView}
use Rattle.gr_copies.specs.Granter.{is_retiring}
use Rattle.gr_copies.specs.Holders.{extras}
use Rattle.gr_log.specs.declared.record.LogRecord.{LogRecord}
use Rattle.gr_log.specs.declared.record.LogRecord.TheVariants as item
use Rattle.gr_log.specs.Directory.{Entry}
use Rattle.gr_rules.specs.Rows.{is_hidden, entry, record_of}
use Rattle.gr_rules.specs.Taken.{is_granter, master_after}

-- how many holders a rebuild asks for: none in a recovery, one more than the losses in a repair
abbrev pub wanted : Bool → RebuildView → ℕ
wanted repair w = if repair then w.losses + 1 else 0

-- A rebuild goes by its view w, and by the number of holders that it wants for each vertex.
module _ (w : RebuildView) (want : ℕ) where
  abbrev pub extra_holders : Entry → List ℕ
  extra_holders e = extras w.live want e.master e.holders

  -- the old holders without the retiring ones, with those who ask and with the extras
  abbrev pub is_new_holder : Entry → List ℕ → ℕ → Bool
  is_new_holder e asked q = (has e.holders q && not (is_retiring w q)) || (has asked q || has (extra_holders e) q)

  unfoldable pub new_holders : Entry → List ℕ → List ℕ
  new_holders e asked = filter (is_new_holder e asked) (below w.places)

  -- a vertex is granted anew where a holder died, where some place asks for it, and where it gets an extra
  abbrev pub is_granted : Entry → List ℕ → Bool
  is_granted e asked = list_any (has w.dead) e.holders || (nat_lt 0 (length asked) || nat_lt 0 (length (extra_holders e)))

  module _ {V : Type 0} where
    -- the value of a hidden vertex is granted to a master that did not die, and else to nobody
    abbrev pub granted_value : VertexCopy V → ℕ → Option V
    granted_value c q = if is_hidden w.forgetful c && not ((c.master == q) && not (has w.dead c.master)) then None else c.value

    -- where its master died it is due, so that it is applied once more
    abbrev pub granted_due : VertexCopy V → Bool
    granted_due c = c.due || (is_hidden w.forgetful c && has w.dead c.master)

    -- the new copy for q
    abbrev pub granted_copy : VertexCopy V → List ℕ → ℕ → VertexCopy V
    granted_copy c asked q = record {
      vertex = c.vertex;
      indeg = c.indeg;
      outdeg = c.outdeg;
      master = master_after w (entry c);
      holders = new_holders (entry c) asked;
      value = granted_value c q;
      due = granted_due c;
    }

    abbrev pub is_granted_to : ℕ → ℕ → VertexCopy V → List ℕ → Bool
    is_granted_to p q c asked = is_granter w (entry c) p && (is_granted (entry c) asked && has (new_holders (entry c) asked) q)

    -- Grant: the new copies of the vertices that p grants, for those that q is to hold; `asked` names those who ask for a vertex
    unfoldable pub grant_body : ℕ → (ℕ → List ℕ) → List (VertexCopy V) → ℕ → List (VertexCopy V)
    grant_body p asked rows q =
        filter_map (λ c. if is_granted_to p q c (asked c.vertex) then Some (granted_copy c (asked c.vertex) q) else None) rows

-- what is appended to the log: a record for each granted copy, then one for each taken edge
unfoldable pub records_after : {V : Type 0} → List (VertexCopy V) → List NumberedEdge → List LogRecord
records_after granted arcs = map record_of granted ++ map item.Kept arcs
