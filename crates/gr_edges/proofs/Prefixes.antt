-- What the lines before one say, with one line more.
use Rattle.std.proofs.Common.{◌≡◌, ℕ, ◌+◌, ◌<◌, Bool, List, [], ◌∷◌, ◌++◌, length, take, drop, Option, Some, None, sym, ap, ◌∙◌, arith, inl, inr, length-drop}
use Rattle.std.specs.List.{flat_map}
use Rattle.std.specs.Option.{option_or}
use Rattle.std.proofs.lemmas.Bool.{cases_eq}
use Rattle.std.proofs.lemmas.List.{take_all, append-nil}
use Rattle.std.proofs.lemmas.List.Concat.{flat_map-append}
use Rattle.std.proofs.lemmas.List.Sums.{fold-append}
use Rattle.std.specs.Ordering.{nat_cmp}
use Rattle.std.specs.BTreeSet.{insert_key}
use Rattle.gr_base.specs.declared.records.Edge as base
use Rattle.gr_edges.specs.declared.line.LineFound.{LineFound}
use Rattle.gr_edges.specs.declared.line.LineFound.TheVariants.{Skipped}
use Rattle.gr_edges.specs.declared.fault.GraphFault.{GraphFault}
use Rattle.gr_edges.specs.Reading.{edges_of_line, ids_of_line, joined, edges_of, ids_of, fault_of_line, fault_of_size, fault_at, first_fault, max_edges, max_vertices}
use Rattle.gr_text.proofs.Faults.{first_fault_by-none, first_fault_by-some}
use Rattle.gr_text.proofs.Prefixes.{item-below, get_or-item, take-item}

-- The first k lines were taken, and show no fault.
pub record IsTaken (undirected : Bool) (lines : List LineFound) (k : ℕ) (edges : List base.Edge) (ids : List ℕ) : Type 0 where
  pub edges_are : edges ≡ edges_of undirected (take k lines)
  pub ids_are : ids ≡ ids_of (take k lines)
  pub sound : (i : ℕ) → i < k → fault_at max_edges max_vertices undirected lines i ≡ None

module _ (undirected : Bool) (lines : List LineFound) (k : ℕ) (edges : List base.Edge) (ids : List ℕ) (taken : IsTaken undirected lines k edges ids) (line : LineFound) (more : List LineFound) (left : line ∷ more ≡ drop k lines) where
  prefix : take (k + 1) lines ≡ take k lines ++ line ∷ []
  prefix = take-item lines k line more left

  edges-after : edges ++ edges_of_line undirected line ≡ edges_of undirected (take (k + 1) lines)
  edges-after =
      ap (λ (es : List base.Edge). es ++ edges_of_line undirected line) taken.edges_are
      ∙ ap (λ (es : List base.Edge). edges_of undirected (take k lines) ++ es) (sym (append-nil (edges_of_line undirected line)))
      ∙ sym (flat_map-append (edges_of_line undirected) (take k lines) (line ∷ []))
      ∙ ap (edges_of undirected) (sym prefix)

  ids-after : joined ids (ids_of_line line) ≡ ids_of (take (k + 1) lines)
  ids-after =
      ap (λ (ns : List ℕ). joined ns (ids_of_line line)) taken.ids_are
      ∙ sym (fold-append (insert_key nat_cmp) [] (flat_map ids_of_line (take k lines)) (ids_of_line line))
      ∙ ap (λ (ns : List ℕ). joined [] (flat_map ids_of_line (take k lines) ++ ns)) (sym (append-nil (ids_of_line line)))
      ∙ ap (joined []) (sym (flat_map-append ids_of_line (take k lines) (line ∷ [])))
      ∙ ap ids_of (sym prefix)

  abbrev fault : Option GraphFault
  fault = option_or (fault_of_line (k + 1) line) (fault_of_size max_edges max_vertices (k + 1) (edges ++ edges_of_line undirected line) (joined ids (ids_of_line line)))

  fault-here : fault_at max_edges max_vertices undirected lines k ≡ fault
  fault-here = λ t. option_or (fault_of_line (k + 1) (get_or-item lines k line more left Skipped t)) (fault_of_size max_edges max_vertices (k + 1) (sym edges-after t) (sym ids-after t))

  -- a line with no fault
  pub taken-after : (new_edges : List base.Edge) (new_ids : List ℕ) → new_edges ≡ edges ++ edges_of_line undirected line → new_ids ≡ joined ids (ids_of_line line) → fault_of_line (k + 1) line ≡ None → fault_of_size max_edges max_vertices (k + 1) new_edges new_ids ≡ None → IsTaken undirected lines (k + 1) new_edges new_ids
  taken-after new_edges new_ids edges_same ids_same sound few = record {
    edges_are = edges_same ∙ edges-after;
    ids_are = ids_same ∙ ids-after;
    sound = λ i lt. elim (cases_eq i k) [
      | inl last ↦
          ap (fault_at max_edges max_vertices undirected lines) last ∙ fault-here
          ∙ (λ t. option_or (sound t) (fault_of_size max_edges max_vertices (k + 1) (sym edges_same t) (sym ids_same t))) ∙ few
      | inr earlier ↦ taken.sound i (omega arith)
    ];
  }

  -- a line with a fault
  pub fault-found : (found : GraphFault) → fault ≡ Some found → first_fault undirected lines ≡ Some found
  fault-found found is = first_fault_by-some (fault_at max_edges max_vertices undirected lines) (length lines) k found (item-below lines k line more left) taken.sound (fault-here ∙ is)

-- all lines were taken
module _ (undirected : Bool) (lines : List LineFound) (k : ℕ) (edges : List base.Edge) (ids : List ℕ) (taken : IsTaken undirected lines k edges ids) (left : [] ≡ drop k lines) where
  all : take k lines ≡ lines
  all = take_all k lines (omega (arith, ap length left, length-drop k lines))

  pub all-edges : edges ≡ edges_of undirected lines
  all-edges = taken.edges_are ∙ ap (edges_of undirected) all

  pub all-ids : ids ≡ ids_of lines
  all-ids = taken.ids_are ∙ ap ids_of all

  pub no-fault : first_fault undirected lines ≡ None
  no-fault = first_fault_by-none (fault_at max_edges max_vertices undirected lines) (length lines) (λ i lt. taken.sound i (omega (arith, ap length left, length-drop k lines)))

-- no line was taken
pub none-taken : (undirected : Bool) (lines : List LineFound) (edges : List base.Edge) (ids : List ℕ) → edges ≡ [] → ids ≡ [] → IsTaken undirected lines 0 edges ids
none-taken undirected lines edges ids no_edge no_id = record { edges_are = no_edge; ids_are = no_id; sound = λ i lt. absurd (omega arith) }
