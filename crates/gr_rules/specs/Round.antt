-- A round at one place: sums, new values, the four bodies and the marks, from its stable rows, its edges and what the others sent.
use Rattle.std.specs.Prelude.{ℕ, Bool, not, ◌&&◌, ◌==◌, List, Option, Some, None, map, option_map, unwrap_or, if◌then◌else◌}
use Rattle.std.specs.List.{list_any, filter, filter_map, find, fold}
use Rattle.gr_base.specs.declared.records.NumberedEdge.{NumberedEdge}
use Rattle.gr_base.specs.Rising.{has}
use Rattle.gr_program.specs.declared.copy.VertexCopy.{VertexCopy}
use Rattle.gr_program.specs.Program.{Program, total}
use Rattle.gr_cut.specs.Cut.{is_high}
use Rattle.gr_batch.specs.declared.body.Part.{Part}
use Rattle.gr_batch.specs.declared.body.NewValue.{NewValue}
use Rattle.gr_batch.specs.declared.body.Body.{Body}
use Rattle.gr_batch.specs.Bodies.{parts_of}
use Rattle.gr_rules.specs.Rows.{row, into, is_hidden}

-- the part of a vertex in a Gather body
abbrev pub part_for : {V A : Type 0} → ℕ → Body V A → Option A
part_for v b = option_map (λ x. x.acc) (find (λ x. x.vertex == v) (parts_of b))

module _ {V A : Type 0} (P : Program V A) where
  -- what an edge brings from the copy of its source
  abbrev pub along_value : Option V → ℕ → ℕ → A
  along_value None w d = P.unit
  along_value (Some x) w d = P.along x w d

  abbrev pub along_row : Option (VertexCopy V) → ℕ → A
  along_row None w = P.unit
  along_row (Some c) w = along_value c.value w c.outdeg

  -- the join, from the unit, of what the place's edges bring to v
  unfoldable pub own_sum : List (VertexCopy V) → List NumberedEdge → ℕ → A
  own_sum rows arcs v = total P (map (λ a. along_row (row rows a.edge.src) a.edge.weight) (filter (into v) arcs))

  -- Gather: a part for each due high vertex that q masters and into which the place has an edge
  abbrev pub gather_line : ℕ → ℕ → List (VertexCopy V) → List NumberedEdge → VertexCopy V → Option (Part A)
  gather_line theta q rows arcs c =
      if c.due && (is_high theta c.indeg && ((c.master == q) && list_any (into c.vertex) arcs))
      then Some (record { vertex = c.vertex; acc = own_sum rows arcs c.vertex }) else None

  unfoldable pub gather_body : ℕ → ℕ → List (VertexCopy V) → List NumberedEdge → List (Part A)
  gather_body theta q rows arcs = filter_map (gather_line theta q rows arcs) rows

  -- the place's own sum, joined with each part that was sent, by rising sender
  unfoldable pub whole_sum : List (VertexCopy V) → List NumberedEdge → List (Body V A) → ℕ → A
  whole_sum rows arcs gathers v = fold P.join (own_sum rows arcs v) (filter_map (part_for v) gathers)

  -- where the old value is not kept the first one stands for it
  abbrev pub old_value : VertexCopy V → V
  old_value c = unwrap_or c.value (P.start c.vertex c.indeg c.outdeg)

  abbrev pub new_value : List (VertexCopy V) → List NumberedEdge → List (Body V A) → VertexCopy V → NewValue V
  new_value rows arcs gathers c =
      let x = P.apply c.vertex (old_value c) (whole_sum rows arcs gathers c.vertex) in
      record { vertex = c.vertex; value = x; wake = P.wakes (old_value c) x }

  -- the new values of the due vertices that p masters
  unfoldable pub new_values : ℕ → List (VertexCopy V) → List NumberedEdge → List (Body V A) → List (NewValue V)
  new_values p rows arcs gathers =
      filter_map (λ c. if c.due && (c.master == p) then Some (new_value rows arcs gathers c) else None) rows

  -- Update: those of them that q holds, but for the hidden ones
  unfoldable pub update_body : ℕ → ℕ → List (VertexCopy V) → List NumberedEdge → List (Body V A) → List (NewValue V)
  update_body p q rows arcs gathers =
      filter_map (λ c. if (c.due && (c.master == p)) && (has c.holders q && not (is_hidden P.forgetful c)) then Some (new_value rows arcs gathers c) else None) rows

-- whether a vertex woke, by the new values that the place knows
abbrev pub woke_by : {V : Type 0} → List (NewValue V) → ℕ → Bool
woke_by news v = list_any (λ n. (n.vertex == v) && n.wake) news

-- whether an edge of the place leads to v from a vertex that woke
abbrev pub is_signalled : {V : Type 0} → List (NewValue V) → List NumberedEdge → ℕ → Bool
is_signalled news arcs v = list_any (λ a. (a.edge.dst == v) && woke_by news a.edge.src) arcs

-- the vertices of the copies that pass
abbrev pub vertices_where : {V : Type 0} → (VertexCopy V → Bool) → List (VertexCopy V) → List ℕ
vertices_where test rows = map (λ c. c.vertex) (filter test rows)

-- Signal: the targets that q masters of the place's edges from vertices that woke
unfoldable pub signal_body : {V : Type 0} → List (NewValue V) → List (VertexCopy V) → List NumberedEdge → ℕ → List ℕ
signal_body news rows arcs q = vertices_where (λ c. (c.master == q) && is_signalled news arcs c.vertex) rows

-- Call: those of the vertices due next that p masters and q holds
unfoldable pub call_body : {V : Type 0} → List ℕ → List (VertexCopy V) → ℕ → ℕ → List ℕ
call_body next rows p q = vertices_where (λ c. (c.master == p) && (has next c.vertex && has c.holders q)) rows
