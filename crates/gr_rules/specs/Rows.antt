-- The copies and edges of one layer of a place.
use Rattle.std.specs.Prelude.{ℕ, Bool, false, ◌&&◌, ◌==◌, List, Option, Some, None, map}
use Rattle.std.specs.List.{find}
use Rattle.gr_base.specs.declared.records.NumberedEdge.{NumberedEdge}
use Rattle.gr_base.specs.Rising.{has}
use Rattle.gr_program.specs.declared.copy.VertexCopy.{VertexCopy}
use Rattle.gr_log.specs.declared.record.LogRecord.{LogRecord}
use Rattle.gr_log.specs.Directory.{Entry, held_record, directory_in}
use Rattle.gr_batch.specs.declared.body.NewValue.{NewValue}

-- the copy of a vertex, where the layer has one
abbrev pub row : {V : Type 0} → List (VertexCopy V) → ℕ → Option (VertexCopy V)
row rows v = find (λ c. c.vertex == v) rows

-- whether an edge ends at v
abbrev pub into : ℕ → NumberedEdge → Bool
into v a = a.edge.dst == v

-- a vertex without readers under a forgetful program: its value is kept at its master alone
abbrev pub is_hidden : {V : Type 0} → Bool → VertexCopy V → Bool
is_hidden forgetful c = forgetful && (c.outdeg == 0)

-- what a copy says besides its value and its mark
abbrev pub entry : {V : Type 0} → VertexCopy V → Entry
entry c = record { vertex = c.vertex; indeg = c.indeg; outdeg = c.outdeg; master = c.master; holders = c.holders }

-- the record of a copy
abbrev pub record_of : {V : Type 0} → VertexCopy V → LogRecord
record_of c = held_record (entry c)

-- a copy without value, not due
abbrev pub blank_copy : {V : Type 0} → Entry → VertexCopy V
blank_copy e = record { vertex = e.vertex; indeg = e.indeg; outdeg = e.outdeg; master = e.master; holders = e.holders; value = None; due = false }

-- the copies of a log: one for each vertex with a Held record, by the last such record
unfoldable pub blank_rows : {V : Type 0} → List LogRecord → List (VertexCopy V)
blank_rows rs = map blank_copy (directory_in rs)

abbrev pub with_value : {V : Type 0} → Option (NewValue V) → VertexCopy V → VertexCopy V
with_value None c = c
with_value (Some n) c = record c { value = Some n.value }

-- each copy whose vertex is named has the new value
unfoldable pub with_values : {V : Type 0} → List (NewValue V) → List (VertexCopy V) → List (VertexCopy V)
with_values {V} news rows = map (λ (c : VertexCopy V). with_value (find (λ n. n.vertex == c.vertex) news) c) rows

-- a copy is due exactly where its vertex is listed
unfoldable pub with_due : {V : Type 0} → List ℕ → List (VertexCopy V) → List (VertexCopy V)
with_due {V} due rows = map (λ (c : VertexCopy V). record c { due = has due c.vertex }) rows
