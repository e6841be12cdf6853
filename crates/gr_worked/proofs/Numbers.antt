-- Plain data as lists of numbers, so that computed cases compare them.
use Rattle.std.proofs.Common.{ℕ, Bool, true, false, List, [], ◌∷◌, ◌++◌, ◌&&◌}
use Rattle.std.specs.Prelude.{◌==◌, Option, Some, None, flat_map, length, cond}
use Rattle.gr_base.specs.declared.records.NumberedEdge.{NumberedEdge}
use Rattle.gr_program.specs.declared.copy.VertexCopy.{VertexCopy}
use Rattle.gr_log.specs.declared.record.LogRecord.{LogRecord}
use Rattle.gr_log.specs.Bytes.{records_bytes}
use Rattle.gr_log.specs.Directory.{Entry}
use Rattle.gr_batch.specs.declared.body.Body.{Body}
use Rattle.gr_batch.specs.declared.body.Body.TheVariants as body

abbrev pub same : List ℕ → List ℕ → Bool
same [] [] = true
same (x ∷ xs) (y ∷ ys) = (x == y) && same xs ys
same _ _ = false

abbrev pub bit : Bool → ℕ
bit b = cond b 1 0

abbrev pub items : {X : Type 0} → (X → List ℕ) → List X → List ℕ
items f xs = length xs ∷ flat_map f xs

abbrev pub one : ℕ → List ℕ
one x = x ∷ []

abbrev pub option_numbers : Option ℕ → List ℕ
option_numbers None = 0 ∷ []
option_numbers (Some x) = 1 ∷ x ∷ []

abbrev pub copy_numbers : VertexCopy ℕ → List ℕ
copy_numbers c = c.vertex ∷ c.indeg ∷ c.outdeg ∷ c.master ∷ (items one c.holders ++ option_numbers c.value ++ bit c.due ∷ [])

abbrev pub entry_numbers : Entry → List ℕ
entry_numbers e = e.vertex ∷ e.indeg ∷ e.outdeg ∷ e.master ∷ items one e.holders

abbrev pub edge_numbers : NumberedEdge → List ℕ
edge_numbers a = a.number ∷ a.edge.src ∷ a.edge.dst ∷ a.edge.weight ∷ []

abbrev pub body_numbers : Body ℕ ℕ → List ℕ
body_numbers (body.Gather xs) = 0 ∷ items (λ x. x.vertex ∷ x.acc ∷ []) xs
body_numbers (body.Update xs) = 1 ∷ items (λ x. x.vertex ∷ x.value ∷ bit x.wake ∷ []) xs
body_numbers (body.Signal xs) = 2 ∷ items one xs
body_numbers (body.Call xs) = 3 ∷ items one xs
body_numbers (body.Ask xs) = 4 ∷ items one xs
body_numbers (body.Grant xs) = 5 ∷ items copy_numbers xs

abbrev pub rows_numbers : List (VertexCopy ℕ) → List ℕ
rows_numbers rows = items copy_numbers rows

abbrev pub arcs_numbers : List NumberedEdge → List ℕ
arcs_numbers arcs = items edge_numbers arcs

abbrev pub records_numbers : List LogRecord → List ℕ
records_numbers rs = items one (records_bytes rs)
