-- What a place signals and calls, by the vertices that it keeps in lists.
use Rattle.std.specs.Prelude.{ℕ, Bool, ◌&&◌, ◌==◌, List, map}
use Rattle.std.specs.List.{list_any, filter}
use Rattle.gr_base.specs.Rising.{has}
use Rattle.gr_base.specs.declared.records.NumberedEdge.{NumberedEdge}
use Rattle.gr_program.specs.declared.copy.VertexCopy.{VertexCopy}
use Rattle.gr_batch.specs.declared.body.NewValue.{NewValue}
use Rattle.gr_rules.specs.Round.{is_signalled}
use Rattle.gr_signal.specs.declared.target.Target.{Target}

-- whether an edge leads to v from a listed vertex
abbrev pub is_target : List ℕ → List NumberedEdge → ℕ → Bool
is_target woken arcs v = list_any (λ a. (a.edge.dst == v) && has woken a.edge.src) arcs

-- a copy as a target: its vertex, its master and its holders
abbrev pub target_of : {V : Type 0} → VertexCopy V → Target
target_of c = record { vertex = c.vertex; master = c.master; holders = c.holders }

-- the targets of the edges of a place from the vertices that woke, by the new values that it knows
unfoldable pub signalled : {V : Type 0} → List (NewValue V) → List (VertexCopy V) → List NumberedEdge → List Target
signalled news rows arcs = map target_of (filter (λ c. is_signalled news arcs c.vertex) rows)

-- those that q masters
abbrev pub signals_to : List Target → ℕ → List ℕ
signals_to targets q = map (λ t. t.vertex) (filter (λ t. t.master == q) targets)

-- those that p masters and q holds
abbrev pub calls_to : List Target → ℕ → ℕ → List ℕ
calls_to targets p q = map (λ t. t.vertex) (filter (λ t. (t.master == p) && has t.holders q) targets)
