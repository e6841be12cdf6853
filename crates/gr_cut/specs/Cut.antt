-- The cut: at which place an edge stands.
use Rattle.std.specs.Prelude.{ℕ, ◌%◌, Bool, ◌==◌, nat_lt, List, map, if◌then◌else◌}
use Rattle.std.specs.List.{filter, enumerate_from}
use Rattle.gr_base.specs.declared.records.Edge.{Edge}
use Rattle.gr_base.specs.declared.records.NumberedEdge.{NumberedEdge}
use Rattle.gr_base.specs.Degrees.{indegree}
use Rattle.gr_base.specs.Places.{below}

-- the master of a vertex at load
abbrev pub home : ℕ → ℕ → ℕ
home places v = v % places

-- a vertex is high where more than theta edges end at it, and low otherwise
abbrev pub is_high : ℕ → ℕ → Bool
is_high theta indeg = nat_lt theta indeg

-- an edge stands at the master of its target, or of its source where the target is high
abbrev pub edge_place : ℕ → ℕ → Bool → ℕ
edge_place master_src master_dst dst_high = if dst_high then master_src else master_dst

-- the place of an edge at load, where the homes are the masters
abbrev pub place_at_load : ℕ → ℕ → List Edge → Edge → ℕ
place_at_load places theta es e = edge_place (home places e.src) (home places e.dst) (is_high theta (indegree es e.dst))

-- the edges of a graph with their numbers, from 0 on
abbrev pub numbered : List Edge → List NumberedEdge
numbered es = map (λ x. record { number = x.0; edge = x.1 }) (enumerate_from 0 es)

-- the edges that stand at a place at load, by number
abbrev pub edges_at_load : ℕ → ℕ → List Edge → ℕ → List NumberedEdge
edges_at_load places theta es p = filter (λ a. place_at_load places theta es a.edge == p) (numbered es)

-- the whole cut: for each place the numbers of its edges
abbrev pub cut_of : ℕ → ℕ → List Edge → List (List ℕ)
cut_of places theta es = map (λ p. map (λ a. a.number) (edges_at_load places theta es p)) (below places)
