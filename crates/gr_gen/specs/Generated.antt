-- The graph and the schedule that a seed generates.
use Rattle.std.specs.Prelude.{ℕ, ◌+◌, ◌*◌, ◌/◌, ◌%◌, ◌==◌, min, if◌then◌else◌, List, [], ◌∷◌, map}
use Rattle.std.specs.List.{range_with_len}
use Rattle.gr_base.specs.declared.records.Edge.{Edge}
use Rattle.gr_sched.specs.declared.event.Event.TheVariants as event
use Rattle.gr_sched.specs.declared.event.Line.{Line}
use Rattle.gr_sched.specs.declared.event.Line.TheVariants as line
use Rattle.gr_gen.specs.Draws.{draw}

-- how many vertices a graph of so many edges has
abbrev pub vertex_count : ℕ → ℕ
vertex_count size = size / 4 + 1

-- the vertices, each of them whether it is an end or not
abbrev pub vertices_below : ℕ → List ℕ
vertices_below size = range_with_len 0 (vertex_count size)

-- among how many of the first vertices edge i has its target: every fourth edge ends among the first eight
abbrev pub target_count : ℕ → ℕ → ℕ
target_count vertices i = if i % 4 == 3 then min vertices 8 else vertices

-- edge i of so many vertices, by its two draws
abbrev pub edge_by : ℕ → ℕ → ℕ → ℕ → Edge
edge_by vertices i a b = record { src = a % vertices; dst = b % target_count vertices i; weight = 1 + i % 7 }

-- edge i of a seed
abbrev pub edge_of : ℕ → ℕ → ℕ → Edge
edge_of seed vertices i = edge_by vertices i (draw seed (2 * i)) (draw seed (2 * i + 1))

-- the edges in their order
abbrev pub edges_of : ℕ → ℕ → List Edge
edges_of seed size = map (edge_of seed (vertex_count size)) (range_with_len 0 size)

-- a crash at one of four places between two commits, a repair, and all to the end
abbrev pub schedule_of : ℕ → List Line
schedule_of seed = line.Settle ∷ line.Step (event.Crash (seed % 4) 0) ∷ line.Settle ∷ line.Step event.Repair ∷ line.Finish ∷ []
