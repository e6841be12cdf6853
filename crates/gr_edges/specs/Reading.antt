-- The graph that a text says, or the fault of its first faulty line.
use Rattle.std.specs.Prelude.{ℕ, ◌+◌, ◌≤◌, Bool, ◌==◌, ◌||◌, not, nat_lt, if◌then◌else◌, List, [], ◌∷◌, length, map, take, slice_index_or, Option, Some, None}
use Rattle.std.specs.List.{slice_split, flat_map, fold}
use Rattle.std.specs.Option.{option_or}
use Rattle.std.specs.Ordering.{nat_cmp}
use Rattle.std.specs.BTreeSet.{insert_key}
use Rattle.gr_base.specs.declared.records.Edge as base
use Rattle.gr_text.specs.Faults.{first_fault_by}
use Rattle.gr_text.specs.Lines.{is_line_end}
use Rattle.gr_edges.specs.declared.graph.VertexInfo.{VertexInfo}
use Rattle.gr_edges.specs.declared.line.LineFound.{LineFound}
use Rattle.gr_edges.specs.declared.line.LineFound.TheVariants.{Skipped, Vertex, Edge, TooLarge, Bad}
use Rattle.gr_edges.specs.declared.fault.GraphFault.{GraphFault}
use Rattle.gr_edges.specs.declared.fault.GraphFault.TheVariants.{NumberTooLarge, BadLine, TooManyEdges, TooManyVertices}
use Rattle.gr_edges.specs.Fields.{line_of}
use Rattle.gr_edges.specs.Vertices.{vertex_of}

-- how many edges and vertices a graph may have
abbrev pub max_edges : ℕ
max_edges = 4194304

abbrev pub max_vertices : ℕ
max_vertices = 1048576

-- a graph's edges and ids are no more than that
pub record IsWithinLimits (edges : List base.Edge) (ids : List ℕ) : Type 0 where
  pub few_edges : length edges ≤ max_edges
  pub few_vertices : length ids ≤ max_vertices

-- what the lines of a text say: the pieces between line ends
abbrev pub lines_of : List ℕ → List LineFound
lines_of bytes = map line_of (slice_split is_line_end bytes)

-- an edge, and its reverse where asked for, but for a self-loop
abbrev pub both_ways : Bool → base.Edge → List base.Edge
both_ways undirected e = if not undirected || (e.src == e.dst) then e ∷ [] else e ∷ (record { src = e.dst; dst = e.src; weight = e.weight }) ∷ []

-- the edges that a line adds
abbrev pub edges_of_line : Bool → LineFound → List base.Edge
edges_of_line undirected (Edge src dst weight) = both_ways undirected (record { src = src; dst = dst; weight = weight })
edges_of_line undirected other = []

-- the ids that a line names
abbrev pub ids_of_line : LineFound → List ℕ
ids_of_line (Vertex v) = v ∷ []
ids_of_line (Edge src dst weight) = src ∷ dst ∷ []
ids_of_line other = []

-- numbers put among rising ones, each at its place and once
abbrev pub joined : List ℕ → List ℕ → List ℕ
joined rising numbers = fold (insert_key nat_cmp) rising numbers

-- the edges of lines, in their order
abbrev pub edges_of : Bool → List LineFound → List base.Edge
edges_of undirected lines = flat_map (edges_of_line undirected) lines

-- the rising list of the ids that lines name
abbrev pub ids_of : List LineFound → List ℕ
ids_of lines = joined [] (flat_map ids_of_line lines)

-- the vertices of lines, rising by id
abbrev pub vertices_of : Bool → List LineFound → List VertexInfo
vertices_of undirected lines = map (vertex_of (edges_of undirected lines)) (ids_of lines)

-- what is wrong with a line by itself
abbrev pub fault_of_line : ℕ → LineFound → Option GraphFault
fault_of_line number TooLarge = Some (NumberTooLarge number)
fault_of_line number Bad = Some (BadLine number)
fault_of_line number other = None

-- that a line brings more edges, or else more ids, than a graph may have
abbrev pub fault_of_size : ℕ → ℕ → ℕ → List base.Edge → List ℕ → Option GraphFault
fault_of_size edge_limit id_limit number edges ids =
    if nat_lt edge_limit (length edges) then Some (TooManyEdges number) else (if nat_lt id_limit (length ids) then Some (TooManyVertices number) else None)

-- the fault that a line shows, with the edges and the ids of the lines up to it and its own
abbrev pub fault_at : ℕ → ℕ → Bool → List LineFound → ℕ → Option GraphFault
fault_at edge_limit id_limit undirected lines i =
    option_or (fault_of_line (i + 1) (slice_index_or lines i Skipped))
    (fault_of_size edge_limit id_limit (i + 1) (edges_of undirected (take (i + 1) lines)) (ids_of (take (i + 1) lines)))

-- the fault of the first line that shows one; lines are numbered from 1
abbrev pub first_fault_within : ℕ → ℕ → Bool → List LineFound → Option GraphFault
first_fault_within edge_limit id_limit undirected lines = first_fault_by (fault_at edge_limit id_limit undirected lines) (length lines)

abbrev pub first_fault : Bool → List LineFound → Option GraphFault
first_fault = first_fault_within max_edges max_vertices
