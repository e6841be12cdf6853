-- The vertices of a graph: rising ids, with the degrees that the edges give them.
use Rattle.std.specs.Prelude.{◌≡◌, ℕ, ◌+◌, ◌==◌, true, if◌then◌else◌, List, map}
use Rattle.gr_base.specs.declared.records.Edge.{Edge}
use Rattle.gr_base.specs.Degrees.{indegree, outdegree}
use Rattle.gr_base.specs.Rising.{has}
use Rattle.gr_edges.specs.declared.graph.VertexInfo.{VertexInfo}

abbrev pub id_of : VertexInfo → ℕ
id_of v = v.id

-- the ids of vertices
abbrev pub ids : List VertexInfo → List ℕ
ids vertices = map id_of vertices

-- the vertex of an id, with its degrees
abbrev pub vertex_of : List Edge → ℕ → VertexInfo
vertex_of edges v = record { id = v; indeg = indegree edges v; outdeg = outdegree edges v }

-- a vertex with one more edge that begins, or ends, at an id
abbrev pub with_source : ℕ → VertexInfo → VertexInfo
with_source id v = record { id = v.id; indeg = v.indeg; outdeg = v.outdeg + (if v.id == id then 1 else 0) }

abbrev pub with_target : ℕ → VertexInfo → VertexInfo
with_target id v = record { id = v.id; indeg = v.indeg + (if v.id == id then 1 else 0); outdeg = v.outdeg }

-- a vertex's degrees are those of its id
pub record HasDegrees (edges : List Edge) (v : VertexInfo) : Type 0 where
  pub indeg : v.indeg ≡ indegree edges v.id
  pub outdeg : v.outdeg ≡ outdegree edges v.id

-- both ends of an edge stand among the ids
pub record HasEnds (ids : List ℕ) (e : Edge) : Type 0 where
  pub src : has ids e.src ≡ true
  pub dst : has ids e.dst ≡ true
