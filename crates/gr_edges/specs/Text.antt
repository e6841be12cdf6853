-- The text of a graph.
use Rattle.std.specs.Prelude.{◌≡◌, ℕ, ◌^◌, ◌<◌, Bool, List, [], ◌∷◌, ◌++◌, length, take, None}
use Rattle.std.specs.List.{flat_map}
use Rattle.std.specs.Fmt.{decimal}
use Rattle.gr_base.specs.declared.records.Edge.{Edge}
use Rattle.gr_edges.specs.declared.graph.VertexInfo.{VertexInfo}
use Rattle.gr_edges.specs.Reading.{lines_of, edges_of, vertices_of, first_fault}

-- a vertex's line: its id
abbrev pub vertex_line : VertexInfo → List ℕ
vertex_line v = decimal v.id ++ 10 ∷ []

-- an edge's line: source, target and weight, with one blank between
abbrev pub edge_line : Edge → List ℕ
edge_line e = decimal e.src ++ 32 ∷ (decimal e.dst ++ 32 ∷ (decimal e.weight ++ 10 ∷ []))

-- one line for each vertex, then one for each edge
abbrev pub text_of : List Edge → List VertexInfo → List ℕ
text_of edges vertices = flat_map vertex_line vertices ++ flat_map edge_line edges

-- the numbers of an edge are of 32 bits
pub record Has32Bits (e : Edge) : Type 0 where
  pub src : e.src < 2 ^ 32
  pub dst : e.dst < 2 ^ 32
  pub weight : e.weight < 2 ^ 32

-- a list is another's front
abbrev pub IsFront : List ℕ → List ℕ → Type 0
IsFront front whole = take (length front) whole ≡ front

-- a text shows no fault, and says these edges and vertices
pub record IsReadAs (undirected : Bool) (bytes : List ℕ) (edges : List Edge) (vertices : List VertexInfo) : Type 0 where
  pub no_fault : first_fault undirected (lines_of bytes) ≡ None
  pub its_edges : edges_of undirected (lines_of bytes) ≡ edges
  pub its_vertices : vertices_of undirected (lines_of bytes) ≡ vertices
