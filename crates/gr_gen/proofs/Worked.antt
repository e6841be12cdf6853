-- Small generated cases, computed.
use Rattle.std.proofs.Common.{◌≡◌, ℕ, List, [], ◌∷◌, map, refl}
use Rattle.gr_base.specs.declared.records.Edge.{Edge}
use Rattle.gr_edges.specs.declared.graph.VertexInfo.{VertexInfo}
use Rattle.gr_edges.specs.Vertices.{vertex_of}
use Rattle.gr_gen.specs.Draws.{next_state, drawn_from}
use Rattle.gr_gen.specs.Generated.{edge_of, edges_of, vertices_below}

abbrev edge : ℕ → ℕ → ℕ → Edge
edge src dst weight = record { src = src; dst = dst; weight = weight }

abbrev vertex : ℕ → ℕ → ℕ → VertexInfo
vertex id indeg outdeg = record { id = id; indeg = indeg; outdeg = outdeg }

abbrev vertices_of : ℕ → ℕ → List VertexInfo
vertices_of seed size = map (vertex_of (edges_of seed size)) (vertices_below size)

one_edge : edges_of 0 1 ≡ edge 0 0 1 ∷ []
unfolding next_state drawn_from
one_edge = refl

one_vertex : vertices_of 0 1 ≡ vertex 0 1 1 ∷ []
unfolding next_state drawn_from
one_vertex = refl

nine_edges : edges_of 7 9 ≡ edge 2 2 1 ∷ edge 0 2 2 ∷ edge 1 2 3 ∷ edge 1 0 4 ∷ edge 1 1 5 ∷ edge 1 0 6 ∷ edge 2 2 7 ∷ edge 0 1 1 ∷ edge 0 0 2 ∷ []
unfolding next_state drawn_from
nine_edges = refl

-- a vertex that is no end
no_end : vertices_of 263 4 ≡ vertex 0 4 4 ∷ vertex 1 0 0 ∷ []
unfolding next_state drawn_from
no_end = refl

-- the second draw of edge 11 is 462178098: 8 modulo the ten vertices, but 2 modulo eight
among_eight : edge_of 7 10 11 ≡ edge 4 2 5
unfolding next_state drawn_from
among_eight = refl

-- that of edge 2 is 9 modulo ten
among_all : edge_of 7 10 2 ≡ edge 5 9 3
unfolding next_state drawn_from
among_all = refl
