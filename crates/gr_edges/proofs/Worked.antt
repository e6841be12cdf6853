-- Small cases of the readings, computed.
use Rattle.std.proofs.Common.{◌≡◌, true, false, List, [], ◌∷◌, Some, None, refl}
use Rattle.gr_edges.specs.declared.line.LineFound.{LineFound}
use Rattle.gr_edges.specs.declared.line.LineFound.TheVariants.{Skipped, Vertex, Edge, TooLarge, Bad}
use Rattle.gr_edges.specs.declared.fault.GraphFault.TheVariants.{NumberTooLarge, TooManyEdges, TooManyVertices}
use Rattle.gr_edges.specs.Reading.{lines_of, vertices_of, first_fault_within}

-- `1`, tab, `02`, CR, LF, `#`, LF, `7`
whole_lines : lines_of (49 ∷ 9 ∷ 48 ∷ 50 ∷ 13 ∷ 10 ∷ 35 ∷ 10 ∷ 55 ∷ []) ≡ Edge 1 2 1 ∷ Skipped ∷ Vertex 7 ∷ []
whole_lines = refl

-- `1 2`, CR, blank: the carriage return is not at the end
return_before_a_blank : lines_of (49 ∷ 32 ∷ 50 ∷ 13 ∷ 32 ∷ []) ≡ Bad ∷ []
return_before_a_blank = refl

abbrev path : List LineFound
path = Edge 3 1 1 ∷ Vertex 1 ∷ Edge 1 2 1 ∷ []

second_edge_too_many : first_fault_within 1 9 false path ≡ Some (TooManyEdges 3)
second_edge_too_many = refl

third_id_too_many : first_fault_within 2 2 false path ≡ Some (TooManyVertices 3)
third_id_too_many = refl

just_within : first_fault_within 2 3 false path ≡ None
just_within = refl

-- the reverse counts; edges go before ids; a fault of the line itself goes before both; an earlier line before all
reverse_counts : first_fault_within 1 9 true path ≡ Some (TooManyEdges 1)
reverse_counts = refl

edges_before_ids : first_fault_within 0 0 false path ≡ Some (TooManyEdges 1)
edges_before_ids = refl

earlier_line_first : first_fault_within 0 9 false (Vertex 1 ∷ TooLarge ∷ Edge 1 2 1 ∷ Bad ∷ []) ≡ Some (NumberTooLarge 2)
earlier_line_first = refl

-- ids rise, each once, with the degrees of both directions
two_ways : vertices_of true (Edge 7 5 2 ∷ Edge 5 5 1 ∷ []) ≡ record { id = 5; indeg = 2; outdeg = 2 } ∷ record { id = 7; indeg = 1; outdeg = 1 } ∷ []
two_ways = refl
