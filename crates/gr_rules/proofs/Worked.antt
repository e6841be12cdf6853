-- Bodies of a round and of a rebuild, by computation.
use Rattle.std.proofs.Common.{◌≡◌, ℕ, Bool, List, [], ◌∷◌, refl, true, false}
use Rattle.std.specs.Prelude.{Option, Some, None}
use Rattle.gr_program.specs.declared.copy.VertexCopy.{VertexCopy}
use Rattle.gr_copies.specs.declared.view.RebuildView.{RebuildView}
use Rattle.gr_cut.specs.Cut.{edges_at_load}
use Rattle.gr_cut.proofs.Graphs.{star, edge}
use Rattle.gr_log.specs.declared.record.LogRecord.{LogRecord}
use Rattle.gr_log.specs.declared.record.LogRecord.TheVariants as item
use Rattle.gr_log.specs.Log.{Log, log_of}
use Rattle.gr_log.specs.Directory.{directory_in}
use Rattle.gr_batch.specs.declared.body.Body.TheVariants as body
use Rattle.gr_rules.specs.Round.{own_sum, gather_body, whole_sum}
use Rattle.gr_rules.specs.Taken.{taken, taken_edges, ask_body, edges_with_ends}
use Rattle.gr_rules.specs.Grants.{grant_body, new_holders, wanted}
use Rattle.gr_rules.specs.Lost.{lost_of}
use Rattle.gr_rules.proofs.Programs.{in_degree, infinite}

abbrev copy : ℕ → ℕ → ℕ → ℕ → List ℕ → Option ℕ → Bool → VertexCopy ℕ
copy v i o m hs x due = record { vertex = v; indeg = i; outdeg = o; master = m; holders = hs; value = x; due = due }

-- Six edges into vertex 0, on three places: place 1 has those from the vertices 1 and 4.
abbrev star_rows : List (VertexCopy ℕ)
star_rows =
    copy 0 6 0 0 (0 ∷ 1 ∷ 2 ∷ []) None true ∷ copy 1 0 1 1 (1 ∷ 2 ∷ []) (Some 0) true ∷ copy 3 0 1 0 (0 ∷ 1 ∷ []) (Some 0) true ∷ copy 4 0 1 1 (1 ∷ 2 ∷ []) (Some 0) true ∷ []

-- where vertex 0 is high its master gets a part from there
part_of_a_high_vertex : gather_body in_degree 3 0 star_rows (edges_at_load 3 3 star 1) ≡ record { vertex = 0; acc = 2 } ∷ []
unfolding gather_body own_sum
part_of_a_high_vertex = refl

-- and nobody else, nor anybody where it is low
no_part_for_another : gather_body in_degree 3 2 star_rows (edges_at_load 3 3 star 1) ≡ []
unfolding gather_body own_sum
no_part_for_another = refl

no_part_of_a_low_vertex : gather_body in_degree 6 0 star_rows (edges_at_load 3 3 star 1) ≡ []
unfolding gather_body own_sum
no_part_of_a_low_vertex = refl

-- each part is joined once
all_parts : whole_sum in_degree star_rows (edges_at_load 3 3 star 1) (body.Gather (record { vertex = 0; acc = 2 } ∷ []) ∷ body.Gather (record { vertex = 0; acc = 2 } ∷ []) ∷ []) 0 ≡ 6
unfolding whole_sum own_sum
all_parts = refl

-- A rebirth of place 1 of two, after three rounds of ranks: what place 0 has.
abbrev both : List ℕ
both = 0 ∷ 1 ∷ []

abbrev path_rows : List (VertexCopy ℕ)
path_rows =
    copy 0 0 1 0 both (Some 150000) false ∷ copy 1 1 0 1 both None false ∷ copy 2 0 1 0 both (Some 150000) false ∷ copy 3 1 1 1 both (Some 277500) false ∷ copy 4 1 1 0 both (Some 385875) false ∷ copy 5 1 1 1 both (Some 1000000) true ∷ copy 6 1 0 0 both (Some 1000000) false ∷ []

abbrev one_reborn : RebuildView
one_reborn = record { live = 0 ∷ []; dead = 1 ∷ []; reborn = 1 ∷ []; places = 2; theta = 100; losses = 1; forgetful = true }

-- No value of the vertices 1 and 6, which have no readers, is granted. The master of vertex 1 died, so it is due; that of vertex 6 keeps its value.
grant_of_seven : grant_body one_reborn 0 0 (λ _. []) path_rows 1 ≡ copy 0 0 1 0 both (Some 150000) false ∷ copy 1 1 0 1 both None true ∷ copy 2 0 1 0 both (Some 150000) false ∷ copy 3 1 1 1 both (Some 277500) false ∷ copy 4 1 1 0 both (Some 385875) false ∷ copy 5 1 1 1 both (Some 1000000) true ∷ copy 6 1 0 0 both None false ∷ []
unfolding grant_body new_holders
grant_of_seven = refl

-- A migration of place 2 of three: the logs of the triangle.
abbrev low : ℕ → ℕ → ℕ → ℕ → List ℕ → LogRecord
low v i o m hs = item.Held v i o m hs

abbrev kept : ℕ → ℕ → ℕ → LogRecord
kept n s d = item.Kept (record { number = n; edge = edge s d })

abbrev triangle_logs : List Log
triangle_logs =
    log_of (low 0 0 2 0 (0 ∷ 1 ∷ 2 ∷ []) ∷ low 2 2 0 2 (0 ∷ 2 ∷ []) ∷ [])
    ∷ log_of (low 0 0 2 0 (0 ∷ 1 ∷ 2 ∷ []) ∷ low 1 1 1 1 (1 ∷ 2 ∷ []) ∷ kept 0 0 1 ∷ [])
    ∷ log_of (low 0 0 2 0 (0 ∷ 1 ∷ 2 ∷ []) ∷ low 1 1 1 1 (1 ∷ 2 ∷ []) ∷ low 2 2 0 2 (0 ∷ 2 ∷ []) ∷ kept 1 1 2 ∷ kept 2 0 2 ∷ [])
    ∷ []

abbrev one_retires : RebuildView
one_retires = record { live = 0 ∷ 1 ∷ []; dead = 2 ∷ []; reborn = []; places = 3; theta = 100; losses = 1; forgetful = false }

abbrev rows_of_zero : List (VertexCopy ℕ)
rows_of_zero = copy 0 0 2 0 (0 ∷ 1 ∷ 2 ∷ []) (Some 0) true ∷ copy 2 2 0 2 (0 ∷ 2 ∷ []) (Some infinite) true ∷ []

-- place 0 is the next holder of vertex 2, so it takes the edges into it
taken_by_zero : taken_edges one_retires triangle_logs 0 ≡ record { number = 1; edge = edge 1 2 } ∷ record { number = 2; edge = edge 0 2 } ∷ []
unfolding taken_edges taken edges_with_ends directory_in
taken_by_zero = refl

none_taken_by_one : taken_edges one_retires triangle_logs 1 ≡ []
unfolding taken_edges taken edges_with_ends directory_in
none_taken_by_one = refl

-- and asks for vertex 1, the source of one of them
asked_by_zero : ask_body one_retires triangle_logs 0 rows_of_zero 1 ≡ 1 ∷ []
unfolding ask_body taken edges_with_ends directory_in
asked_by_zero = refl

-- its own copies, with itself as the master of vertex 2
granted_to_itself : grant_body one_retires 0 0 (λ _. []) rows_of_zero 0 ≡ copy 0 0 2 0 (0 ∷ 1 ∷ []) (Some 0) true ∷ copy 2 2 0 0 (0 ∷ []) (Some infinite) true ∷ []
unfolding grant_body new_holders
granted_to_itself = refl

-- a repair then gives vertex 2 a further holder, and leaves the others
abbrev repaired : RebuildView
repaired = record { live = 0 ∷ 1 ∷ []; dead = []; reborn = []; places = 3; theta = 100; losses = 1; forgetful = false }

one_short : grant_body repaired (wanted true repaired) 0 (λ _. []) (copy 0 0 2 0 (0 ∷ 1 ∷ []) (Some 0) false ∷ copy 2 2 0 0 (0 ∷ []) (Some 1) false ∷ []) 1 ≡ copy 2 2 0 0 (0 ∷ 1 ∷ []) (Some 1) false ∷ []
unfolding grant_body new_holders
one_short = refl

-- the vertices all of whose holders are dead
lost_with_two : lost_of (0 ∷ 2 ∷ []) triangle_logs ≡ 2 ∷ []
unfolding lost_of directory_in
lost_with_two = refl

none_lost_with_one : lost_of (2 ∷ []) triangle_logs ≡ []
unfolding lost_of directory_in
none_lost_with_one = refl
