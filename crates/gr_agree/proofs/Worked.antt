-- The committed state of small clusters, by computation.
use Rattle.std.proofs.Common.{◌≡◌, ℕ, Bool, List, [], ◌∷◌, refl, true, false, map}
use Rattle.std.specs.Prelude.{◌==◌, Some, None, Option}
use Rattle.gr_program.specs.declared.copy.VertexCopy.{VertexCopy}
use Rattle.gr_program.specs.Rounds.{first_state}
use Rattle.gr_cut.proofs.Graphs.{path, star}
use Rattle.gr_copies.specs.declared.view.RebuildView.{RebuildView}
use Rattle.gr_copies.specs.Holders.{first_holders}
use Rattle.gr_rules.specs.Grants.{new_holders}
use Rattle.gr_rules.proofs.Programs.{in_degree, rank}
use Rattle.gr_cluster.specs.Load.{Setting}
use Rattle.gr_agree.specs.FirstTruth.{first_truth}
use Rattle.gr_agree.specs.Truth.{Truth, arcs_at, entries_at, rows_at}
use Rattle.gr_agree.specs.TrueRound.{part_sum, true_parts}
use Rattle.gr_agree.specs.Rebuilt.{is_asker, rebuilt, stable_at, true_grants}

abbrev job : ℕ → ℕ → Setting
job places theta = record { places = places; spares = 1; losses = 1; theta = theta; limit = 1000 }

abbrev seven : List ℕ
seven = 0 ∷ 1 ∷ 2 ∷ 3 ∷ 4 ∷ 5 ∷ 6 ∷ []

-- The path on two places, of which the second died and starts anew. Vertex 5 is active; the vertices 1 and 6 have no readers.
abbrev path_truth : Truth ℕ
path_truth = record (first_truth rank (job 2 100) path seven) { state = record { value = λ v. 100; active = λ v. v == 5 }; due = λ v. v == 5 }

abbrev one_reborn : RebuildView
one_reborn = record { live = 0 ∷ []; dead = 1 ∷ []; reborn = 1 ∷ []; places = 2; theta = 100; losses = 1; forgetful = true }

-- the reborn place has its copies, and no value
no_values_at_a_reborn_place : map (λ c. c.value) (stable_at rank one_reborn 0 path_truth 1) ≡ None ∷ None ∷ None ∷ None ∷ None ∷ None ∷ None ∷ []
unfolding entries_at rows_at first_holders first_state
no_values_at_a_reborn_place = refl

-- after the rebuild vertex 1, whose master died, is due and has no value, and vertex 6 is as before
orphan_is_due : map (rebuilt rank one_reborn 0 path_truth).due seven ≡ false ∷ true ∷ false ∷ false ∷ false ∷ true ∷ false ∷ []
unfolding first_holders first_state
orphan_is_due = refl

orphan_is_not_kept : map (rebuilt rank one_reborn 0 path_truth).kept seven ≡ true ∷ false ∷ true ∷ true ∷ true ∷ true ∷ true ∷ []
unfolding first_holders first_state
orphan_is_not_kept = refl

abbrev copy : ℕ → ℕ → ℕ → ℕ → Option ℕ → Bool → VertexCopy ℕ
copy v i o m x due = record { vertex = v; indeg = i; outdeg = o; master = m; holders = 0 ∷ 1 ∷ []; value = x; due = due }

true_grant : true_grants rank one_reborn 0 path_truth 0 1 ≡ copy 0 0 1 0 (Some 100) false ∷ copy 1 1 0 1 None true ∷ copy 2 0 1 0 (Some 100) false ∷ copy 3 1 1 1 (Some 100) false ∷ copy 4 1 1 0 (Some 100) false ∷ copy 5 1 1 1 (Some 100) true ∷ copy 6 1 0 0 None false ∷ []
unfolding true_grants new_holders is_asker first_holders first_state
true_grant = refl

-- the part of a high vertex that place 1 sends
true_part_of_a_star : true_parts in_degree (first_truth in_degree (job 3 3) star seven) 1 0 ≡ record { vertex = 0; acc = 2 } ∷ []
unfolding true_parts part_sum arcs_at first_holders first_state
true_part_of_a_star = refl
