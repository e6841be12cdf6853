-- Small graphs, cut by computation.
use Rattle.std.proofs.Common.{◌≡◌, [], ◌∷◌, refl}
use Rattle.gr_cut.specs.Cut.{cut_of}
use Rattle.gr_cut.proofs.Graphs.{triangle, star}

triangle_on_two : cut_of 2 100 triangle ≡ (1 ∷ 2 ∷ []) ∷ (0 ∷ []) ∷ []
triangle_on_two = refl

triangle_on_three : cut_of 3 100 triangle ≡ [] ∷ (0 ∷ []) ∷ (1 ∷ 2 ∷ []) ∷ []
triangle_on_three = refl

triangle_on_four : cut_of 4 100 triangle ≡ [] ∷ (0 ∷ []) ∷ (1 ∷ 2 ∷ []) ∷ [] ∷ []
triangle_on_four = refl

-- the edges into a high vertex are spread by their sources
high_on_three : cut_of 3 3 star ≡ (2 ∷ 5 ∷ []) ∷ (0 ∷ 3 ∷ []) ∷ (1 ∷ 4 ∷ []) ∷ []
high_on_three = refl

-- those into a low one stand with it, also where its in-degree is the threshold
low_on_three : cut_of 3 6 star ≡ (0 ∷ 1 ∷ 2 ∷ 3 ∷ 4 ∷ 5 ∷ []) ∷ [] ∷ [] ∷ []
low_on_three = refl
