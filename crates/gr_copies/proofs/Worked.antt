-- Holders and granters of small clusters, by computation.
use Rattle.std.proofs.Common.{◌≡◌, ℕ, List, [], ◌∷◌, refl, false}
use Rattle.std.specs.Prelude.{Some, None, map}
use Rattle.gr_copies.specs.declared.view.RebuildView.{RebuildView}
use Rattle.gr_copies.specs.Holders.{first_holders, extras}
use Rattle.gr_copies.specs.Granter.{granter, new_master}
use Rattle.gr_cut.proofs.Graphs.{triangle}

abbrev vertices : List ℕ
vertices = 0 ∷ 1 ∷ 2 ∷ []

-- one loss is borne by two copies
two_places : map (first_holders 2 100 1 triangle) vertices ≡ (0 ∷ 1 ∷ []) ∷ (0 ∷ 1 ∷ []) ∷ (0 ∷ 1 ∷ []) ∷ []
unfolding first_holders
two_places = refl

three_places : map (first_holders 3 100 1 triangle) vertices ≡ (0 ∷ 1 ∷ 2 ∷ []) ∷ (1 ∷ 2 ∷ []) ∷ (0 ∷ 2 ∷ []) ∷ []
unfolding first_holders
three_places = refl

-- two losses by three
four_places : map (first_holders 4 100 2 triangle) vertices ≡ (0 ∷ 1 ∷ 2 ∷ []) ∷ (1 ∷ 2 ∷ 3 ∷ []) ∷ (0 ∷ 2 ∷ 3 ∷ []) ∷ []
unfolding first_holders
four_places = refl

-- a vertex without an edge is copied too
alone : first_holders 2 100 1 [] 5 ≡ 0 ∷ 1 ∷ []
unfolding first_holders
alone = refl

-- the next holder after a dead master acts for it, and not the least one
granter_after_one : granter (1 ∷ []) 1 (0 ∷ 1 ∷ 2 ∷ []) ≡ Some 2
granter_after_one = refl

granter_goes_round : granter (2 ∷ []) 2 (0 ∷ 1 ∷ 2 ∷ []) ≡ Some 0
granter_goes_round = refl

no_granter : granter (0 ∷ 2 ∷ []) 2 (0 ∷ 2 ∷ []) ≡ None
no_granter = refl

abbrev view : List ℕ → RebuildView
view reborn = record { live = 0 ∷ 2 ∷ []; dead = 1 ∷ []; reborn = reborn; places = 3; theta = 100; losses = 1; forgetful = false }

-- a master that starts anew stays the master
reborn_stays : new_master (view (1 ∷ [])) 1 (0 ∷ 1 ∷ 2 ∷ []) ≡ 1
reborn_stays = refl

retiring_gives_way : new_master (view []) 1 (0 ∷ 1 ∷ 2 ∷ []) ≡ 2
retiring_gives_way = refl

-- a repair goes on round the ring
one_more : extras (0 ∷ 1 ∷ 3 ∷ []) 2 3 (3 ∷ []) ≡ 0 ∷ []
one_more = refl

as_many_as_live : extras (0 ∷ 1 ∷ []) 3 0 (0 ∷ []) ≡ 1 ∷ []
as_many_as_live = refl
