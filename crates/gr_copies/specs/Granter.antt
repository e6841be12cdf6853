-- Who acts for a lost master, and who is the master after a rebuild.
use Rattle.std.specs.Prelude.{ℕ, Bool, not, ◌&&◌, List, ◌∷◌, Option, unwrap_or, if◌then◌else◌}
use Rattle.std.specs.List.{find}
use Rattle.gr_base.specs.Rising.{has}
use Rattle.gr_base.specs.Places.{ring}
use Rattle.gr_copies.specs.declared.view.RebuildView.{RebuildView}

-- the acting master, who grants new copies: the master where it is not dead, else the next holder in ring order that is not dead
abbrev pub granter : List ℕ → ℕ → List ℕ → Option ℕ
granter dead master holders = find (λ q. not (has dead q)) (master ∷ ring master holders)

-- a dead place retires where no spare takes its part
abbrev pub is_retiring : RebuildView → ℕ → Bool
is_retiring w p = has w.dead p && not (has w.reborn p)

-- the master after a rebuild: the granter in the place of one that retires
abbrev pub new_master : RebuildView → ℕ → List ℕ → ℕ
new_master w master holders = if is_retiring w master then unwrap_or (granter w.dead master holders) master else master
