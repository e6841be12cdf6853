-- Offered hops, and the order in which they are better: fewer edges first, then the lesser vertex.
use Rattle.std.specs.Prelude.{◌≡◌, ℕ, ◌==◌, ◌&&◌, ◌||◌, nat_lt, Bool, true, false, if◌then◌else◌, refl}
use Rattle.gr_sum.specs.Infinity.{infinity}
use Rattle.gr_min.specs.declared.hop.Hop.{Hop}
use Rattle.gr_min.specs.declared.hop.HopSum.{HopSum}
use Rattle.gr_min.specs.Together.{both_finite}

-- no offer
abbrev pub nowhere : HopSum
nowhere = record { distance = infinity; parent = infinity; together = refl }

-- an offer of a distance and a parent; none where one of them is not finite
abbrev pub offered : (distance parent : ℕ) (finite : Bool) → (nat_lt distance infinity && nat_lt parent infinity) ≡ finite → HopSum
offered distance parent true is = record { distance = distance; parent = parent; together = both_finite distance parent is }
offered distance parent false is = nowhere

abbrev pub offer : ℕ → ℕ → HopSum
offer distance parent = offered distance parent (nat_lt distance infinity && nat_lt parent infinity) refl

abbrev pub is_better : HopSum → HopSum → Bool
is_better a b = nat_lt a.distance b.distance || ((a.distance == b.distance) && nat_lt a.parent b.parent)

-- the better of two
abbrev pub better : HopSum → HopSum → HopSum
better a b = if is_better b a then b else a

-- how a vertex is reached, as an offer
abbrev pub reached_by : Hop → HopSum
reached_by x = record { distance = x.distance; parent = x.parent; together = x.together }

-- a vertex that is reached so
abbrev pub hop : ℕ → HopSum → Hop
hop at s = record { at = at; distance = s.distance; parent = s.parent; together = s.together }
