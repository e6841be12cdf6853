-- A distance is a number.
use Rattle.std.specs.Prelude.{ℕ}
use Rattle.gr_min.specs.declared.distance.Distance.{Distance}

abbrev pub distance : ℕ → Distance
distance n = record { 0 = n }
