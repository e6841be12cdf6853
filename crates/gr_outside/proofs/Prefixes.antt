-- First parts of lists.
use Rattle.std.proofs.Common.{◌≡◌, ◌≤◌, ℕ, List, [], length, take, refl, sym, ap, subst}
use Rattle.std.proofs.lemmas.List.{length-take-le}
use Rattle.std.specs.Io.{StartsWith}

pub StartsWith-nothing : (whole part : List ℕ) → part ≡ [] → StartsWith whole part
StartsWith-nothing whole part is = subst (λ (p : List ℕ). StartsWith whole p) (sym is) refl

pub StartsWith-take : (whole part : List ℕ) (n : ℕ) → n ≤ length whole → part ≡ take n whole → StartsWith whole part
StartsWith-take whole part n le is = subst (λ (p : List ℕ). StartsWith whole p) (sym is) (ap (λ (k : ℕ). take k whole) (length-take-le n whole le))
