-- Truth values under conjunctions and disjunctions, and choices between values.
use Rattle.std.proofs.Common.{◌≡◌, Bool, true, false, ◌&&◌, ◌||◌, refl, ap, Option, Some, None, if◌then◌else◌}

pub or_absorbs : (w b : Bool) → (w || (b && w)) ≡ w
or_absorbs true b = refl
or_absorbs false true = refl
or_absorbs false false = refl

-- one of two tests passes, and beside each stands the same third
pub either_way : (a b w : Bool) → (a || b) ≡ true → ((a && w) || (b && w)) ≡ w
either_way true b w h = or_absorbs w b
either_way false b w h = ap (λ x. x && w) h

pub and-swap : (m a h : Bool) → (m && ((m && a) && h)) ≡ (m && (a && h))
and-swap true a h = refl
and-swap false a h = refl

pub or-exchange : (a c b d : Bool) → ((a || c) || (b || d)) ≡ ((a || b) || (c || d))
or-exchange true c b d = refl
or-exchange false true true d = refl
or-exchange false true false d = refl
or-exchange false false true d = refl
or-exchange false false false d = refl

pub if-same : {X : Type 0} (b : Bool) (x : X) → (if b then x else x) ≡ x
if-same true x = refl
if-same false x = refl

-- the first of two values that is there
abbrev pub or_else : {X : Type 0} → Option X → Option X → Option X
or_else None o = o
or_else (Some x) o = Some x
