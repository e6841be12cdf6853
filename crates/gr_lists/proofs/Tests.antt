-- Cases by a test.
use Rattle.std.proofs.Common.{◌≡◌, ◌≢◌, ℕ, Bool, true, false, refl, ⊎_elim, Option, Some, None}
use Rattle.std.proofs.lemmas.Bool.{cases_eq}

-- a case for each value of a test
pub by_test : {X : Type 0} (b : Bool) → (b ≡ true → X) → (b ≡ false → X) → X
by_test true t f = t refl
by_test false t f = f refl

-- a case for two numbers that are the same, and one for two that are not
pub by_same : {X : Type 0} (q p : ℕ) → (q ≡ p → X) → (q ≢ p → X) → X
by_same q p f g = ⊎_elim f g (cases_eq q p)

-- a case for an absent value, and one for a present value
pub by_option : {X Y : Type 0} (o : Option X) → (o ≡ None → Y) → ((x : X) → o ≡ Some x → Y) → Y
by_option None n s = n refl
by_option (Some x) n s = s x refl
