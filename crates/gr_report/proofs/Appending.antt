-- A text appended in two pieces.
use Rattle.std.proofs.Common.{◌≡◌, ◌∙◌, ℕ, List, ◌++◌, ap, append_assoc}
use Rattle.std.specs.Prelude.{Result, Ok, Err, OnOk}

-- the second piece has four parts
pub on_ok-append : {T E : Type 0} (r : Result T E) (old now new first a b c d : List ℕ) → now ≡ old ++ first → OnOk r (new ≡ now ++ (a ++ b ++ c ++ d)) → OnOk r (new ≡ old ++ (first ++ a ++ b ++ c ++ d))
on_ok-append (Ok v) old now new first a b c d is grown = grown ∙ ap (λ (l : List ℕ). l ++ (a ++ b ++ c ++ d)) is ∙ simp append_assoc
on_ok-append (Err e) old now new first a b c d is grown = tt
