-- The front of a list that grew, and then failed to.
use Rattle.std.proofs.Common.{◌≡◌, ◌∙◌, List, ◌++◌, length, take, sym, ap, arith, length-append}
use Rattle.std.specs.Prelude.{Result, Ok, Err, OnErr}
use Rattle.std.proofs.lemmas.List.{take-take}
use Rattle.std.proofs.Math.Seq.{take-append_seam}

-- what the list was before it grew is still its front
pub front-kept : {X T E : Type 0} (r : Result T E) (old more grown new : List X) → grown ≡ old ++ more → take (length grown) new ≡ grown → OnErr r (take (length old) new ≡ old)
front-kept (Ok v) old more grown new is front = tt
front-kept (Err e) old more grown new is front =
    sym (take-take (length old) (length grown) new (omega (arith, ap length is, length-append old more)))
    ∙ ap (take (length old)) (front ∙ is)
    ∙ take-append_seam old more
