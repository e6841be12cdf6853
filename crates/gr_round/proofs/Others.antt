-- A body of another stage has none of the items of one.
use Rattle.std.proofs.Common.{◌≡◌, ℕ, List, [], refl}
use Rattle.gr_batch.specs.declared.body.Part.{Part}
use Rattle.gr_batch.specs.declared.body.NewValue.{NewValue}
use Rattle.gr_batch.specs.declared.body.Body.{Body}
use Rattle.gr_batch.specs.declared.body.Body.TheVariants as body
use Rattle.gr_batch.specs.Bodies.{parts_of, values_of, signals_of, calls_of}

module _ {V A : Type 0} where
  pub parts-other : (b : Body V A) → ((xs : List (Part A)) → b ≡ body.Gather xs → ⊥) → parts_of b ≡ []
  parts-other (body.Gather xs) n = absurd (n xs refl)
  parts-other (body.Update xs) n = refl
  parts-other (body.Signal xs) n = refl
  parts-other (body.Call xs) n = refl
  parts-other (body.Ask xs) n = refl
  parts-other (body.Grant xs) n = refl

  pub values-other : (b : Body V A) → ((xs : List (NewValue V)) → b ≡ body.Update xs → ⊥) → values_of b ≡ []
  values-other (body.Gather xs) n = refl
  values-other (body.Update xs) n = absurd (n xs refl)
  values-other (body.Signal xs) n = refl
  values-other (body.Call xs) n = refl
  values-other (body.Ask xs) n = refl
  values-other (body.Grant xs) n = refl

  pub signals-other : (b : Body V A) → ((xs : List ℕ) → b ≡ body.Signal xs → ⊥) → signals_of b ≡ []
  signals-other (body.Gather xs) n = refl
  signals-other (body.Update xs) n = refl
  signals-other (body.Signal xs) n = absurd (n xs refl)
  signals-other (body.Call xs) n = refl
  signals-other (body.Ask xs) n = refl
  signals-other (body.Grant xs) n = refl

  pub calls-other : (b : Body V A) → ((xs : List ℕ) → b ≡ body.Call xs → ⊥) → calls_of b ≡ []
  calls-other (body.Gather xs) n = refl
  calls-other (body.Update xs) n = refl
  calls-other (body.Signal xs) n = refl
  calls-other (body.Call xs) n = absurd (n xs refl)
  calls-other (body.Ask xs) n = refl
  calls-other (body.Grant xs) n = refl
