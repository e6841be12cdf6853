-- A body of another stage has none of the items of one.
use Rattle.std.proofs.Common.{◌≡◌, ℕ, List, [], refl}
use Rattle.gr_program.specs.declared.copy.VertexCopy.{VertexCopy}
use Rattle.gr_batch.specs.declared.body.Body.{Body}
use Rattle.gr_batch.specs.declared.body.Body.TheVariants as body
use Rattle.gr_batch.specs.Bodies.{asks_of, grants_of}

module _ {V A : Type 0} where
  pub asks-other : (b : Body V A) → ((xs : List ℕ) → b ≡ body.Ask xs → ⊥) → asks_of b ≡ []
  asks-other (body.Gather xs) n = refl
  asks-other (body.Update xs) n = refl
  asks-other (body.Signal xs) n = refl
  asks-other (body.Call xs) n = refl
  asks-other (body.Ask xs) n = absurd (n xs refl)
  asks-other (body.Grant xs) n = refl

  pub grants-other : (b : Body V A) → ((xs : List (VertexCopy V)) → b ≡ body.Grant xs → ⊥) → grants_of b ≡ []
  grants-other (body.Gather xs) n = refl
  grants-other (body.Update xs) n = refl
  grants-other (body.Signal xs) n = refl
  grants-other (body.Call xs) n = refl
  grants-other (body.Ask xs) n = refl
  grants-other (body.Grant xs) n = absurd (n xs refl)
