-- What an inbox holds of one stage of an epoch.
use Rattle.std.specs.Prelude.{ℕ, not, List, [], ◌∷◌, Option, Some, None, map, flat_map}
use Rattle.std.specs.List.{find, list_any}
use Rattle.gr_batch.specs.declared.batch.Batch.{Batch}
use Rattle.gr_batch.specs.declared.body.Body.{Body}
use Rattle.gr_batch.specs.declared.stage.Stage.{Stage}
use Rattle.gr_batch.specs.Bodies.{is_of}

-- the batch of a sender, none or one
abbrev pub batch_from : {V A : Type 0} → List (Batch V A) → ℕ → Stage → ℕ → List (Batch V A)
batch_from inbox e s p = elim (find (is_of p e s) inbox) [ None ↦ [] | Some b ↦ b ∷ [] ]

-- the bodies of the senders, in their order
unfoldable pub bodies : {V A : Type 0} → List (Batch V A) → ℕ → Stage → List ℕ → List (Body V A)
bodies inbox e s senders = flat_map (λ p. map (λ b. b.body) (batch_from inbox e s p)) senders

-- the first sender whose batch is not there
abbrev pub missing : {V A : Type 0} → List (Batch V A) → ℕ → Stage → List ℕ → Option ℕ
missing inbox e s senders = find (λ p. not (list_any (is_of p e s) inbox)) senders
