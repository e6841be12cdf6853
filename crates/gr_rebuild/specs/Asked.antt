-- The asks that a place was sent, each with the place that asks.
use Rattle.std.specs.Prelude.{ℕ, List, [], ◌∷◌, map, flat_map}
use Rattle.std.specs.List.{filter, list_any}
use Rattle.gr_base.specs.Rising.{has}
use Rattle.gr_batch.specs.declared.batch.Batch.{Batch}
use Rattle.gr_batch.specs.declared.stage.Stage.TheVariants as stage
use Rattle.gr_batch.specs.Bodies.{asks_of}
use Rattle.gr_rules.specs.Inbox.{bodies}
use Rattle.gr_migrate.specs.declared.grant.AskFrom.{AskFrom}

-- those of one sender, in its batch of the epoch
abbrev pub asks_from : {V A : Type 0} → List (Batch V A) → ℕ → ℕ → List AskFrom
asks_from inbox e q = map (λ v. record { vertex = v; asker = q }) (flat_map asks_of (bodies inbox e stage.Ask (q ∷ [])))

-- those of some senders, one sender after another
unfoldable pub asks_in : {V A : Type 0} → List (Batch V A) → ℕ → List ℕ → List AskFrom
asks_in inbox e senders = flat_map (asks_from inbox e) senders

-- the senders that ask for a vertex
abbrev pub asked_for : {V A : Type 0} → List (Batch V A) → ℕ → List ℕ → ℕ → List ℕ
asked_for inbox e senders v = filter (λ q. list_any (λ b. has (asks_of b) v) (bodies inbox e stage.Ask (q ∷ []))) senders
