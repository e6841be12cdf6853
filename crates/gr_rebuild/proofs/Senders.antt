-- What is gathered of a set of senders, one sender after another.
use Rattle.std.proofs.Common.{◌≡◌, ◌∙◌, ◌<◌, ◌+◌, ℕ, true, false, ltb, List, [], ◌∷◌, ◌++◌, map, refl, sym, ap}
use Rattle.std.specs.Prelude.{flat_map}
use Rattle.std.specs.List.{All, filter}
use Rattle.std.proofs.lemmas.List.{append-nil}
use Rattle.std.proofs.lemmas.Grind.{flat_map-append}
use Rattle.gr_base.specs.Rising.{RisesBy, has}
use Rattle.gr_batch.specs.declared.batch.Batch.{Batch}
use Rattle.gr_batch.specs.declared.body.Body.{Body}
use Rattle.gr_batch.specs.declared.stage.Stage.{Stage}
use Rattle.gr_rules.specs.Inbox.{batch_from, bodies}
use Rattle.gr_round.proofs.Passed.{passed-on, passed-off, passed-none, passed-all}

module _ {X : Type 0} (f : ℕ → List X) (senders : List ℕ) where
  -- of the senders below p
  abbrev pub gathered : ℕ → List X
  gathered p = flat_map f (filter (λ q. ltb q p) senders)

  pub gathered-none : gathered 0 ≡ []
  gathered-none = ap (flat_map f) (passed-none senders)

  gathered-with : (p : ℕ) → RisesBy (λ (n : ℕ). n) senders → has senders p ≡ true → gathered (p + 1) ≡ gathered p ++ f p
  gathered-with p r h =
      ap (flat_map f) (passed-on p senders r h)
      ∙ (flat_map-append f (filter (λ q. ltb q p) senders) (p ∷ []) ∙ ap (λ l. gathered p ++ l) (append-nil (f p)))

  -- one place more is passed, which is a sender
  pub gathered-more : (p : ℕ) (known more : List X) → RisesBy (λ (n : ℕ). n) senders → has senders p ≡ true → known ≡ gathered p → more ≡ known ++ f p → more ≡ gathered (p + 1)
  gathered-more p known more r h is added = added ∙ (ap (λ l. l ++ f p) is ∙ sym (gathered-with p r h))

  -- or is none
  pub gathered-same : (p : ℕ) (known more : List X) → has senders p ≡ false → known ≡ gathered p → more ≡ known → more ≡ gathered (p + 1)
  gathered-same p known more h is same = same ∙ (is ∙ sym (ap (flat_map f) (passed-off p senders h)))

  pub gathered-all : All (λ q. q < 64) senders → gathered 64 ≡ flat_map f senders
  gathered-all a = ap (flat_map f) (passed-all 64 senders a)

module _ {V A X : Type 0} (inbox : List (Batch V A)) (e : ℕ) (s : Stage) (f : Body V A → List X) where
  -- the items of one sender's body
  abbrev pub items_from : ℕ → List X
  items_from q = flat_map f (bodies inbox e s (q ∷ []))

  -- those of each sender are those of all bodies
  pub items-of_each : (senders : List ℕ) → flat_map items_from senders ≡ flat_map f (bodies inbox e s senders)
  unfolding bodies
  items-of_each [] = refl
  items-of_each (q ∷ qs) =
      ap (λ l. flat_map f l ++ flat_map items_from qs) (append-nil (map (λ (b : Batch V A). b.body) (batch_from inbox e s q)))
      ∙ (ap (λ l. flat_map f (map (λ (b : Batch V A). b.body) (batch_from inbox e s q)) ++ l) (items-of_each qs)
      ∙ sym (flat_map-append f (map (λ (b : Batch V A). b.body) (batch_from inbox e s q)) (bodies inbox e s qs)))
