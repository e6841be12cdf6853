-- What is known of vertices once the items of one sender more are known.
use Rattle.std.proofs.Common.{◌≡◌, ◌∙◌, ◌+◌, ◌<◌, ℕ, Bool, true, false, ltb, List, [], ◌∷◌, ◌++◌, refl, sym, ap, arith}
use Rattle.std.specs.Prelude.{flat_map, ◌||◌}
use Rattle.std.specs.List.{filter, list_any}
use Rattle.std.proofs.lemmas.List.Folds.{list_any-append}
use Rattle.std.proofs.lemmas.Grind.{flat_map-append}
use Rattle.gr_base.specs.Places.{IsPlaces}
use Rattle.gr_base.specs.Rising.{RisesBy, has}
use Rattle.gr_batch.specs.declared.batch.Batch.{Batch}
use Rattle.gr_batch.specs.declared.body.Body.{Body}
use Rattle.gr_batch.specs.declared.stage.Stage.{Stage}
use Rattle.gr_rules.specs.Inbox.{bodies}
use Rattle.gr_round.proofs.Senders.{bodies-passed, bodies-skipped, bodies-none, bodies-all}

or-assoc : (a b c : Bool) → ((a || b) || c) ≡ (a || (b || c))
or-assoc true b c = refl
or-assoc false b c = refl

or-false : (a : Bool) → a ≡ (a || false)
or-false true = refl
or-false false = refl

module _ {V A X : Type 0} (inbox : List (Batch V A)) (e : ℕ) (s : Stage) (f : Body V A → List X) (t : X → Bool) (senders : List ℕ) where
  -- whether an item of the senders below p passes
  abbrev pub passes_below : ℕ → Bool
  passes_below p = list_any t (flat_map f (bodies inbox e s (filter (λ q. ltb q p) senders)))

  below-none : (first known : Bool) → known ≡ first → known ≡ (first || passes_below 0)
  below-none first known is = is ∙ or-false first ∙ sym (ap (λ bs. first || list_any t (flat_map f bs)) (bodies-none inbox e s senders))

  below-passed : (p : ℕ) (first known : Bool) → RisesBy (λ (n : ℕ). n) senders → has senders p ≡ true → known ≡ (first || passes_below p) → (more : Bool) →
      more ≡ (known || list_any t (flat_map f (bodies inbox e s (p ∷ [])))) → more ≡ (first || passes_below (p + 1))
  below-passed p first known r h is more one =
      one ∙ ap (λ b. b || list_any t (flat_map f (bodies inbox e s (p ∷ [])))) is ∙ or-assoc first (passes_below p) (list_any t (flat_map f (bodies inbox e s (p ∷ []))))
      ∙ sym (ap (λ b. first || b) (ap (λ bs. list_any t (flat_map f bs)) (bodies-passed inbox e s p senders r h)
      ∙ ap (list_any t) (flat_map-append f (bodies inbox e s (filter (λ q. ltb q p) senders)) (bodies inbox e s (p ∷ [])))
      ∙ list_any-append t (flat_map f (bodies inbox e s (filter (λ q. ltb q p) senders))) (flat_map f (bodies inbox e s (p ∷ [])))))

  below-skipped : (p : ℕ) (first known : Bool) → has senders p ≡ false → known ≡ (first || passes_below p) → known ≡ (first || passes_below (p + 1))
  below-skipped p first known h is = is ∙ sym (ap (λ bs. first || list_any t (flat_map f bs)) (bodies-skipped inbox e s p senders h))

  below-all : (xs : List X) (known : Bool) → IsPlaces senders → known ≡ (list_any t xs || passes_below 64) → known ≡ list_any t (xs ++ flat_map f (bodies inbox e s senders))
  below-all xs known places is = is ∙ ap (λ bs. list_any t xs || list_any t (flat_map f bs)) (bodies-all inbox e s senders places.below) ∙ sym (list_any-append t xs (flat_map f (bodies inbox e s senders)))

-- the vertices that a loop over the senders has taken: those of a list, and those that the items of the senders so far say
module _ {V A X : Type 0} (inbox : List (Batch V A)) (e : ℕ) (s : Stage) (f : Body V A → List X) (t : ℕ → X → Bool) (senders : List ℕ) (xs : List X) where
  pub record TakenBelow (taken : List ℕ) (p : ℕ) : Type 0 where
    pub places : 0 < p → IsPlaces senders
    pub members : (v : ℕ) → has taken v ≡ (list_any (t v) xs || passes_below inbox e s f (t v) senders p)
    pub rise : RisesBy (λ (n : ℕ). n) taken

  pub taken-none : (taken : List ℕ) → ((v : ℕ) → has taken v ≡ list_any (t v) xs) → RisesBy (λ (n : ℕ). n) taken → TakenBelow taken 0
  taken-none taken same rise = record {
    places = λ more. absurd (omega arith);
    members = λ v. below-none inbox e s f (t v) senders (list_any (t v) xs) (has taken v) (same v);
    rise = rise;
  }

  pub taken-more : (taken more : List ℕ) (part : List X) (p : ℕ) → TakenBelow taken p → IsPlaces senders → has senders p ≡ true → part ≡ flat_map f (bodies inbox e s (p ∷ []))
      → ((v : ℕ) → has more v ≡ (has taken v || list_any (t v) part)) → RisesBy (λ (n : ℕ). n) more → TakenBelow more (p + 1)
  taken-more taken more part p so_far places here is one rise = record {
    places = λ later. places;
    members = λ v. below-passed inbox e s f (t v) senders p (list_any (t v) xs) (has taken v) places.rise here (so_far.members v) (has more v) (one v ∙ ap (λ l. has taken v || list_any (t v) l) is);
    rise = rise;
  }

  pub taken-same : (taken : List ℕ) (p : ℕ) → TakenBelow taken p → IsPlaces senders → has senders p ≡ false → TakenBelow taken (p + 1)
  taken-same taken p so_far places none = record {
    places = λ later. places;
    members = λ v. below-skipped inbox e s f (t v) senders p (list_any (t v) xs) (has taken v) none (so_far.members v);
    rise = so_far.rise;
  }

  pub taken-all : (taken : List ℕ) (p : ℕ) → p ≡ 64 → TakenBelow taken p → (v : ℕ) → has taken v ≡ list_any (t v) (xs ++ flat_map f (bodies inbox e s senders))
  taken-all taken p end so_far v =
      below-all inbox e s f (t v) senders xs (has taken v) (so_far.places (omega (arith, end)))
      (so_far.members v ∙ ap (λ n. list_any (t v) xs || passes_below inbox e s f (t v) senders n) end)
