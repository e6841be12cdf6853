-- What the line of a host shows as sent, once it has sent one more batch of its stage, and once it has passed the stage.
use Rattle.std.proofs.Common.{◌≡◌, ◌≤◌, ℕ, List, Bool, true, false, cond, not, ◌==◌, ◌&&◌, ◌||◌, nat_lt, refl, sym, ap, ◌∙◌, subst, arith, Some, eq-eqb, le_refl, le-ltb}
use Rattle.std.proofs.lemmas.Bool.{and_left, and_right, and_parts, and_from, or_right, or_from}
use Rattle.gr_base.specs.Rising.{has}
use Rattle.gr_base.specs.Places.{with_place}
use Rattle.gr_base.proofs.WithPlace.{has-with_place}
use Rattle.gr_batch.specs.declared.stage.Stage.{Stage}
use Rattle.gr_batch.specs.Stages.{code_of, is_end, is_stage, stage_after}
use Rattle.gr_batch.specs.Order.{place_in}
use Rattle.gr_view.specs.declared.coordinator.Coordinator.{Coordinator}
use Rattle.gr_rules.specs.Exchange.{Exchange, begun}
use Rattle.gr_cluster.specs.Tables.{Host}
use Rattle.gr_cluster.specs.Stages.{stages_of, has_stage}
use Rattle.gr_cluster.specs.Work.{exchange_of, in_exchange}
use Rattle.gr_agree.specs.Network.{is_shown}
use Rattle.gr_lists.proofs.Tests.{by_test}
use Rattle.gr_law_rounds.proofs.Round.Codes.{same-code}

-- a host of the epoch, in a stage of the mode in which batches are sent
module _ {V A : Type 0} (co : Coordinator) (h : Host V A) (now : (h.epoch == co.epoch) ≡ true) (listed : has_stage (stages_of co.mode) h.stage ≡ true) (sends : is_end h.stage ≡ false)
    (before_next : (s : Stage) → has_stage (stages_of co.mode) s ≡ true → nat_lt (place_in s) (place_in (stage_after h.stage)) ≡ (nat_lt (place_in s) (place_in h.stage) || is_stage s h.stage)) where
  -- whether the host in another exchange shows a batch as sent
  abbrev pub shows_in : Exchange → ℕ → Stage → Bool
  shows_in x q s = is_shown co q (Some (in_exchange x h)) s

  abbrev guard : Stage → Bool
  guard s = has_stage (stages_of co.mode) s && not (is_end s)

  guard-here : (s : Stage) → code_of s ≡ code_of h.stage → guard s ≡ true
  guard-here s e = subst (λ k. guard k ≡ true) (sym (same-code s h.stage e)) (and_from _ _ listed (ap not sends))

  -- the stage is passed
  abbrev gone : Exchange
  gone = begun (stage_after h.stage)

  gone-shows : (q : ℕ) (s : Stage) → guard s ≡ true → shows_in gone q s ≡ (nat_lt (place_in s) (place_in h.stage) || is_stage s h.stage)
  gone-shows q s g = let k = and_parts (has_stage (stages_of co.mode) s) (not (is_end s)) g in
      (λ i. now i && (g i && (before_next s k.0 i || (is_stage s (stage_after h.stage) && false))))
      ∙ drop (nat_lt (place_in s) (place_in h.stage) || is_stage s h.stage) (is_stage s (stage_after h.stage))
    where
      drop : (x y : Bool) → (true && (true && (x || (y && false)))) ≡ x
      drop true y = refl
      drop false true = refl
      drop false false = refl

  plain-shows : (q : ℕ) (s : Stage) → guard s ≡ true → is_shown co q (Some h) s ≡ (nat_lt (place_in s) (place_in h.stage) || (is_stage s h.stage && has h.sent q))
  plain-shows q s g = λ i. now i && (g i && (nat_lt (place_in s) (place_in h.stage) || (is_stage s h.stage && has h.sent q)))

  unguarded : (x : Exchange) (q : ℕ) (s : Stage) → guard s ≡ false → shows_in x q s ≡ false
  unguarded x q s g = and_right (h.epoch == co.epoch) _ (and_left _ _ g)

  pub gone-more : (q : ℕ) (s : Stage) → cond {A = ℕ} (is_shown co q (Some h) s) 1 0 ≤ cond (shows_in gone q s) 1 0
  gone-more q s = by_test (guard s)
      (λ g. subst (λ x. cond {A = ℕ} x 1 0 ≤ cond (shows_in gone q s) 1 0) (sym (plain-shows q s g))
      (subst (λ x. cond {A = ℕ} (nat_lt (place_in s) (place_in h.stage) || (is_stage s h.stage && has h.sent q)) 1 0 ≤ cond x 1 0) (sym (gone-shows q s g)) (less (nat_lt (place_in s) (place_in h.stage)) (is_stage s h.stage) (has h.sent q))))
      (λ g. let none : cond {A = ℕ} (is_shown co q (Some h) s) 1 0 ≡ 0 = ap (λ x. cond x 1 0) (unguarded (exchange_of h) q s g) in omega (arith, none))
    where
      less : (l i x : Bool) → cond {A = ℕ} (l || (i && x)) 1 0 ≤ cond (l || i) 1 0
      less true i x = le_refl _
      less false true true = le_refl _
      less false true false = omega arith
      less false false x = le_refl _

  -- one more batch is sent, to r
  module _ (r : ℕ) (unsent_yet : has h.sent r ≡ false) where
    pub before-shows : (s : Stage) → code_of s ≡ code_of h.stage → is_shown co r (Some h) s ≡ false
    before-shows s e =
        subst (λ k. is_shown co r (Some h) k ≡ false) (sym (same-code s h.stage e))
        (and_right (h.epoch == co.epoch) _ (and_right (guard h.stage) _ (or_from _ _ (le-ltb (place_in h.stage) (place_in h.stage) (le_refl _)) (and_right _ _ unsent_yet))))

    abbrev more_sent : List ℕ
    more_sent = with_place h.sent r

    abbrev still : Exchange
    still = record { stage = h.stage; computed = h.computed; sent = more_sent }

    -- to r, in the stage
    abbrev is_sent : ℕ → Stage → Bool
    is_sent q s = (r == q) && is_stage s h.stage

    pub still-later : (q : ℕ) (s : Stage) → is_sent q s ≡ false → shows_in still q s ≡ is_shown co q (Some h) s
    still-later q s n =
        (λ i. now i && (guard s && (nat_lt (place_in s) (place_in h.stage) || (is_stage s h.stage && has-with_place h.sent r q i))))
        ∙ (mix (guard s) (nat_lt (place_in s) (place_in h.stage)) (is_stage s h.stage) (has h.sent q) (r == q) n
        ∙ (λ i. sym now i && (guard s && (nat_lt (place_in s) (place_in h.stage) || (is_stage s h.stage && has h.sent q)))))
      where
        mix : (g l i x y : Bool) → (y && i) ≡ false → (true && (g && (l || (i && (x || y))))) ≡ (true && (g && (l || (i && x))))
        mix g l true x true n = absurd (let bad : true ≡ false = n in cc)
        mix g l true true false n = refl
        mix g l true false false n = refl
        mix g l false x y n = refl

    pub still-more : (q : ℕ) (s : Stage) → cond {A = ℕ} (is_shown co q (Some h) s) 1 0 ≤ cond (shows_in still q s) 1 0
    still-more q s = subst (λ x. cond {A = ℕ} (is_shown co q (Some h) s) 1 0 ≤ cond ((h.epoch == co.epoch) && (guard s && (nat_lt (place_in s) (place_in h.stage) || (is_stage s h.stage && x)))) 1 0) (sym (has-with_place h.sent r q))
        (grow (h.epoch == co.epoch) (guard s) (nat_lt (place_in s) (place_in h.stage)) (is_stage s h.stage) (has h.sent q) (r == q))
      where
        grow : (e g l i x y : Bool) → cond {A = ℕ} (e && (g && (l || (i && x)))) 1 0 ≤ cond (e && (g && (l || (i && (x || y))))) 1 0
        grow true true true i x y = le_refl _
        grow true true false true true y = le_refl _
        grow true true false true false y = omega arith
        grow true true false false x y = le_refl _
        grow true false l i x y = le_refl _
        grow false g l i x y = le_refl _

    pub still-now : (s : Stage) → code_of s ≡ code_of h.stage → shows_in still r s ≡ true
    still-now s e = and_from _ _ now (and_from _ _ (guard-here s e) (or_right _ _ (and_from _ _ (eq-eqb _ _ e) (has-with_place h.sent r r ∙ or_right (has h.sent r) _ (eq-eqb r r refl)))))

    -- it was the last one of the stage
    pub gone-later : (q : ℕ) (s : Stage) → (has h.sent q || (r == q)) ≡ true → is_sent q s ≡ false → shows_in gone q s ≡ is_shown co q (Some h) s
    gone-later q s all n = by_test (guard s)
        (λ g. gone-shows q s g ∙ (last (nat_lt (place_in s) (place_in h.stage)) (is_stage s h.stage) (has h.sent q) (r == q) all n ∙ sym (plain-shows q s g)))
        (λ g. unguarded gone q s g ∙ sym (unguarded (exchange_of h) q s g))
      where
        last : (l i x y : Bool) → (x || y) ≡ true → (y && i) ≡ false → (l || i) ≡ (l || (i && x))
        last l true true y e n = refl
        last l true false true e n = absurd (let bad : true ≡ false = n in cc)
        last l true false false e n = absurd (let bad : false ≡ true = e in cc)
        last l false x y e n = refl

    pub gone-now : (s : Stage) → code_of s ≡ code_of h.stage → shows_in gone r s ≡ true
    gone-now s e = gone-shows r s (guard-here s e) ∙ or_right _ _ (eq-eqb _ _ e)
