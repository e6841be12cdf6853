-- What the coordinator decides, case by case.
use Rattle.std.proofs.Common.{◌≡◌, ◌∙◌, ◌+◌, ◌≤◌, ℕ, Bool, true, false, not, List, [], ◌∷◌, length, leb, ◌<◌, refl, ap, sym, inl, inr, arith}
use Rattle.std.specs.Prelude.{◌&&◌, ◌⊎◌, Option, Some, None, slice_get}
use Rattle.std.specs.List.{find}
use Rattle.std.specs.Option.{option_or}
use Rattle.std.proofs.Math.Bool.{not-not}
use Rattle.std.proofs.lemmas.Bool.{cond-true, cond-false, leb-true, le-leb}
use Rattle.std.proofs.lemmas.List.Filters.{length-filter_both}
use Rattle.gr_base.specs.Rising.{without, includes, has}
use Rattle.gr_base.specs.Places.{first_from}
use Rattle.gr_base.proofs.Members.{find-filter}
use Rattle.gr_view.specs.declared.coordinator.Mode.{Mode}
use Rattle.gr_view.specs.declared.coordinator.Mode.TheVariants as mode
use Rattle.gr_view.specs.declared.coordinator.Coordinator.{Coordinator}
use Rattle.gr_view.specs.declared.coordinator.Verdict.TheVariants as verdict
use Rattle.gr_view.specs.declared.coordinator.Opening.TheVariants as opening
use Rattle.gr_view.specs.Modes.{is_over, is_failed, is_round}
use Rattle.gr_view.specs.Decisions.{parties, unready, failed, raised, sent_back, begun_anew, commit_unless, at_barrier, at_repair, at_discard, may_recover, recovering, at_recovery}

-- ---- the least party without a report

pub unready-first : (co : Coordinator) → slice_get (without (parties co) co.ready) 0 ≡ unready co
unready-first co = sym (find-filter (λ p. not (has co.ready p)) (parties co))

-- ---- a recovery

and-right : (a b : Bool) → (a && b) ≡ true → b ≡ true
and-right true b on = on
and-right false b on = cc

module _ (co : Coordinator) (rebirth : List ℕ) where
  pub enough-spares : may_recover co rebirth ≡ true → length rebirth ≤ co.spares
  enough-spares may = leb-true (length rebirth) co.spares (and-right (includes co.dead rebirth) (leb (length rebirth) co.spares) (and-right (is_failed co.mode) (includes co.dead rebirth && leb (length rebirth) co.spares) may))

  pub recovery-idle : (lost : Bool) → may_recover co rebirth ≡ false → at_recovery co rebirth lost ≡ (co, opening.Idle)
  unfolding at_recovery
  recovery-idle lost off = cond-false (may_recover co rebirth) _ _ off

  pub recovery-lost : may_recover co rebirth ≡ true → at_recovery co rebirth true ≡ (record co { mode = mode.Lost }, opening.Lost)
  unfolding at_recovery
  recovery-lost may = cond-true (may_recover co rebirth) _ _ may

  pub recovery-opens : may_recover co rebirth ≡ true → at_recovery co rebirth false ≡ (recovering co rebirth, opening.Opened (co.epoch + 1))
  unfolding at_recovery
  recovery-opens may = cond-true (may_recover co rebirth) _ _ may

-- ---- a barrier

module _ (co : Coordinator) where
  pub barrier-over : (ps : List ℕ) → is_over co.mode ≡ true → at_barrier co ps ≡ (co, verdict.Idle)
  unfolding at_barrier
  barrier-over ps over = cond-true (is_over co.mode) _ _ over

  pub barrier-fails : (ps : List ℕ) → is_over co.mode ≡ false → 0 < length ps → at_barrier co ps ≡ (failed co ps, verdict.Failed ps)
  unfolding at_barrier
  barrier-fails [] on some = absurd (omega arith)
  barrier-fails (p ∷ ps) on some = cond-false (is_over co.mode) _ _ on

  pub barrier-after_failure : (ps : List ℕ) → is_over co.mode ≡ false → length ps ≤ 0 → is_failed co.mode ≡ true → at_barrier co ps ≡ (co, verdict.Idle)
  unfolding at_barrier
  barrier-after_failure [] on none fell = cond-false (is_over co.mode) _ _ on ∙ cond-true (is_failed co.mode) _ _ fell
  barrier-after_failure (p ∷ ps) on none fell = absurd (omega arith)

  pub barrier-unless : (ps : List ℕ) → is_over co.mode ≡ false → length ps ≤ 0 → is_failed co.mode ≡ false → at_barrier co ps ≡ commit_unless co (unready co)
  unfolding at_barrier
  barrier-unless [] on none stands = cond-false (is_over co.mode) _ _ on ∙ cond-false (is_failed co.mode) _ _ stands
  barrier-unless (p ∷ ps) on none stands = absurd (omega arith)

-- ---- sizes

pub without-shorter : (xs ys : List ℕ) → length (without xs ys) ≤ length xs
without-shorter xs ys = omega (arith, length-filter_both (λ x. not (has ys x)) (has ys) (λ x. sym (not-not (has ys x))) xs)

-- ---- a repair, and a discard

pub other-is_no_round : (m : Mode) → (m ≡ mode.Running → ⊥) → not (is_round m) ≡ true
other-is_no_round mode.Running apart = absurd (apart refl)
other-is_no_round mode.Failed apart = refl
other-is_no_round mode.Recovering apart = refl
other-is_no_round mode.Repairing apart = refl
other-is_no_round mode.Done apart = refl
other-is_no_round mode.Lost apart = refl

module _ (co : Coordinator) where
  pub repair-opens : (m : Mode) → m ≡ mode.Running → at_repair co m ≡ (record (raised co) { mode = mode.Repairing }, Some (co.epoch + 1))
  unfolding at_repair
  repair-opens m is = ap (at_repair co) is

  pub repair-none : (m : Mode) → (m ≡ mode.Running → ⊥) → at_repair co m ≡ (co, None)
  unfolding at_repair
  repair-none mode.Running apart = absurd (apart refl)
  repair-none mode.Failed apart = refl
  repair-none mode.Recovering apart = refl
  repair-none mode.Repairing apart = refl
  repair-none mode.Done apart = refl
  repair-none mode.Lost apart = refl

  pub discard-begins_anew : (ps : List ℕ) (m : Mode) → (m ≡ mode.Running) ⊎ (m ≡ mode.Repairing) → at_discard co ps m ≡ begun_anew co
  unfolding at_discard
  discard-begins_anew ps m (inl is) = ap (at_discard co ps) is
  discard-begins_anew ps m (inr is) = ap (at_discard co ps) is

  pub discard-sends_back : (ps : List ℕ) (m : Mode) → m ≡ mode.Recovering → at_discard co ps m ≡ (sent_back co ps, Some (co.epoch + 1))
  unfolding at_discard
  discard-sends_back ps m is = ap (at_discard co ps) is

  pub discard-none : (ps : List ℕ) (m : Mode) → (m ≡ mode.Running → ⊥) → (m ≡ mode.Repairing → ⊥) → (m ≡ mode.Recovering → ⊥) → at_discard co ps m ≡ (co, None)
  unfolding at_discard
  discard-none ps mode.Running a b c = absurd (a refl)
  discard-none ps mode.Failed a b c = refl
  discard-none ps mode.Recovering a b c = absurd (c refl)
  discard-none ps mode.Repairing a b c = absurd (b refl)
  discard-none ps mode.Done a b c = refl
  discard-none ps mode.Lost a b c = refl
