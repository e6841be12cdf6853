-- The numbers below a bound that pass a test, one bound after another.
use Rattle.std.proofs.Common.{◌≡◌, ◌∙◌, ◌+◌, ◌≤◌, ℕ, zero, suc, Bool, true, false, cond, [], ◌∷◌, ◌++◌, refl, ap, sym, arith, inl, inr}
use Rattle.std.specs.List.{filter, range_with_len}
use Rattle.std.proofs.lemmas.Bool.{cases_Bool, cond-true, cond-false, lt-ltb, le-ltb}
use Rattle.std.proofs.lemmas.List.{append-nil}
use Rattle.gr_base.specs.Places.{below, with_place}
use Rattle.gr_copies.proofs.Selecting.{filter-on, filter-off, filter-range_more}

-- a number that is not below those of a range goes to the end
with_place-range : (f : ℕ → Bool) (a n p : ℕ) → a + n ≤ p → with_place (filter f (range_with_len a n)) p ≡ filter f (range_with_len a n) ++ p ∷ []
with_place-range f a zero p le = refl
with_place-range f a (suc n) p le =
    let rest = with_place-range f (a + 1) n p (omega arith) in
    elim (cases_Bool (f a)) [
      | inl on ↦ rw (filter-on f a (range_with_len (a + 1) n) on, le-ltb p a (omega arith), lt-ltb a p (omega arith)) (ap (λ l. a ∷ l) rest)
      | inr off ↦ rw (filter-off f a (range_with_len (a + 1) n) off) rest
    ]

module _ (f : ℕ → Bool) (p : ℕ) where
  filter-below_more : filter f (below (p + 1)) ≡ filter f (below p) ++ cond (f p) (p ∷ []) []
  filter-below_more =
      let more : p + 1 ≡ suc p = omega arith in
      let start : 0 + p ≡ p = omega arith in
      ap (λ n. filter f (range_with_len 0 n)) more ∙ filter-range_more f 0 p ∙ ap (λ m. filter f (range_with_len 0 p) ++ cond (f m) (m ∷ []) []) start

  pub filter-below_on : f p ≡ true → filter f (below (p + 1)) ≡ with_place (filter f (below p)) p
  filter-below_on on = filter-below_more ∙ ap (λ l. filter f (below p) ++ l) (cond-true (f p) (p ∷ []) [] on) ∙ sym (with_place-range f 0 p p (omega arith))

  pub filter-below_off : f p ≡ false → filter f (below (p + 1)) ≡ filter f (below p)
  filter-below_off off = filter-below_more ∙ ap (λ l. filter f (below p) ++ l) (cond-false (f p) (p ∷ []) [] off) ∙ append-nil (filter f (below p))
