-- The last round is the least after which no vertex is active, or the limit.
use Rattle.std.proofs.Common.{◌≡◌, ◌∙◌, ◌<◌, ◌≤◌, ◌+◌, ◌⊎◌, ℕ, zero, suc, true, false, List, refl, ap, sym, arith, inl, inr}
use Rattle.std.proofs.lemmas.Bool.{cases_Bool, cond-true, cond-false}
use Rattle.std.proofs.lemmas.Bool.{cases_order}
use Rattle.gr_base.specs.declared.records.Edge.{Edge}
use Rattle.gr_program.specs.Program.{Program}
use Rattle.gr_program.specs.Rounds.{is_on, last_from, last_round, IsLastRound}

module _ {V A : Type 0} (p : Program V A) (es : List Edge) (vs : List ℕ) where
  pub last_from-off : (n r : ℕ) → is_on p es vs r ≡ false → last_from p es vs n r ≡ r
  unfolding last_from
  last_from-off zero r off = refl
  last_from-off (suc n) r off = cond-false (is_on p es vs r) _ _ off

  pub last_from-on : (n r : ℕ) → is_on p es vs r ≡ true → last_from p es vs (suc n) r ≡ last_from p es vs n (suc r)
  unfolding last_from
  last_from-on n r on = cond-true (is_on p es vs r) _ _ on

  pub last_from-zero : (r : ℕ) → last_from p es vs zero r ≡ r
  unfolding last_from
  last_from-zero r = refl

  -- what the search from r on finds
  pub record Found (n r last : ℕ) : Type 0 where
    pub low : r ≤ last
    pub high : last ≤ r + n
    pub ended : (last ≡ r + n) ⊎ (is_on p es vs last ≡ false)
    pub before : (s : ℕ) → r ≤ s → s < last → is_on p es vs s ≡ true

  found_at : (n r last : ℕ) → last ≡ r → ((last ≡ r + n) ⊎ (is_on p es vs r ≡ false)) → Found n r last
  found_at n r last is ended = record {
    low = omega arith;
    high = omega arith;
    ended = elim ended [ inl at ↦ inl at | inr off ↦ inr (ap (is_on p es vs) is ∙ off) ];
    before = λ s le lt. absurd (omega arith);
  }

  found_later : (n r last last' : ℕ) → last ≡ last' → is_on p es vs r ≡ true → Found n (suc r) last' → Found (suc n) r last
  found_later n r last last' is on f = record {
    low = omega (arith, f.low);
    high = omega (arith, f.high);
    ended = elim f.ended [ inl at ↦ inl (omega arith) | inr off ↦ inr (ap (is_on p es vs) is ∙ off) ];
    before = λ s le lt. elim (cases_order r s) [
      | inl same ↦ ap (is_on p es vs) (sym same) ∙ on
      | inr apart ↦ elim apart [
        | inl below ↦ f.before s (omega arith) (omega arith)
        | inr above ↦ absurd (omega arith)
      ]
    ];
  }

  pub last_from-found : (n r : ℕ) → Found n r (last_from p es vs n r)
  last_from-found zero r = found_at zero r _ (last_from-zero r) (inl (omega (arith, last_from-zero r)))
  last_from-found (suc n) r = elim (cases_Bool (is_on p es vs r)) [
    | inl on ↦ found_later n r _ _ (last_from-on n r on) on (last_from-found n (suc r))
    | inr off ↦ found_at (suc n) r _ (last_from-off (suc n) r off) (inr off)
  ]

  pub last_round-least : (limit : ℕ) → IsLastRound p es vs limit (last_round p es vs limit)
  last_round-least limit =
      let f = last_from-found limit 0 in record {
        within = omega (arith, f.high);
        ended = elim f.ended [ inl at ↦ inl (omega arith) | inr off ↦ inr off ];
        least = λ s lt. f.before s (omega arith) lt;
      }
