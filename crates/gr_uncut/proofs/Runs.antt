-- The state after each round, and the last round.
use Rattle.std.proofs.Common.{◌≡◌, ◌∙◌, ◌<◌, ◌+◌, ◌-◌, ◌&&◌, ℕ, zero, suc, Bool, true, false, eqb, List, [], ◌∷◌, length, get_or, map, IsTrue, refl, ap, sym, subst, add-one, arith}
use Rattle.std.specs.Prelude.{slice_index}
use Rattle.std.specs.List.{All, list_any, range_with_len}
use Rattle.std.proofs.lemmas.Bool.{eq-eqb, eqb-true}
use Rattle.std.proofs.lemmas.List.{get_or_default}
use Rattle.std.proofs.lemmas.List.FromFn.{length-range_with_len, get_or-range_with_len}
use Rattle.std.proofs.lemmas.List.Folds.{list_any_at, list_any_none}
use Rattle.gr_base.specs.declared.records.Edge.{Edge}
use Rattle.gr_base.specs.Rising.{has}
use Rattle.gr_program.specs.Program.{Program}
use Rattle.gr_program.specs.Rounds.{State, next_value, woke, after_round, first_state, state_after, is_on, last_from}
use Rattle.gr_program.proofs.LastRound.{last_from-on}
use Rattle.gr_uncut.specs.Round.{Holds}

module _ {V A : Type 0} (p : Program V A) (es : List Edge) (vs : List ℕ) where
  next-state : (r : ℕ) → after_round p es (state_after p es r) ≡ state_after p es (r + 1)
  unfolding state_after
  next-state r = ap (state_after p es) (sym (add-one r))

  after-holds : (s : State V) (ys : List V) (next : List ℕ) → ys ≡ map (next_value p es s) vs → All (λ x. IsTrue (p.is_value x)) ys → All (λ k. k < length vs) next
      → ((k : ℕ) → k < length vs → has next k ≡ list_any (λ e. (eqb e.dst (slice_index vs k)) && woke p es s e.src) es) → Holds p vs (after_round p es s) ys next
  unfolding after_round
  after-holds s ys next values kept within active = record { values = values; kept = kept; within = within; active = active }

  -- what a round makes holds one round later
  pub next-holds : (r : ℕ) (ys : List V) (next : List ℕ) → ys ≡ map (next_value p es (state_after p es r)) vs → All (λ x. IsTrue (p.is_value x)) ys → All (λ k. k < length vs) next
      → ((k : ℕ) → k < length vs → has next k ≡ list_any (λ e. (eqb e.dst (slice_index vs k)) && woke p es (state_after p es r) e.src) es) → Holds p vs (state_after p es (r + 1)) ys next
  next-holds r ys next values kept within active = subst (λ (s : State V). Holds p vs s ys next) (next-state r) (after-holds (state_after p es r) ys next values kept within active)

  -- before the first round every position is active
  pub first-holds : (xs : List V) → xs ≡ map (first_state p es).value vs → All (λ x. IsTrue (p.is_value x)) xs → Holds p vs (state_after p es 0) xs (range_with_len 0 (length vs))
  unfolding state_after first_state
  first-holds xs values kept = record {
    values = values;
    kept = kept;
    within = λ k d lt. let low : k < length vs = rw (length-range_with_len 0 (length vs)) at lt in omega (arith, low, get_or-range_with_len 0 (length vs) k d low);
    active = λ k lt. list_any_at (λ j. eqb j k) (range_with_len 0 (length vs)) k 0 (rw (length-range_with_len 0 (length vs)) lt) (eq-eqb _ k (get_or-range_with_len 0 (length vs) k 0 lt ∙ omega arith));
  }

  -- whether a run goes on, by its active positions
  pub on-some : (r : ℕ) (xs : List V) (ks : List ℕ) → Holds p vs (state_after p es r) xs ks → 0 < length ks → is_on p es vs r ≡ true
  on-some r xs ks holds some =
      let k = get_or ks 0 0 in
      let low : k < length vs = holds.within 0 0 some in
      list_any_at (state_after p es r).active vs k 0 low (sym (holds.active k low) ∙ list_any_at (λ j. eqb j k) ks 0 0 some (eq-eqb k k refl))

  pub off-none : (r : ℕ) (xs : List V) (ks : List ℕ) → Holds p vs (state_after p es r) xs ks → length ks ≡ 0 → is_on p es vs r ≡ false
  off-none r xs ks holds none = list_any_none (state_after p es r).active vs (λ k d lt.
      ap (state_after p es r).active (get_or_default vs k d 0 lt) ∙ sym (holds.active k lt) ∙ nothing ks k none)
    where
      nothing : (ks : List ℕ) (k : ℕ) → length ks ≡ 0 → has ks k ≡ false
      nothing [] k e = refl
      nothing (j ∷ ks) k e = absurd (omega arith)

  pub last_from-next : (limit r : ℕ) → r < limit → is_on p es vs r ≡ true → last_from p es vs (limit - (r + 1)) (r + 1) ≡ last_from p es vs (limit - r) r
  last_from-next limit r lt on =
      let here : suc (limit - (r + 1)) ≡ limit - r = omega arith in
      ap (last_from p es vs (limit - (r + 1))) (add-one r) ∙ sym (last_from-on p es vs (limit - (r + 1)) r on) ∙ ap (λ n. last_from p es vs n r) here

pub some-from_not : (b : Bool) (n : ℕ) → b ≡ eqb n 0 → b ≡ false → 0 < n
some-from_not b zero is off = let on = eq-eqb 0 0 refl in cc
some-from_not b (suc n) is off = omega arith

pub none-from : (b : Bool) (n : ℕ) → b ≡ eqb n 0 → b ≡ true → n ≡ 0
none-from b n is on = eqb-true n 0 (sym is ∙ on)
