-- The last round: where a round is committed, whether it is the last one is seen by the sum of the due counts and by the limit.
use Rattle.std.proofs.Common.{◌≡◌, ◌≢◌, ℕ, ◌+◌, ◌<◌, List, Bool, true, false, ◌||◌, ◌==◌, refl, sym, ap, ◌∙◌, arith, ◌⊎◌, ⊎_elim, eq-eqb, eqb-true, inl, inr}
use Rattle.std.specs.Prelude.{count_by, if◌then◌else◌}
use Rattle.std.proofs.lemmas.Bool.{both_ways, cases_lt}
use Rattle.gr_program.specs.Program.{Program}
use Rattle.gr_program.specs.Rounds.{IsLastRound, last_round, state_after, is_on}
use Rattle.gr_program.proofs.LastRound.{last_round-least}
use Rattle.gr_view.specs.declared.coordinator.Mode.{Mode}
use Rattle.gr_view.specs.declared.coordinator.Mode.TheVariants as mode
use Rattle.gr_base.specs.declared.records.Edge.{Edge}
use Rattle.gr_lists.proofs.Tests.{by_test}
use Rattle.gr_lists.proofs.Counts.{some-counted, count_by-none}

module _ {V A : Type 0} (P : Program V A) (es : List Edge) (vs : List ℕ) (limit r : ℕ) (before : r < last_round P es vs limit)
    (due : ℕ) (is_due : due ≡ count_by (state_after P es (r + 1)).active vs) where
  last : ℕ
  last = last_round P es vs limit

  is-last : IsLastRound P es vs limit (last_round P es vs limit)
  is-last = last_round-least P es vs limit

  -- the mode after the commit
  abbrev after : Mode
  after = if (due == 0) || (r + 1 == limit) then mode.Done else mode.Running

  none-on : due ≡ 0 → is_on P es vs (r + 1) ≡ false
  none-on zero' = by_test (is_on P es vs (r + 1))
      (λ on. absurd (let some = some-counted (state_after P es (r + 1)).active vs on in omega (arith, some, zero', is_due)))
      (λ off. off)

  reached : is_on P es vs (r + 1) ≡ false → r + 1 ≡ last_round P es vs limit
  reached off = ⊎_elim
      (λ lt. absurd (let on = is-last.least (r + 1) lt in both_ways _ off on))
      (λ ge. omega (arith, ge, before))
      (cases_lt (r + 1) (last_round P es vs limit))

  at-limit : r + 1 ≡ limit → r + 1 ≡ last_round P es vs limit
  at-limit e = let within = is-last.within in omega (arith, e, within, before)

  pub done-at-last : after ≡ mode.Done → r + 1 ≡ last_round P es vs limit
  done-at-last is = by_test (due == 0)
      (λ e. reached (none-on (eqb-true due 0 e)))
      (λ e. by_test (r + 1 == limit)
      (λ k. at-limit (eqb-true (r + 1) limit k))
      (λ k. absurd (let no : mode.Running ≡ mode.Done = sym (λ i. if e i || k i then mode.Done else mode.Running) ∙ is in cc)))

  pub not-done-before : after ≢ mode.Done → r + 1 < last_round P es vs limit
  not-done-before ne = ⊎_elim
      (λ lt. lt)
      (λ ge. let here : r + 1 ≡ last_round P es vs limit = omega (arith, ge, before) in absurd (⊎_elim
      (λ e. let k : (r + 1 == limit) ≡ true = eq-eqb (r + 1) limit (here ∙ e) in ne (by_test (due == 0)
      (λ d. λ i. if d i || (r + 1 == limit) then mode.Done else mode.Running)
      (λ d. λ i. if d i || k i then mode.Done else mode.Running)))
      (λ off. let off' : is_on P es vs (r + 1) ≡ false = ap (is_on P es vs) here ∙ off in
      let zero' : due ≡ 0 = is_due ∙ count_by-none (state_after P es (r + 1)).active vs off' in
      ne (λ i. if eq-eqb due 0 zero' i || (r + 1 == limit) then mode.Done else mode.Running))
      is-last.ended))
      (cases_lt (r + 1) (last_round P es vs limit))

  -- it is one of two modes
  pub done-or-running : (after ≡ mode.Done) ⊎ (after ≡ mode.Running)
  done-or-running = one-of ((due == 0) || (r + 1 == limit))
    where
      one-of : (b : Bool) → ((if b then mode.Done else mode.Running) ≡ mode.Done) ⊎ ((if b then mode.Done else mode.Running) ≡ mode.Running)
      one-of true = inl refl
      one-of false = inr refl
