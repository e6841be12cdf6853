-- The draws of an edge, from the state before them.
use Rattle.std.proofs.Common.{◌≡◌, ℕ, suc, ◌+◌, ◌*◌, ◌/◌, ◌%◌, ◌^◌, sym, ap, ◌∙◌, arith, refl, add-one}
use Rattle.std.proofs.Math.Nat.{mod-add-mod}
use Rattle.gr_base.specs.declared.records.Edge.{Edge}
use Rattle.gr_gen.specs.Draws.{next_state, state_after, drawn_from, draw}
use Rattle.gr_gen.specs.Generated.{edge_by, edge_of}

-- a step with a remainder after each operation
pub step-by_remainders : (state : ℕ) → (state * 6364136223846793005 % 2 ^ 64 + 1442695040888963407) % 2 ^ 64 ≡ next_state state
unfolding next_state
step-by_remainders state = mod-add-mod (state * 6364136223846793005) (2 ^ 64) 1442695040888963407

pub shifted : (state : ℕ) → state / 2 ^ 33 ≡ drawn_from state
unfolding drawn_from
shifted state = refl

module _ (seed i before between after : ℕ) (stands : before ≡ state_after seed (2 * i)) (one : between ≡ next_state before) (two : after ≡ next_state between) where
  first-state : between ≡ state_after seed (suc (2 * i))
  first-state = one ∙ ap next_state stands

  second-state : after ≡ state_after seed (suc (suc (2 * i)))
  second-state = two ∙ ap next_state first-state

  pub state-after_edge : after ≡ state_after seed (2 * (i + 1))
  state-after_edge = second-state ∙ ap (state_after seed) (let e : suc (suc (2 * i)) ≡ 2 * (i + 1) = omega arith in e)

  pub edge-drawn : (vertices a b : ℕ) (e : Edge) → a ≡ drawn_from between → b ≡ drawn_from after → e ≡ edge_by vertices i a b → e ≡ edge_of seed vertices i
  edge-drawn vertices a b e a_is b_is is =
      let first : a ≡ draw seed (2 * i) = a_is ∙ ap drawn_from first-state in
      let second : b ≡ draw seed (2 * i + 1) = b_is ∙ ap drawn_from second-state ∙ ap (λ (n : ℕ). drawn_from (state_after seed (suc n))) (sym (add-one (2 * i))) in
      is ∙ (λ t. edge_by vertices i (first t) (second t))
