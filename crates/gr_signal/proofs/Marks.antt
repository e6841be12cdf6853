-- The vertices that are marked as waking.
use Rattle.std.proofs.Common.{◌≡◌, ◌∙◌, ℕ, Bool, true, false, cond, eqb, List, [], ◌∷◌, length, map, refl, ap, arith}
use Rattle.std.specs.Prelude.{◌&&◌, ◌||◌}
use Rattle.std.specs.List.{filter}
use Rattle.gr_base.specs.Rising.{has}
use Rattle.gr_batch.specs.declared.body.NewValue.{NewValue}
use Rattle.gr_rules.specs.Round.{woke_by}

-- in their order
abbrev pub marked_in : {V : Type 0} → List (NewValue V) → List ℕ
marked_in news = map (λ n. n.vertex) (filter (λ n. n.wake) news)

and-true : (b : Bool) → b ≡ (b && true)
and-true true = refl
and-true false = refl

and-false : (b r : Bool) → r ≡ ((b && false) || r)
and-false true r = refl
and-false false r = refl

module _ {V : Type 0} (v : ℕ) where
  mark_case : (b : Bool) (n : NewValue V) (rest : List (NewValue V)) (r : Bool) → has (map (λ k. k.vertex) rest) v ≡ r → has (map (λ k. k.vertex) (cond b (n ∷ rest) rest)) v ≡ ((eqb n.vertex v && b) || r)
  mark_case true n rest r e = ap (λ s. eqb n.vertex v || s) e ∙ ap (λ s. s || r) (and-true (eqb n.vertex v))
  mark_case false n rest r e = e ∙ and-false (eqb n.vertex v) r

  pub marked-has : (news : List (NewValue V)) → has (marked_in news) v ≡ woke_by news v
  marked-has [] = refl
  marked-has (n ∷ ns) = mark_case n.wake n (filter (λ k. k.wake) ns) (woke_by ns v) (marked-has ns)

-- no vertex more
pub has-nothing : (xs : List ℕ) (known : Bool) (v : ℕ) → length xs ≡ 0 → known ≡ (known || has xs v)
has-nothing [] true v e = refl
has-nothing [] false v e = refl
has-nothing (x ∷ xs) known v e = absurd (omega (arith, e))
