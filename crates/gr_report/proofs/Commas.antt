-- Numbers joined by commas, one more at a time.
use Rattle.std.proofs.Common.{◌≡◌, ◌∙◌, ◌+◌, ◌≤◌, ℕ, Bool, true, false, cond, eqb, List, [], ◌∷◌, ◌++◌, length, take, Some, codes, decimal, sym, ap, arith, inl, inr, append_assoc, length-take, length-append}
use Rattle.std.specs.Prelude.{slice_get}
use Rattle.std.proofs.lemmas.Bool.{cases_Bool, cond-true, cond-false, ne_eqb}
use Rattle.std.proofs.lemmas.List.{append-nil, flat_map_more, take_more, take_all}
use Rattle.gr_base.specs.Rising.{has}
use Rattle.gr_base.specs.Places.{IsPlaces}
use Rattle.gr_base.proofs.Nth.{get-some}
use Rattle.gr_sched.proofs.Below.{below, none-below, all-below, below-member, below-other}
use Rattle.gr_report.specs.Trace.{comma_text}

abbrev behind : ℕ → List ℕ
behind n = codes "," ++ decimal n

comma-more : (xs : List ℕ) (n : ℕ) → comma_text (xs ++ n ∷ []) ≡ comma_text xs ++ cond (eqb (length xs) 0) (decimal n) (behind n)
comma-more [] n = append-nil (decimal n)
comma-more (x ∷ xs) n =
    sym (flat_map_more behind (decimal x) xs n)
    ∙ ap (λ (l : List ℕ). comma_text (x ∷ xs) ++ l) (sym (cond-false (eqb (length (x ∷ xs)) 0) (decimal n) (behind n) (ne_eqb _ 0 (λ e. omega arith))))

module _ (old : List ℕ) where
  pub commas-more : (now new xs : List ℕ) (n : ℕ) (first : Bool) → now ≡ old ++ comma_text xs → first ≡ eqb (length xs) 0 → new ≡ now ++ cond first (decimal n) (behind n) → new ≡ old ++ comma_text (xs ++ n ∷ [])
  commas-more now new xs n first so_far is_first is =
      is ∙ (λ t. so_far t ++ cond (is_first t) (decimal n) (behind n))
      ∙ append_assoc old (comma_text xs) (cond (eqb (length xs) 0) (decimal n) (behind n))
      ∙ ap (λ (l : List ℕ). old ++ l) (sym (comma-more xs n))

  -- the numbers of a datum
  pub datum-more : (now new ns : List ℕ) (i n : ℕ) → slice_get ns i ≡ Some n → now ≡ old ++ comma_text (take i ns) → new ≡ now ++ cond (eqb i 0) (decimal n) (behind n) → new ≡ old ++ comma_text (take (i + 1) ns)
  datum-more now new ns i n at so_far is =
      let found = get-some ns i n (sym at) in
      let count : i ≡ length (take i ns) = omega (arith, length-take i ns, found.0) in
      commas-more now new (take i ns) n (eqb i 0) so_far (ap (λ (k : ℕ). eqb k 0) count) is
      ∙ ap (λ (l : List ℕ). old ++ comma_text l) (ap (λ (m : ℕ). take i ns ++ m ∷ []) found.1 ∙ sym (take_more ns i n found.0))

  pub datum-all : (now ns : List ℕ) (i width : ℕ) → width ≤ i → length ns ≡ width → now ≡ old ++ comma_text (take i ns) → now ≡ old ++ comma_text ns
  datum-all now ns i width past is so_far = so_far ∙ ap (λ (l : List ℕ). old ++ comma_text l) (take_all i ns (omega arith))

  -- the places of a set
  module _ (ps : List ℕ) where
    pub holders-none : old ≡ old ++ comma_text (below 0 ps)
    holders-none = sym (append-nil old) ∙ ap (λ (l : List ℕ). old ++ comma_text l) (sym (none-below 0 ps (λ k d lt. omega arith)))

    pub first-none : true ≡ eqb (length (below 0 ps)) 0
    first-none = ap (λ (l : List ℕ). eqb (length l) 0) (sym (none-below 0 ps (λ k d lt. omega arith)))

    pub holders-more : (now new : List ℕ) (p : ℕ) (first : Bool) → IsPlaces ps → now ≡ old ++ comma_text (below p ps) → first ≡ eqb (length (below p ps)) 0 → new ≡ now ++ cond (has ps p) (cond first (decimal p) (behind p)) [] → new ≡ old ++ comma_text (below (p + 1) ps)
    holders-more now new p first places so_far is_first is = elim (cases_Bool (has ps p)) [
      | inl member ↦
          commas-more now new (below p ps) p first so_far is_first (is ∙ ap (λ (l : List ℕ). now ++ l) (cond-true (has ps p) (cond first (decimal p) (behind p)) [] member))
          ∙ ap (λ (l : List ℕ). old ++ comma_text l) (sym (below-member p ps places.rise member))
      | inr other ↦
          is ∙ ap (λ (l : List ℕ). now ++ l) (cond-false (has ps p) (cond first (decimal p) (behind p)) [] other)
          ∙ append-nil now ∙ so_far
          ∙ ap (λ (l : List ℕ). old ++ comma_text l) (sym (below-other p ps other))
    ]

    pub first-more : (p : ℕ) (first none : Bool) → IsPlaces ps → first ≡ eqb (length (below p ps)) 0 → none ≡ cond (has ps p) false first → none ≡ eqb (length (below (p + 1) ps)) 0
    first-more p first none places is_first is = elim (cases_Bool (has ps p)) [
      | inl member ↦
          is ∙ cond-true (has ps p) false first member
          ∙ sym (ne_eqb (length (below (p + 1) ps)) 0 (λ e. omega (arith, ap length (below-member p ps places.rise member), length-append (below p ps) (p ∷ []))))
      | inr other ↦
          is ∙ cond-false (has ps p) false first other ∙ is_first ∙ ap (λ (l : List ℕ). eqb (length l) 0) (sym (below-other p ps other))
    ]

    pub holders-all : (now : List ℕ) (n : ℕ) → 64 ≤ n → IsPlaces ps → now ≡ old ++ comma_text (below n ps) → now ≡ old ++ comma_text ps
    holders-all now n past places so_far =
        so_far ∙ ap (λ (l : List ℕ). old ++ comma_text l) (all-below n ps (λ k d lt. let small = places.below k d lt in omega arith))
