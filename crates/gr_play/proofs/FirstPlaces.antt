-- The first places of a set, found place by place.
use Rattle.std.proofs.Common.{◌≡◌, ◌<◌, ◌≤◌, ◌+◌, ◌-◌, ℕ, List, [], ◌∷◌, ◌++◌, true, false, ◌==◌, ◌||◌, nat_lt, refl, sym, ap, ◌∙◌, arith, length, filter, take, lt-ltb, ltb-true, ltb-false, eqb-true, eq-eqb}
use Rattle.std.specs.List.{AllByRecursion as Each}
use Rattle.std.proofs.lemmas.Bool.{le-ltb, ne_eqb}
use Rattle.std.proofs.lemmas.List.{length-append, take_all, take-append-le}
use Rattle.std.proofs.lemmas.List.Elements.{recursion_from_All}
use Rattle.gr_base.specs.Rising.{RisesBy, has}
use Rattle.gr_base.specs.Places.{with_place}
use Rattle.gr_base.proofs.Rising.{rises-tail, rises-head}
use Rattle.gr_lists.proofs.Each.{Each-weaker}
use Rattle.gr_lists.proofs.Tests.{by_test}

-- those below p
abbrev pub firsts : ℕ → List ℕ → List ℕ
firsts p ps = filter (λ q. nat_lt q p) ps

firsts-none : (p : ℕ) (ps : List ℕ) → Each (λ q. p ≤ q) ps → firsts p ps ≡ []
firsts-none p [] h = refl
firsts-none p (q ∷ qs) h = rw (le-ltb q p h.0) (firsts-none p qs h.1)

has-none : (p : ℕ) (ps : List ℕ) → Each (λ q. p < q) ps → has ps p ≡ false
has-none p [] h = refl
has-none p (q ∷ qs) h = let lt = h.0 in rw (ne_eqb q p (λ e. omega (arith, lt, e))) (has-none p qs h.1)

pub firsts-start : (ps : List ℕ) → firsts 0 ps ≡ []
firsts-start [] = refl
firsts-start (q ∷ qs) = rw (le-ltb q 0 (omega arith)) (firsts-start qs)

-- the next place is among them, or not
pub firsts-more : (p : ℕ) (ps : List ℕ) → RisesBy (λ (v : ℕ). v) ps → has ps p ≡ true → firsts (p + 1) ps ≡ firsts p ps ++ p ∷ []
firsts-more p [] r m = absurd (let bad : false ≡ true = m in cc)
firsts-more p (q ∷ qs) r m =
    let later = recursion_from_All (λ z. q < z) qs (rises-head (λ (v : ℕ). v) q qs r) in
    by_test (q == p)
    (λ e.
    let same = eqb-true q p e in
    rw (lt-ltb q (p + 1) (omega (arith, same)), le-ltb q p (omega (arith, same)))
    ((λ i. same i ∷ firsts-none (p + 1) qs (Each-weaker (λ z. q < z) (λ z. p + 1 ≤ z) (λ z lt. omega (arith, lt, same)) qs later) i)
    ∙ ap (λ l. l ++ p ∷ []) (sym (firsts-none p qs (Each-weaker (λ z. q < z) (λ z. p ≤ z) (λ z lt. omega (arith, lt, same)) qs later)))))
    (λ apart.
    let here : has qs p ≡ true = sym (ap (λ b. b || has qs p) apart) ∙ m in
    by_test (nat_lt q p)
    (λ y. let lt = ltb-true q p y in rw (y, lt-ltb q (p + 1) (omega (arith, lt))) (ap (λ l. q ∷ l) (firsts-more p qs (rises-tail (λ (v : ℕ). v) q qs r) here)))
    (λ n. let le = ltb-false q p n in absurd (let bad : false ≡ true = sym (has-none p qs (Each-weaker (λ z. q < z) (λ z. p < z) (λ z lt. omega (arith, lt, le)) qs later)) ∙ here in cc)))

pub firsts-same : (p : ℕ) (ps : List ℕ) → has ps p ≡ false → firsts (p + 1) ps ≡ firsts p ps
firsts-same p [] m = refl
firsts-same p (q ∷ qs) m = by_test (q == p)
    (λ e. absurd (let bad : true ≡ false = sym (ap (λ b. b || has qs p) e) ∙ m in cc))
    (λ apart.
    let rest = firsts-same p qs (sym (ap (λ b. b || has qs p) apart) ∙ m) in
    by_test (nat_lt q p)
    (λ y. let lt = ltb-true q p y in rw (y, lt-ltb q (p + 1) (omega (arith, lt))) (ap (λ l. q ∷ l) rest))
    (λ n. let le = ltb-false q p n in rw (n, le-ltb q (p + 1) (past q le apart)) rest))
  where
    past : (q : ℕ) → p ≤ q → (q == p) ≡ false → p + 1 ≤ q
    past q le apart = by_test (nat_lt p q)
        (λ y. let lt = ltb-true p q y in omega (arith, lt))
        (λ n. let ge = ltb-false p q n in let e : q ≡ p = omega (arith, le, ge) in absurd (let bad : true ≡ false = sym (eq-eqb q p e) ∙ apart in cc))

pub firsts-all : (n : ℕ) (ps : List ℕ) → Each (λ q. q < n) ps → firsts n ps ≡ ps
firsts-all n [] h = refl
firsts-all n (q ∷ qs) h = rw (lt-ltb q n h.0) (ap (λ l. q ∷ l) (firsts-all n qs h.1))

-- a place above all others is put at the end
with_place-end : (xs : List ℕ) (p : ℕ) → Each (λ q. q < p) xs → with_place xs p ≡ xs ++ p ∷ []
with_place-end [] p h = refl
with_place-end (x ∷ xs) p h = let lt = h.0 in rw (le-ltb p x (omega (arith, lt)), lt-ltb x p lt) (ap (λ l. x ∷ l) (with_place-end xs p h.1))

firsts-below : (p : ℕ) (ps : List ℕ) → Each (λ q. q < p) (firsts p ps)
firsts-below p [] = tt
firsts-below p (q ∷ qs) = by_test (nat_lt q p) (λ y. rw y (ltb-true q p y, firsts-below p qs)) (λ n. rw n (firsts-below p qs))

module _ (count p : ℕ) (ps : List ℕ) (rise : RisesBy (λ (v : ℕ). v) ps) (m : has ps p ≡ true) where
  -- one more is taken as long as some are left
  pub take-firsts_more : 0 < count - length (firsts p ps) → with_place (take count (firsts p ps)) p ≡ take count (firsts (p + 1) ps)
  take-firsts_more some =
      let xs = firsts p ps in
      let long : length (xs ++ p ∷ []) ≡ length xs + 1 = length-append xs (p ∷ []) in
      ap (λ l. with_place l p) (take_all count xs (omega (arith, some)))
      ∙ (with_place-end xs p (firsts-below p ps)
      ∙ (sym (take_all count (xs ++ p ∷ []) (omega (arith, some, long))) ∙ ap (take count) (sym (firsts-more p ps rise m))))

  pub take-firsts_full : count - length (firsts p ps) ≡ 0 → take count (firsts p ps) ≡ take count (firsts (p + 1) ps)
  take-firsts_full none = sym (take-append-le count (firsts p ps) (p ∷ []) (omega (arith, none))) ∙ ap (take count) (sym (firsts-more p ps rise m))

  pub length-firsts_more : length (firsts (p + 1) ps) ≡ length (firsts p ps) + 1
  length-firsts_more = ap length (firsts-more p ps rise m) ∙ length-append (firsts p ps) (p ∷ [])
