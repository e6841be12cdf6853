-- A set of places and its word, place by place.
use Rattle.std.proofs.Common.{◌≡◌, ◌∙◌, ◌≤◌, ◌<◌, ◌+◌, ◌*◌, ◌/◌, ◌%◌, ◌^◌, ℕ, zero, suc, Bool, true, false, cond, List, [], ◌∷◌, ◌++◌, All, refl, sym, ap, add-one, arith, inl, inr}
use Rattle.std.proofs.lemmas.Bool.{cases_Bool, cases_eq, lt-ltb, le-ltb, cond-true, cond-false}
use Rattle.std.proofs.lemmas.Nat.{pow-add, one_shl}
use Rattle.std.proofs.Math.Nat.{pow-le-pow_right}
use Rattle.std.proofs.lemmas.List.Elements.{All-cons, All-append}
use Rattle.gr_base.specs.Places.{with_place, word_of, IsPlaces}
use Rattle.gr_base.specs.PlaceBits.{members_from}
use Rattle.gr_base.specs.Rising.{RisesBy, has}
use Rattle.gr_base.proofs.Members.{members_on, members_off, members_nil, members_same}
use Rattle.gr_base.proofs.PlaceSets.{places-has}
use Rattle.gr_base.proofs.Rising.{rises-nil}
use Rattle.gr_batch.proofs.Lists.{rises-last}

double : (a : ℕ) → 2 ^ (a + 1) ≡ 2 * 2 ^ a
double a = omega (arith, pow-add 2 a 1)

-- one place more
pub word_of-next : (f : ℕ → Bool) (a k : ℕ) → word_of (members_from f a (suc k)) ≡ word_of (members_from f a k) + cond (f (a + k)) (2 ^ (a + k)) 0
word_of-next f a zero = elim (cases_Bool (f a)) [
  | inl on ↦ let e : a + 0 ≡ a = omega arith in rw (members_on f a zero on, members_nil f (a + 1), members_nil f a, e, on) (omega arith)
  | inr off ↦ let e : a + 0 ≡ a = omega arith in rw (members_off f a zero off, members_nil f (a + 1), members_nil f a, e, off) refl
]
word_of-next f a (suc k) =
    let rest = word_of-next f (a + 1) k in
    let e : a + 1 + k ≡ a + suc k = omega arith in
    let next : word_of (members_from f (a + 1) (suc k)) ≡ word_of (members_from f (a + 1) k) + cond (f (a + suc k)) (2 ^ (a + suc k)) 0 = rest ∙ ap (λ (n : ℕ). word_of (members_from f (a + 1) k) + cond (f n) (2 ^ n) 0) e in
    elim (cases_Bool (f a)) [
      | inl on ↦ omega (arith, next, ap word_of (members_on f a (suc k) on), ap word_of (members_on f a k on))
      | inr off ↦ omega (arith, next, ap word_of (members_off f a (suc k) off), ap word_of (members_off f a k off))
    ]

-- it stays below the next place's bit
word_of-within : (f : ℕ → Bool) (a k : ℕ) → word_of (members_from f a k) + 2 ^ a ≤ 2 ^ (a + k)
word_of-within f a zero = let e : 2 ^ (a + 0) ≡ 2 ^ a = ap (λ (n : ℕ). 2 ^ n) (omega arith) in omega (arith, e, ap word_of (members_nil f a))
word_of-within f a (suc k) =
    let rest = word_of-within f (a + 1) k in
    let e : 2 ^ (a + 1 + k) ≡ 2 ^ (a + suc k) = ap (λ (n : ℕ). 2 ^ n) (omega arith) in
    elim (cases_Bool (f a)) [
      | inl on ↦ omega (arith, rest, e, double a, ap word_of (members_on f a k on))
      | inr off ↦ omega (arith, rest, e, double a, ap word_of (members_off f a k off))
    ]

-- the word of the places below p, with the bit of p or without it
module _ (f : ℕ → Bool) (p : ℕ) where
  next : word_of (members_from f 0 (p + 1)) ≡ word_of (members_from f 0 p) + cond (f p) (2 ^ p) 0
  next =
      let e : 0 + p ≡ p = omega arith in
      ap (λ (n : ℕ). word_of (members_from f 0 n)) (add-one p) ∙ word_of-next f 0 p ∙ ap (λ (n : ℕ). word_of (members_from f 0 p) + cond (f n) (2 ^ n) 0) e

  pub word-fits : p < 64 → word_of (members_from f 0 p) + 2 ^ p < 2 ^ 64
  word-fits lt =
      let e : 2 ^ (0 + p) ≡ 2 ^ p = ap (λ (n : ℕ). 2 ^ n) (omega arith) in
      let most : 2 ^ (p + 1) ≤ 2 ^ 64 = pow-le-pow_right (omega arith) {i = p + 1} {j = 64} (omega arith) in
      omega (arith, word_of-within f 0 p, e, most, double p)

  pub word-with : (word : ℕ) → p < 64 → word ≡ word_of (members_from f 0 p) → f p ≡ true → word + 1 * 2 ^ p % 2 ^ 64 ≡ word_of (members_from f 0 (p + 1))
  word-with word lt so_far on =
      let bit : cond (f p) (2 ^ p) 0 ≡ 2 ^ p = cond-true (f p) (2 ^ p) 0 on in
      omega (arith, next, bit, one_shl p 64 lt, so_far)

  pub word-without : f p ≡ false → word_of (members_from f 0 (p + 1)) ≡ word_of (members_from f 0 p)
  word-without off =
      let bit : cond (f p) (2 ^ p) 0 ≡ 0 = cond-false (f p) (2 ^ p) 0 off in
      omega (arith, next, bit)

-- the places of the low p bits of a word, and the rest of it
pub record Holds (word : ℕ) (ps : List ℕ) (rest p : ℕ) : Type 0 where
  pub rise : RisesBy (λ (q : ℕ). q) ps
  pub below : All (λ q. q < p) ps
  pub parts : word_of ps + rest * 2 ^ p ≡ word

pub holds-start : (word : ℕ) → Holds word [] word 0
holds-start word = record { rise = rises-nil (λ (q : ℕ). q); below = λ i d l. absurd (omega arith); parts = omega arith }

with_place-last : (ps : List ℕ) (p : ℕ) → All (λ q. q < p) ps → with_place ps p ≡ ps ++ p ∷ []
with_place-last [] p low = refl
with_place-last (q ∷ qs) p low =
    let lt : q < p = low 0 q (omega arith) in
    rw (le-ltb p q (omega arith), lt-ltb q p lt) (ap (λ (rest : List ℕ). q ∷ rest) (with_place-last qs p (λ i d l. low (suc i) d (omega arith))))

word_of-last : (ps : List ℕ) (p : ℕ) → word_of (ps ++ p ∷ []) ≡ word_of ps + 2 ^ p
word_of-last [] p = omega arith
word_of-last (q ∷ qs) p = omega (arith, word_of-last qs p)

halves : (rest e : ℕ) → rest * e ≡ rest / 2 * (2 * e) + rest % 2 * e
halves rest e =
    let whole : rest ≡ rest / 2 * 2 + rest % 2 = omega arith in
    let product : rest * e ≡ (rest / 2 * 2 + rest % 2) * e = ap (λ (n : ℕ). n * e) whole in
    omega (arith, product)

module _ (word : ℕ) (ps : List ℕ) (rest p : ℕ) (h : Holds word ps rest p) where
  pub holds-on : rest % 2 ≡ 1 → Holds word (with_place ps p) (rest / 2) (p + 1)
  holds-on odd =
      let last = with_place-last ps p h.below in
      let once : rest % 2 * 2 ^ p ≡ 2 ^ p = ap (λ (n : ℕ). n * 2 ^ p) odd ∙ omega arith in
      let more : rest / 2 * 2 ^ (p + 1) ≡ rest / 2 * (2 * 2 ^ p) = ap (λ (e : ℕ). rest / 2 * e) (double p) in
      record {
        rise = rw last (rises-last (λ (q : ℕ). q) ps p h.rise h.below);
        below = rw last (All-append (λ q. q < p + 1) ps (p ∷ []) (λ i d l. let q = h.below i d l in omega arith) (All-cons (λ q. q < p + 1) p [] (omega arith) (λ i d l. absurd (omega arith))));
        parts = omega (arith, ap word_of last, word_of-last ps p, h.parts, halves rest (2 ^ p), once, more);
      }

  pub holds-off : (rest % 2 ≡ 1 → ⊥) → Holds word ps (rest / 2) (p + 1)
  holds-off even =
      let none : rest % 2 ≡ 0 = omega arith in
      let gone : rest % 2 * 2 ^ p ≡ 0 = ap (λ (n : ℕ). n * 2 ^ p) none ∙ omega arith in
      let more : rest / 2 * 2 ^ (p + 1) ≡ rest / 2 * (2 * 2 ^ p) = ap (λ (e : ℕ). rest / 2 * e) (double p) in
      record {
        rise = h.rise;
        below = λ i d l. let q = h.below i d l in omega arith;
        parts = omega (arith, h.parts, halves rest (2 ^ p), gone, more);
      }

pub holds-end : (word : ℕ) (ps : List ℕ) (rest p : ℕ) → p ≡ 64 → word < 2 ^ 64 → Holds word ps rest p → IsPlaces ps × (word_of ps ≡ word)
holds-end word ps rest p end lt h =
    let parts : word_of ps + rest * 2 ^ 64 ≡ word = ap (λ (n : ℕ). word_of ps + rest * 2 ^ n) (sym end) ∙ h.parts in
    (record { rise = h.rise; below = λ i d l. let q = h.below i d l in omega arith }, omega (arith, parts))

-- a word is that of one set
same-bits : (f g : ℕ → Bool) (k : ℕ) → word_of (members_from f 0 k) ≡ word_of (members_from g 0 k) → (q : ℕ) → q < k → f q ≡ g q
same-bits f g zero same q lt = absurd (omega arith)
same-bits f g (suc k) same q lt =
    let e : 0 + k ≡ k = omega arith in
    let mine = word_of-next f 0 k in
    let theirs = word_of-next g 0 k in
    let low : word_of (members_from f 0 k) + 1 ≤ 2 ^ (0 + k) = word_of-within f 0 k in
    let low' : word_of (members_from g 0 k) + 1 ≤ 2 ^ (0 + k) = word_of-within g 0 k in
    let top = tops (f (0 + k)) (g (0 + k)) (word_of (members_from f 0 k)) (word_of (members_from g 0 k)) (2 ^ (0 + k)) low low' (sym mine ∙ same ∙ theirs) in
    elim (cases_eq q k) [
      | inl at ↦ let here : f (0 + k) ≡ g (0 + k) = top.0 in ap f (at ∙ sym e) ∙ here ∙ ap g (e ∙ sym at)
      | inr apart ↦ same-bits f g k top.1 q (omega arith)
    ]
  where
    tops : (b c : Bool) (m n e : ℕ) → m + 1 ≤ e → n + 1 ≤ e → m + cond b e 0 ≡ n + cond c e 0 → (b ≡ c) × (m ≡ n)
    tops true true m n e lm ln same = (refl, omega arith)
    tops true false m n e lm ln same = absurd (omega arith)
    tops false true m n e lm ln same = absurd (omega arith)
    tops false false m n e lm ln same = (refl, omega arith)

pub word_of-same : (ps qs : List ℕ) → IsPlaces ps → IsPlaces qs → word_of ps ≡ word_of qs → ps ≡ qs
word_of-same ps qs hp hq same =
    let words : word_of (members_from (has ps) 0 64) ≡ word_of (members_from (has qs) 0 64) = ap word_of (places-has ps hp) ∙ same ∙ ap word_of (sym (places-has qs hq)) in
    sym (places-has ps hp) ∙ members_same (has ps) (has qs) 0 64 (λ q low high. same-bits (has ps) (has qs) 64 words q (omega arith)) ∙ places-has qs hq
