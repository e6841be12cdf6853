-- A number in its shortest spelling.
use Rattle.std.proofs.Common.{◌≡◌, ◌∙◌, ◌≤◌, ◌<◌, ◌+◌, ◌-◌, ◌*◌, ◌/◌, ◌%◌, ◌^◌, ℕ, zero, suc, ltb, List, [], ◌∷◌, ◌++◌, length, get_or, take, drop, refl, sym, ap, subst, append_assoc, length-append, add-zero, arith, inl, inr}
use Rattle.std.proofs.lemmas.Bool.{cases_lt, cond-true, cond-false, lt-ltb, le-ltb}
use Rattle.std.proofs.lemmas.List.{take_all}
use Rattle.gr_batch.specs.Spelling.{groups, limit, number_bytes}
use Rattle.gr_batch.specs.Reading.{IsFront, HasNoFront}
use Rattle.gr_batch.proofs.Apart.{IsApart}

pub groups-last : (k n : ℕ) → n < 128 → groups k n ≡ n ∷ []
groups-last zero n lt = refl
groups-last (suc k) n lt = cond-true (ltb n 128) _ _ (lt-ltb n 128 lt)

pub groups-more : (k n : ℕ) → 128 ≤ n → groups (suc k) n ≡ (n % 128 + 128) ∷ groups k (n / 128)
groups-more k n le = cond-false (ltb n 128) _ _ (le-ltb n 128 le)

-- some bytes are written, and the rest of the number completes them
pub record GoesOn (out : List ℕ) (rest : ℕ) (total : List ℕ) : Type 0 where
  pub left : ℕ
  pub below : rest < limit left
  pub so_far : out ++ groups left rest ≡ total

pub begins : (out : List ℕ) (n : ℕ) → n < 2 ^ 64 → GoesOn out n (out ++ number_bytes n)
unfolding number_bytes
begins out n lt = record { left = 9; below = lt; so_far = refl }

pub goes_on : (out : List ℕ) (rest : ℕ) (total : List ℕ) → 128 ≤ rest → GoesOn out rest total → GoesOn (out ++ (rest % 128 + 128) ∷ []) (rest / 128) total
goes_on out rest total le g = step g.left g.below g.so_far
  where
    step : (k : ℕ) → rest < limit k → out ++ groups k rest ≡ total → GoesOn (out ++ (rest % 128 + 128) ∷ []) (rest / 128) total
    step zero lt e = absurd (omega arith)
    step (suc k) lt e = record { left = k; below = omega arith; so_far = append_assoc out ((rest % 128 + 128) ∷ []) (groups k (rest / 128)) ∙ ap (λ (l : List ℕ). out ++ l) (sym (groups-more k rest le)) ∙ e }

pub is_whole : (out : List ℕ) (rest : ℕ) (total : List ℕ) → rest < 128 → GoesOn out rest total → out ++ rest ∷ [] ≡ total
is_whole out rest total lt g = ap (λ (l : List ℕ). out ++ l) (sym (groups-last g.left rest lt)) ∙ g.so_far

-- ---- reading one back

limit-rises : (k j : ℕ) → limit k ≤ limit (j + k)
limit-rises k zero = let e : 0 + k ≡ k = omega arith in omega (arith, ap limit e)
limit-rises k (suc j) = let e : suc j + k ≡ suc (j + k) = omega arith in omega (arith, limit-rises k j, ap limit e)

pub limit-le : (k : ℕ) → k ≤ 9 → limit k ≤ 2 ^ 64
limit-le k le =
    let e : 9 - k + k ≡ 9 = omega arith in
    let r : limit k ≤ limit 9 = subst (λ (n : ℕ). limit k ≤ limit n) e (limit-rises k (9 - k)) in
    r

-- no spelling begins another
pub groups-same : (k m n : ℕ) (xs ys : List ℕ) → m < limit k → n < limit k → groups k m ++ xs ≡ groups k n ++ ys → (m ≡ n) × (xs ≡ ys)
groups-same zero m n xs ys lm ln e = (cc, cc)
groups-same (suc k) m n xs ys lm ln e = elim (cases_lt m 128) [
  | inl low ↦ elim (cases_lt n 128) [
    | inl low' ↦
        let e' : m ∷ xs ≡ n ∷ ys = rw (groups-last (suc k) m low, groups-last (suc k) n low') at e in
        (cc, cc)
    | inr high' ↦
        let e' : m ∷ xs ≡ (n % 128 + 128) ∷ (groups k (n / 128) ++ ys) = rw (groups-last (suc k) m low, groups-more k n high') at e in
        let heads : m ≡ n % 128 + 128 = cc in
        absurd (omega arith)
  ]
  | inr high ↦ elim (cases_lt n 128) [
    | inl low' ↦
        let e' : (m % 128 + 128) ∷ (groups k (m / 128) ++ xs) ≡ n ∷ ys = rw (groups-more k m high, groups-last (suc k) n low') at e in
        let heads : m % 128 + 128 ≡ n = cc in
        absurd (omega arith)
    | inr high' ↦
        let e' : (m % 128 + 128) ∷ (groups k (m / 128) ++ xs) ≡ (n % 128 + 128) ∷ (groups k (n / 128) ++ ys) = rw (groups-more k m high, groups-more k n high') at e in
        let heads : m % 128 + 128 ≡ n % 128 + 128 = cc in
        let tails : groups k (m / 128) ++ xs ≡ groups k (n / 128) ++ ys = cc in
        let rest = groups-same k (m / 128) (n / 128) xs ys (omega arith) (omega arith) tails in
        (omega (arith, rest.0), rest.1)
  ]
]

pub is-front : (k n : ℕ) (bytes rest : List ℕ) → n < limit k → bytes ≡ groups k n ++ rest → IsFront (groups k) (λ m. m < limit k) bytes n rest
is-front k n bytes rest lt e = record { fits = lt; parts = e; only = λ m others lm e'. groups-same k n m rest others lt lm (sym e ∙ e') }

-- ---- by what stands first

pub first-rest : (bytes : List ℕ) → 1 ≤ length bytes → bytes ≡ get_or bytes 0 0 ∷ take (length bytes - 1) (drop 1 bytes)
first-rest [] le = absurd (omega arith)
first-rest (b ∷ bs) le =
    let e : length (b ∷ bs) - 1 ≡ length bs = omega arith in
    ap (λ (l : List ℕ). b ∷ l) (sym (ap (λ (n : ℕ). take n bs) e ∙ take_all (length bs) bs (omega arith)))

module _ (k j first : ℕ) (bytes rest : List ℕ) (next : suc j ≡ k) (e : bytes ≡ first ∷ rest) where
  pub last-front : first < 128 → IsFront (groups k) (λ m. m < limit k) bytes first rest
  last-front low =
      subst (λ (i : ℕ). IsFront (groups i) (λ m. m < limit i) bytes first rest) next
      (is-front (suc j) first bytes rest (omega (arith, limit-rises 0 j, ap limit (add-zero j))) (e ∙ ap (λ (l : List ℕ). l ++ rest) (sym (groups-last (suc j) first low))))

  pub more-front : (high : ℕ) (after : List ℕ) → 128 ≤ first → first < 256 → (high ≡ 0 → ⊥) → IsFront (groups j) (λ m. m < limit j) rest high after
      → IsFront (groups k) (λ m. m < limit k) bytes (128 * high + (first - 128)) after
  more-front high after marked byte some front =
      let n : ℕ = 128 * high + (first - 128) in
      let big : 128 ≤ n = omega arith in
      let heads : n % 128 + 128 ≡ first = omega arith in
      let tops : n / 128 ≡ high = omega arith in
      let fits = front.fits in
      let told : (n % 128 + 128) ∷ (groups j (n / 128) ++ after) ≡ first ∷ rest = ap (λ (h : ℕ). h ∷ (groups j (n / 128) ++ after)) heads ∙ ap (λ (l : List ℕ). first ∷ l) (ap (λ (h : ℕ). groups j h ++ after) tops ∙ sym front.parts) in
      subst (λ (i : ℕ). IsFront (groups i) (λ m. m < limit i) bytes n after) next
      (is-front (suc j) n bytes after (omega arith) (e ∙ sym told ∙ ap (λ (l : List ℕ). l ++ after) (sym (groups-more j n big))))

  pub no-more : 128 ≤ first → HasNoFront (groups j) (λ m. m < limit j) rest → HasNoFront (groups k) (λ m. m < limit k) bytes
  no-more marked none = subst (λ (i : ℕ). HasNoFront (groups i) (λ m. m < limit i) bytes) next none-so
    where
      none-so : HasNoFront (groups (suc j)) (λ m. m < limit (suc j)) bytes
      none-so n others lt e' = elim (cases_lt n 128) [
        | inl low ↦
            let e'' : bytes ≡ n ∷ others = rw (groups-last (suc j) n low) at e' in
            let heads : first ≡ n = cc in
            absurd (omega arith)
        | inr high ↦
            let e'' : bytes ≡ (n % 128 + 128) ∷ (groups j (n / 128) ++ others) = rw (groups-more j n high) at e' in
            none (n / 128) others (omega arith) (cc)
      ]

pub more-fits : (j high : ℕ) → suc j ≤ 9 → high < limit j → 128 * high + 127 < 2 ^ 64
more-fits j high le lt = omega (arith, limit-le (suc j) le)

-- ---- one number after another

groups-some : (k n : ℕ) → 1 ≤ length (groups k n)
groups-some zero n = omega arith
groups-some (suc k) n = elim (cases_lt n 128) [
  | inl low ↦ rw (groups-last (suc k) n low) (omega arith)
  | inr high ↦ rw (groups-more k n high) (omega arith)
]

pub shorter : (n : ℕ) (bytes rest : List ℕ) → bytes ≡ number_bytes n ++ rest → length rest < length bytes
unfolding number_bytes
shorter n bytes rest e = omega (arith, groups-some 9 n, ap length e, length-append (groups 9 n) rest)

abbrev pub IsWord : ℕ → Type 0
IsWord n = n < 2 ^ 64

pub numbers-apart : IsApart number_bytes IsWord
unfolding number_bytes
numbers-apart = record { same = λ m n xs ys lm ln e. groups-same 9 m n xs ys lm ln e }
