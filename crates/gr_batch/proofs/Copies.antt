-- A copy at the front of a list of numbers.
use Rattle.std.proofs.Common.{◌≡◌, ◌≢◌, ◌∙◌, ◌<◌, ◌^◌, ℕ, suc, Bool, true, false, cond, List, [], ◌∷◌, ◌++◌, All, Option, refl, sym, ap, append_assoc, inl, inr, arith}
use Rattle.std.specs.Prelude.{⊤}
use Rattle.std.proofs.lemmas.Bool.{cases_eq, ne_eqb}
use Rattle.gr_base.specs.Places.{IsPlaces, word_of}
use Rattle.gr_base.specs.Rising.{has}
use Rattle.gr_program.specs.declared.copy.VertexCopy.{VertexCopy}
use Rattle.gr_batch.specs.CopyNumbers.{value_told, copy_told}
use Rattle.gr_batch.specs.Spelling.{IsGranted}
use Rattle.gr_batch.specs.Reading.{IsFront, HasNoFront}
use Rattle.gr_batch.proofs.Words.{word_of-same}

has-below : (n : ℕ) (ps : List ℕ) (p : ℕ) → All (λ q. q < n) ps → has ps p ≡ true → p < n
has-below n [] p low h = absurd cc
has-below n (q ∷ qs) p low h = elim (cases_eq q p) [
  | inl at ↦ let lt : q < n = low 0 q (omega arith) in omega arith
  | inr apart ↦ has-below n qs p (λ i d l. low (suc i) d (omega arith)) (rw (ne_eqb q p apart) at h)
]

pub marks-same : (a b : Bool) → cond a 1 0 ≡ cond {A = ℕ} b 1 0 → a ≡ b
marks-same true true e = refl
marks-same true false e = absurd (omega arith)
marks-same false true e = absurd (omega arith)
marks-same false false e = refl

same-copy : {V : Type 0} (v v' i i' o o' m m' : ℕ) (ps ps' : List ℕ) (x x' : Option V) (d d' : Bool) → v ≡ v' → i ≡ i' → o ≡ o' → m ≡ m' → ps ≡ ps' → x ≡ x' → d ≡ d'
    → ◌≡◌ {A = VertexCopy V} (record { vertex = v; indeg = i; outdeg = o; master = m; holders = ps; value = x; due = d }) (record { vertex = v'; indeg = i'; outdeg = o'; master = m'; holders = ps'; value = x'; due = d' })
same-copy v v' i i' o o' m m' ps ps' x x' d d' a b c e p q r = cc

-- numbers one after another
pub three : (v i o : ℕ) (a b c d : List ℕ) → a ≡ v ∷ b → b ≡ i ∷ c → c ≡ o ∷ d → a ≡ v ∷ i ∷ o ∷ d
three v i o a b c d p q r = cc

pub five : (v i o m w : ℕ) (a b c d e f : List ℕ) → a ≡ v ∷ b → b ≡ i ∷ c → c ≡ o ∷ d → d ≡ m ∷ e → e ≡ w ∷ f → a ≡ v ∷ i ∷ o ∷ m ∷ w ∷ f
five v i o m w a b c d e f p q r s t = cc

module _ {V : Type 0} (f : V → List ℕ) where
  pub granted-master : (c : VertexCopy V) → IsGranted c → c.master < 64
  granted-master c h = has-below 64 c.holders c.master h.holders.below h.master

  -- what stands behind a copy's value
  pub behind : (c : VertexCopy V) (others : List ℕ) → (value_told f c.value ++ cond c.due 1 0 ∷ []) ++ others ≡ value_told f c.value ++ (cond c.due 1 0 ∷ others)
  behind c others = append_assoc (value_told f c.value) (cond c.due 1 0 ∷ []) others

  module _ (numbers : List ℕ) (v i o : ℕ) where
    pub no-master : (rest : List ℕ) → numbers ≡ v ∷ i ∷ o ∷ rest → ((n : ℕ) (later : List ℕ) → n < 64 → rest ≢ n ∷ later) → HasNoFront (copy_told f) IsGranted numbers
    no-master rest parts none y others fits e =
        let tails : rest ≡ y.master ∷ (word_of y.holders ∷ ((value_told f y.value ++ cond y.due 1 0 ∷ []) ++ others)) = cc in
        none y.master (word_of y.holders ∷ ((value_told f y.value ++ cond y.due 1 0 ∷ []) ++ others)) (granted-master y fits) tails

    module _ (m w : ℕ) (ps : List ℕ) (rest : List ℕ) (parts : numbers ≡ v ∷ i ∷ o ∷ m ∷ w ∷ rest) (places : IsPlaces ps) (word : word_of ps ≡ w) where
      same-places : (y : VertexCopy V) (others : List ℕ) → IsGranted y → numbers ≡ copy_told f y ++ others → ps ≡ y.holders
      same-places y others fits e =
          let words : w ≡ word_of y.holders = cc in
          word_of-same ps y.holders places fits.holders (word ∙ words)

      pub not-held : has ps m ≡ false → HasNoFront (copy_told f) IsGranted numbers
      not-held off y others fits e =
          let masters : m ≡ y.master = cc in
          let on : has y.holders y.master ≡ true = fits.master in
          let holders = same-places y others fits e in
          let same : has ps m ≡ has y.holders y.master = ap (λ (qs : List ℕ). has qs m) holders ∙ ap (has y.holders) masters in
          cc

      module _ (x : Option V) (after : List ℕ) (front : IsFront (value_told f) (λ _. ⊤) rest x after) where
        tails : (y : VertexCopy V) (others : List ℕ) → numbers ≡ copy_told f y ++ others → (x ≡ y.value) × (after ≡ cond y.due 1 0 ∷ others)
        tails y others e =
            let left : rest ≡ (value_told f y.value ++ cond y.due 1 0 ∷ []) ++ others = cc in
            front.only y.value (cond y.due 1 0 ∷ others) tt (left ∙ behind y others)

        pub no-due : ((b : Bool) (later : List ℕ) → after ≢ cond b 1 0 ∷ later) → HasNoFront (copy_told f) IsGranted numbers
        no-due none y others fits e = none y.due others (tails y others e).1

        pub copy-front : (d : Bool) (end : List ℕ) → after ≡ cond d 1 0 ∷ end → v < 2 ^ 32 → i < 2 ^ 32 → o < 2 ^ 32 → has ps m ≡ true
            → IsFront (copy_told f) IsGranted numbers (record { vertex = v; indeg = i; outdeg = o; master = m; holders = ps; value = x; due = d }) end
        copy-front d end mark lv li lo held =
            let whole : rest ≡ (value_told f x ++ cond d 1 0 ∷ []) ++ end = front.parts ∙ ap (λ (l : List ℕ). value_told f x ++ l) mark ∙ sym (append_assoc (value_told f x) (cond d 1 0 ∷ []) end) in
            record {
              fits = record { vertex = lv; indeg = li; outdeg = lo; holders = places; master = held };
              parts = rw word (parts ∙ ap (λ (l : List ℕ). v ∷ i ∷ o ∷ m ∷ w ∷ l) whole);
              only = λ y others fits e.
                  let t = tails y others e in
                  let marks : cond d 1 0 ∷ end ≡ cond {A = ℕ} y.due 1 0 ∷ others = sym mark ∙ t.1 in
                  let dues : d ≡ y.due = marks-same d y.due (cc) in
                  let holders : ps ≡ y.holders = same-places y others fits e in
                  let vertices : v ≡ y.vertex = cc in
                  let indegs : i ≡ y.indeg = cc in
                  let outdegs : o ≡ y.outdeg = cc in
                  let masters : m ≡ y.master = cc in
                  (same-copy v y.vertex i y.indeg o y.outdeg m y.master ps y.holders x y.value d y.due vertices indegs outdegs masters holders t.0 dues, cc);
            }
