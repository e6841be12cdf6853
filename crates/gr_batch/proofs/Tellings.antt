-- The tellings of values, items and batches, none of which begins another.
use Rattle.std.proofs.Common.{◌≡◌, ◌∙◌, ℕ, Bool, cond, List, [], ◌∷◌, ◌++◌, length, Option, Some, None, refl, sym, ap, append_assoc, length-append, arith, inl, inr}
use Rattle.std.specs.Prelude.{⊤}
use Rattle.std.specs.List.{flat_map}
use Rattle.std.proofs.lemmas.List.{append-nil, nil_from_length}
use Rattle.gr_base.specs.Places.{word_of}
use Rattle.gr_batch.specs.declared.body.Part.{Part}
use Rattle.gr_batch.specs.declared.body.NewValue.{NewValue}
use Rattle.gr_batch.specs.declared.body.Body.{Body}
use Rattle.gr_batch.specs.declared.body.Body.TheVariants as body
use Rattle.gr_batch.specs.declared.batch.Batch.{Batch}
use Rattle.gr_batch.specs.Stages.{code_of}
use Rattle.gr_batch.specs.Bodies.{stage_of_body}
use Rattle.gr_batch.specs.Telling.{Telling}
use Rattle.gr_batch.specs.CopyNumbers.{value_told, copy_told}
use Rattle.gr_batch.specs.Spelling.{number_bytes, body_numbers, batch_numbers, batch_bytes, IsShort, IsGranted, AreItems, AreSpelled, IsSpelled, NoSpellingBeginsAnother}
use Rattle.gr_batch.specs.Reading.{IsFront}
use Rattle.gr_batch.proofs.Apart.{IsApart, GoesOn, one-goes_on}
use Rattle.gr_batch.proofs.Copies.{marks-same, behind, copy-front}
use Rattle.gr_batch.proofs.Lists.{flat_map-single}
use Rattle.gr_batch.proofs.Numbers.{IsWord, numbers-apart}

-- two fronts of one length
fronts-same : (a b r s : List ℕ) → length a ≡ length b → a ++ r ≡ b ++ s → (a ≡ b) × (r ≡ s)
fronts-same [] [] r s len e = (refl, e)
fronts-same [] (y ∷ b) r s len e = absurd (omega arith)
fronts-same (x ∷ a) [] r s len e = absurd (omega arith)
fronts-same (x ∷ a) (y ∷ b) r s len e =
    let heads : x ≡ y = cc in
    let rest = fronts-same a b r s (omega arith) (cc) in
    (ap (λ (z : ℕ). z ∷ a) heads ∙ ap (λ (l : List ℕ). y ∷ l) rest.0, rest.1)

-- what a datum's laws say of its numbers
pub record IsDatum {X : Type 0} (told : X → List ℕ) (width : ℕ) : Type 0 where
  pub same : (x y : X) → told x ≡ told y → x ≡ y
  pub width_of : (x : X) → length (told x) ≡ width

module _ {X : Type 0} (told : X → List ℕ) (width : ℕ) (datum : IsDatum told width) where
  datum-apart : IsApart told (λ _. ⊤)
  datum-apart = record {
    same = λ x y r s fx fy e.
        let fronts = fronts-same (told x) (told y) r s (datum.width_of x ∙ sym (datum.width_of y)) e in
        (datum.same x y fronts.0, fronts.1);
  }

  value-apart : IsApart (value_told told) (λ _. ⊤)
  value-apart = record { same = at }
    where
      at : (x y : Option X) (r s : List ℕ) → ⊤ → ⊤ → value_told told x ++ r ≡ value_told told y ++ s → (x ≡ y) × (r ≡ s)
      at None None r s fx fy e = (refl, cc)
      at None (Some y) r s fx fy e = absurd cc
      at (Some x) None r s fx fy e = absurd cc
      at (Some x) (Some y) r s fx fy e =
          let same = datum-apart.same x y r s tt tt (cc) in
          (ap (λ (z : X). Some z) same.0, same.1)

  part-apart : IsApart {X = Part X} (λ x. x.vertex ∷ told x.acc) (λ x. IsShort x.vertex)
  part-apart = record {
    same = λ x y r s fx fy e.
        let vertices : x.vertex ≡ y.vertex = cc in
        let tails : told x.acc ++ r ≡ told y.acc ++ s = cc in
        let sums = datum-apart.same x.acc y.acc r s tt tt tails in
        (parts x.vertex y.vertex x.acc y.acc vertices sums.0, sums.1);
  }
    where
      parts : (v w : ℕ) (a b : X) → v ≡ w → a ≡ b → ◌≡◌ {A = Part X} (record { vertex = v; acc = a }) (record { vertex = w; acc = b })
      parts v w a b p q = cc

  new_value-apart : IsApart {X = NewValue X} (λ x. x.vertex ∷ (told x.value ++ cond x.wake 1 0 ∷ [])) (λ x. IsShort x.vertex)
  new_value-apart = record {
    same = λ x y r s fx fy e.
        let vertices : x.vertex ≡ y.vertex = cc in
        let tails : (told x.value ++ cond x.wake 1 0 ∷ []) ++ r ≡ (told y.value ++ cond y.wake 1 0 ∷ []) ++ s = cc in
        let values = datum-apart.same x.value y.value (cond x.wake 1 0 ∷ r) (cond y.wake 1 0 ∷ s) tt tt (sym (append_assoc (told x.value) (cond x.wake 1 0 ∷ []) r) ∙ tails ∙ append_assoc (told y.value) (cond y.wake 1 0 ∷ []) s) in
        let marks = values.1 in
        let wakes : x.wake ≡ y.wake = marks-same x.wake y.wake (cc) in
        (new_values x.vertex y.vertex x.value y.value x.wake y.wake vertices values.0 wakes, cc);
  }
    where
      new_values : (v w : ℕ) (a b : X) (p q : Bool) → v ≡ w → a ≡ b → p ≡ q → ◌≡◌ {A = NewValue X} (record { vertex = v; value = a; wake = p }) (record { vertex = w; value = b; wake = q })
      new_values v w a b p q i j k = cc

  copy-apart : IsApart (copy_told told) IsGranted
  copy-apart = record {
    same = λ x y r s fx fy e.
        let after : List ℕ = cond x.due 1 0 ∷ r in
        let rest : List ℕ = (value_told told x.value ++ cond x.due 1 0 ∷ []) ++ r in
        let front : IsFront (value_told told) (λ _. ⊤) rest x.value after = record {
          fits = tt;
          parts = behind told x r;
          only = λ v others fits is. value-apart.same x.value v after others tt tt (sym (behind told x r) ∙ is);
        } in
        (copy-front told (copy_told told x ++ r) x.vertex x.indeg x.outdeg x.master (word_of x.holders) x.holders rest refl fx.holders refl x.value after front x.due r refl fx.vertex fx.indeg fx.outdeg fx.master).only y s fy e;
  }

bare-apart : IsApart (λ (v : ℕ). v ∷ []) IsShort
bare-apart = record { same = λ v w r s fv fw e. (cc, cc) }

module _ {X : Type 0} (told : X → List ℕ) (key : X → ℕ) (Fits : X → Type 0) (apart : IsApart told Fits) where
  no-more : (xs ys : List X) (r s : List ℕ) → length xs ≡ length ys → GoesOn told Fits xs ys r s → (xs ≡ ys) × (r ≡ s)
  no-more xs ys r s len g =
      let none : g.more ≡ [] = nil_from_length g.more (omega (arith, ap length g.items, length-append xs g.more)) in
      (sym (g.items ∙ ap (λ (l : List X). xs ++ l) none ∙ append-nil xs), g.numbers ∙ ap (λ (l : List X). flat_map told l ++ s) none)

  items-apart : (xs ys : List X) (r s : List ℕ) → AreItems key Fits xs → AreItems key Fits ys → (length xs ∷ flat_map told xs) ++ r ≡ (length ys ∷ flat_map told ys) ++ s → (xs ≡ ys) × (r ≡ s)
  items-apart xs ys r s hx hy e =
      let len : length xs ≡ length ys = cc in
      let tails : flat_map told xs ++ r ≡ flat_map told ys ++ s = cc in
      elim (one-goes_on told Fits apart xs ys r s hx.each hy.each tails) [
        | inl g ↦ no-more xs ys r s len g
        | inr g ↦ let same = no-more ys xs s r (sym len) g in (sym same.0, sym same.1)
      ]

vertices-apart : (xs ys r s : List ℕ) → AreItems (λ v. v) IsShort xs → AreItems (λ v. v) IsShort ys → (length xs ∷ xs) ++ r ≡ (length ys ∷ ys) ++ s → (xs ≡ ys) × (r ≡ s)
vertices-apart xs ys r s hx hy e =
    let told : (length xs ∷ flat_map (λ (v : ℕ). v ∷ []) xs) ++ r ≡ (length ys ∷ flat_map (λ (v : ℕ). v ∷ []) ys) ++ s = ap (λ (l : List ℕ). (length xs ∷ l) ++ r) (flat_map-single xs) ∙ e ∙ ap (λ (l : List ℕ). (length ys ∷ l) ++ s) (sym (flat_map-single ys)) in
    items-apart (λ (v : ℕ). v ∷ []) (λ (v : ℕ). v) IsShort bare-apart xs ys r s hx hy told

module _ {V A : Type 0} (T : Telling V A) (m n : ℕ) (values : IsDatum T.value_numbers m) (sums : IsDatum T.sum_numbers n) where
  body-apart : (b c : Body V A) (r s : List ℕ) → AreSpelled b → AreSpelled c → code_of (stage_of_body b) ≡ code_of (stage_of_body c) → body_numbers T b ++ r ≡ body_numbers T c ++ s → (b ≡ c) × (r ≡ s)
  body-apart (body.Gather xs) (body.Gather ys) r s hb hc st e = let same = items-apart (λ x. x.vertex ∷ T.sum_numbers x.acc) (λ x. x.vertex) (λ x. IsShort x.vertex) (part-apart T.sum_numbers n sums) xs ys r s hb hc e in (ap (λ l. body.Gather l) same.0, same.1)
  body-apart (body.Update xs) (body.Update ys) r s hb hc st e = let same = items-apart (λ x. x.vertex ∷ (T.value_numbers x.value ++ cond x.wake 1 0 ∷ [])) (λ x. x.vertex) (λ x. IsShort x.vertex) (new_value-apart T.value_numbers m values) xs ys r s hb hc e in (ap (λ l. body.Update l) same.0, same.1)
  body-apart (body.Signal xs) (body.Signal ys) r s hb hc st e = let same = vertices-apart xs ys r s hb hc e in (ap (λ l. body.Signal l) same.0, same.1)
  body-apart (body.Call xs) (body.Call ys) r s hb hc st e = let same = vertices-apart xs ys r s hb hc e in (ap (λ l. body.Call l) same.0, same.1)
  body-apart (body.Ask xs) (body.Ask ys) r s hb hc st e = let same = vertices-apart xs ys r s hb hc e in (ap (λ l. body.Ask l) same.0, same.1)
  body-apart (body.Grant xs) (body.Grant ys) r s hb hc st e = let same = items-apart (copy_told T.value_numbers) (λ x. x.vertex) IsGranted (copy-apart T.value_numbers m values) xs ys r s hb hc e in (ap (λ l. body.Grant l) same.0, same.1)
  body-apart b c r s hb hc st e = absurd (omega (arith, st))

  batch-apart : (b c : Batch V A) (r s : List ℕ) → IsSpelled T b → IsSpelled T c → batch_numbers T b ++ r ≡ batch_numbers T c ++ s → (b ≡ c) × (r ≡ s)
  batch-apart b c r s hb hc e =
      let serials : b.serial ≡ c.serial = cc in
      let epochs : b.epoch ≡ c.epoch = cc in
      let rounds : b.round ≡ c.round = cc in
      let stages : code_of (stage_of_body b.body) ≡ code_of (stage_of_body c.body) = cc in
      let senders : b.sender ≡ c.sender = cc in
      let receivers : b.receiver ≡ c.receiver = cc in
      let tails : body_numbers T b.body ++ r ≡ body_numbers T c.body ++ s = cc in
      let bodies = body-apart b.body c.body r s hb.items hc.items stages tails in
      (batches b.serial c.serial b.epoch c.epoch b.round c.round b.sender c.sender b.receiver c.receiver b.body c.body serials epochs rounds senders receivers bodies.0, bodies.1)
    where
      batches : (i j e f g h p q u v : ℕ) (x y : Body V A) → i ≡ j → e ≡ f → g ≡ h → p ≡ q → u ≡ v → x ≡ y
          → ◌≡◌ {A = Batch V A} (record { serial = i; epoch = e; round = g; sender = p; receiver = u; body = x }) (record { serial = j; epoch = f; round = h; sender = q; receiver = v; body = y })
      batches i j e f g h p q u v x y a b c d k l = cc

  -- the numbers of one batch go on with more: none are left
  ends : (b c : Batch V A) (r s : List ℕ) → IsSpelled T b → IsSpelled T c → GoesOn number_bytes IsWord (batch_numbers T b) (batch_numbers T c) r s → (b ≡ c) × (r ≡ s)
  ends b c r s hb hc g =
      let same = batch-apart b c g.more [] hb hc (sym g.items ∙ sym (append-nil (batch_numbers T c))) in
      (same.0, g.numbers ∙ ap (λ (l : List ℕ). flat_map number_bytes l ++ s) same.1)

  pub spellings-apart : NoSpellingBeginsAnother T
  unfolding batch_bytes
  spellings-apart b c r s hb hc e =
      elim (one-goes_on number_bytes IsWord numbers-apart (batch_numbers T b) (batch_numbers T c) r s hb.numbers hc.numbers e) [
        | inl g ↦ ends b c r s hb hc g
        | inr g ↦ let same = ends c b s r hc hb g in (sym same.0, sym same.1)
      ]
