-- A list of items that is read one after another.
use Rattle.std.proofs.Common.{◌≡◌, ◌≢◌, ◌∙◌, ◌+◌, ◌<◌, ◌≤◌, ℕ, List, [], ◌∷◌, ◌++◌, All, length, refl, sym, ap, subst, append_assoc, length-append, arith}
use Rattle.std.specs.List.{flat_map}
use Rattle.std.proofs.lemmas.List.{append-nil, nil_from_length}
use Rattle.std.proofs.lemmas.List.Elements.{All-cons, All-push}
use Rattle.std.proofs.lemmas.List.Concat.{flat_map-cons}
use Rattle.std.proofs.lemmas.Grind.{flat_map-append}
use Rattle.gr_base.specs.Rising.{RisesBy}
use Rattle.gr_base.proofs.Rising.{rises-head, rises-tail, rises-nil}
use Rattle.gr_batch.specs.Spelling.{AreItems}
use Rattle.gr_batch.specs.Reading.{IsFront, HasNoFront}
use Rattle.gr_batch.proofs.Lists.{rises-last}
use Rattle.gr_batch.proofs.Apart.{All-append_right}

-- in a list that rises, what stands before an element is below it
rises-before : {X : Type 0} (key : X → ℕ) (xs : List X) (y : X) (more : List X) → RisesBy key (xs ++ y ∷ more) → All (λ x. key x < key y) xs
rises-before key [] y more r = λ i d l. absurd (omega arith)
rises-before key (x ∷ xs) y more r =
    let here : key x < key y = All-append_right (λ z. key x < key z) xs (y ∷ more) (rises-head key x (xs ++ y ∷ more) r) 0 y (omega arith) in
    All-cons (λ z. key z < key y) x xs here (rises-before key xs y more (rises-tail key x (xs ++ y ∷ more) r))

module _ {X : Type 0} (told : X → List ℕ) (key : X → ℕ) (Fits : X → Type 0) where
  -- a list that goes on with more
  pub record Continues (xs ys : List X) (rest : List ℕ) : Type 0 where
    pub more : List X
    pub items : ys ≡ xs ++ more
    pub numbers : rest ≡ flat_map told more

  -- what was read so far, the numbers after it, and the least vertex that may come
  pub record Reads (whole : List ℕ) (xs : List X) (rest : List ℕ) (least : ℕ) : Type 0 where
    pub parts : whole ≡ flat_map told xs ++ rest
    pub items : AreItems key Fits xs
    pub above : All (λ x. key x < least) xs
    pub least_of : (n : ℕ) → All (λ x. key x < n) xs → least ≤ n
    pub only : (ys : List X) → All Fits ys → length xs ≤ length ys → whole ≡ flat_map told ys → Continues xs ys rest

  pub reads-start : (whole : List ℕ) → Reads whole [] whole 0
  reads-start whole = record {
    parts = refl;
    items = record { each = λ i d l. absurd (omega arith); rise = rises-nil key };
    above = λ i d l. absurd (omega arith);
    least_of = λ n h. omega arith;
    only = λ ys fits le e. record { more = ys; items = refl; numbers = e };
  }

  module _ (whole : List ℕ) (xs : List X) (rest : List ℕ) (least : ℕ) (so_far : Reads whole xs rest least) where
    -- a longer list has a next item
    next-is : (ys : List X) → All Fits ys → length xs < length ys → whole ≡ flat_map told ys → (y : X) × (more : List X) × (ys ≡ xs ++ y ∷ more) × (rest ≡ told y ++ flat_map told more) × Fits y
    next-is ys fits lt e = at c.more c.items c.numbers
      where
        c : Continues xs ys rest
        c = so_far.only ys fits (omega arith) e

        at : (more : List X) → ys ≡ xs ++ more → rest ≡ flat_map told more → (y : X) × (others : List X) × (ys ≡ xs ++ y ∷ others) × (rest ≡ told y ++ flat_map told others) × Fits y
        at [] is told_by = absurd (omega (arith, ap length is, length-append xs []))
        at (y ∷ more) is told_by = (y, more, is, told_by ∙ flat_map-cons told y more, All-append_right Fits xs (y ∷ more) (subst (λ (l : List X). All Fits l) is fits) 0 y (omega arith))

    pub reads-none : (ys : List X) → HasNoFront told Fits rest → All Fits ys → length xs < length ys → whole ≢ flat_map told ys
    reads-none ys none fits lt e =
        let n = next-is ys fits lt e in
        none n.0 (flat_map told n.1) n.4 n.3

    pub reads-end : (ys : List X) → (rest ≡ [] → ⊥) → All Fits ys → length ys ≡ length xs → whole ≢ flat_map told ys
    reads-end ys some fits same e =
        let c = so_far.only ys fits (omega arith) e in
        let none : c.more ≡ [] = nil_from_length c.more (omega (arith, ap length c.items, length-append xs c.more)) in
        some (c.numbers ∙ ap (flat_map told) none)

    module _ (x : X) (after : List ℕ) (front : IsFront told Fits rest x after) where
      pub reads-below : (ys : List X) → key x < least → AreItems key Fits ys → length xs < length ys → whole ≢ flat_map told ys
      reads-below ys low are lt e =
          let n = next-is ys are.each lt e in
          let same = front.only n.0 (flat_map told n.1) n.4 n.3 in
          let le = so_far.least_of (key n.0) (rises-before key xs n.0 n.1 (subst (RisesBy key) n.2 are.rise)) in
          absurd (omega (arith, le, ap key same.0))

      pub reads-more : least ≤ key x → Reads whole (xs ++ x ∷ []) after (key x + 1)
      reads-more le = record {
        parts = so_far.parts ∙ ap (λ (l : List ℕ). flat_map told xs ++ l) front.parts ∙ sym (append_assoc (flat_map told xs) (told x) after) ∙ ap (λ (l : List ℕ). l ++ after) (sym longer);
        items = record {
          each = All-push Fits xs x so_far.items.each front.fits;
          rise = rises-last key xs x so_far.items.rise (λ i d l. let q = so_far.above i d l in omega arith);
        };
        above = All-push (λ y. key y < key x + 1) xs x (λ i d l. let q = so_far.above i d l in omega arith) (omega arith);
        least_of = λ n h. let q : key x < n = All-append_right (λ y. key y < n) xs (x ∷ []) h 0 x (omega arith) in omega arith;
        only = λ ys fits lt e. step ys fits (omega (arith, lt, length-append xs (x ∷ []))) e;
      }
        where
          longer : flat_map told (xs ++ x ∷ []) ≡ flat_map told xs ++ told x
          longer = flat_map-append told xs (x ∷ []) ∙ ap (λ (l : List ℕ). flat_map told xs ++ l) (flat_map-cons told x [] ∙ append-nil (told x))

          step : (ys : List X) → All Fits ys → length xs < length ys → whole ≡ flat_map told ys → Continues (xs ++ x ∷ []) ys after
          step ys fits lt e =
              let n = next-is ys fits lt e in
              let same = front.only n.0 (flat_map told n.1) n.4 n.3 in
              record {
                more = n.1;
                items = n.2 ∙ ap (λ (y : X). xs ++ y ∷ n.1) (sym same.0) ∙ sym (append_assoc xs (x ∷ []) n.1);
                numbers = same.1;
              }

      -- the same of what equals these
      pub reads-next : least ≤ key x → (xs' : List X) (after' : List ℕ) (least' : ℕ) → xs' ≡ xs ++ x ∷ [] → after' ≡ after → least' ≡ key x + 1 → (length xs' ≡ length xs + 1) × Reads whole xs' after' least'
      reads-next le xs' after' least' p q r = rw (p, q, r) (length-append xs (x ∷ []), reads-more le)
