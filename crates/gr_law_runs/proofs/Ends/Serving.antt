-- How many holders of a vertex are live and up.
use Rattle.std.proofs.Common.{◌≡◌, ◌<◌, ◌≤◌, ℕ, ◌+◌, List, [], ◌∷◌, Bool, true, false, cond, not, ◌==◌, ◌&&◌, ◌||◌, length, refl, sym, ap, ◌∙◌, subst, arith, eqb-true}
use Rattle.std.specs.Prelude.{count_by}
use Rattle.std.specs.List.{All}
use Rattle.std.proofs.lemmas.Bool.{and_parts}
use Rattle.std.proofs.lemmas.List.Sums.{length-filter}
use Rattle.gr_base.specs.Rising.{RisesBy, has}
use Rattle.gr_base.specs.Places.{IsPlaces, below}
use Rattle.gr_base.proofs.Ranges.{range-rises}
use Rattle.gr_base.proofs.Rising.{rises-head, rises-tail, none-later}
use Rattle.gr_copies.proofs.Selecting.{members-below}
use Rattle.gr_cluster.specs.Tables.{Cluster, is_up}
use Rattle.gr_lists.proofs.Counts.{one_if, count_by-cons, count_by-none, count_by-agree, count_by-or}
use Rattle.gr_lists.proofs.Each.{Each-always}
use Rattle.gr_lists.proofs.Tests.{by_test}

-- ---- counts

pub count_by-more : {X : Type 0} (f g : X → Bool) → ((x : X) → f x ≡ true → g x ≡ true) → (xs : List X) → count_by f xs ≤ count_by g xs
count_by-more f g h [] = omega arith
count_by-more f g h (x ∷ xs) =
    let ih = count_by-more f g h xs in let c = count_by-cons f x xs in let d = count_by-cons g x xs in by_test (f x)
    (λ e. let one : one_if f x ≡ 1 = ap (λ b. cond b 1 0) e in let one' : one_if g x ≡ 1 = ap (λ b. cond b 1 0) (h x e) in omega (arith, ih, c, d, one, one'))
    (λ e. let none : one_if f x ≡ 0 = ap (λ b. cond b 1 0) e in omega (arith, ih, c, d, none))

-- a number stands once in a rising list
count_by-one : (p : ℕ) (xs : List ℕ) → RisesBy (λ (n : ℕ). n) xs → count_by (λ q. q == p) xs ≤ 1
count_by-one p [] r = omega arith
count_by-one p (x ∷ xs) r = let c = count_by-cons (λ q. q == p) x xs in by_test (x == p)
    (λ e. let same = eqb-true x p e in
    let none = count_by-none (λ q. q == p) xs (none-later (λ (n : ℕ). n) p x xs (omega (arith, same)) (rises-head (λ (n : ℕ). n) x xs r)).1 in
    let one : one_if (λ q. q == p) x ≡ 1 = ap (λ b. cond b 1 0) e in omega (arith, c, none, one))
    (λ e. let ih = count_by-one p xs (rises-tail (λ (n : ℕ). n) x xs r) in
    let none : one_if (λ q. q == p) x ≡ 0 = ap (λ b. cond b 1 0) e in omega (arith, c, ih, none))

-- a test that one number fails beside passes one less at most
pub count_by-less : (f : ℕ → Bool) (p : ℕ) (xs : List ℕ) → RisesBy (λ (n : ℕ). n) xs → count_by f xs ≤ count_by (λ q. f q && not (q == p)) xs + 1
count_by-less f p xs r =
    let split = count_by-or f (λ q. f q && not (q == p)) (λ q. f q && (q == p)) xs (Each-always _ (λ q. parts (f q) (q == p)) xs) in
    let few = count_by-more (λ q. f q && (q == p)) (λ q. q == p) (λ q k. (and_parts (f q) (q == p) k).1) xs in
    let one = count_by-one p xs r in omega (arith, split, few, one)
  where
    parts : (a b : Bool) → (a ≡ ((a && not b) || (a && b))) × (((a && not b) && (a && b)) ≡ false)
    parts true true = (refl, refl)
    parts true false = (refl, refl)
    parts false true = (refl, refl)
    parts false false = (refl, refl)

-- ---- places

-- no place has this number or a greater one
pub most : ℕ
most = 64

pub most-is : most ≡ 64
unfolding most
most-is = refl

module _ {V A : Type 0} where
  -- a place that is live and up
  abbrev pub serves : Cluster V A → ℕ → Bool
  serves c p = has c.coordinator.live p && is_up c p

  -- how many of some places are so
  abbrev pub serving : List ℕ → Cluster V A → ℕ
  serving hs c = count_by (λ p. has hs p && serves c p) (below most)

  pub serving-same : (hs : List ℕ) (c d : Cluster V A) → ((p : ℕ) → serves d p ≡ serves c p) → serving hs d ≡ serving hs c
  serving-same hs c d same = λ i. count_by (λ p. has hs p && same p i) (below most)

  -- a place that goes takes one of them at most
  pub serving-less : (hs : List ℕ) (c d : Cluster V A) (p : ℕ) → ((q : ℕ) → serves d q ≡ (serves c q && not (q == p))) → serving hs c ≤ serving hs d + 1
  serving-less hs c d p gone =
      let less = count_by-less (λ q. has hs q && serves c q) p (below most) (range-rises 0 most) in
      let same : serving hs d ≡ count_by (λ q. (has hs q && serves c q) && not (q == p)) (below most) =
      count_by-agree (λ q. has hs q && serves d q) (λ q. (has hs q && serves c q) && not (q == p)) (below most)
      (Each-always _ (λ q. ap (λ b. has hs q && b) (gone q) ∙ grouped (has hs q) (serves c q) (not (q == p))) (below most)) in
      omega (arith, less, same)
    where
      grouped : (a b k : Bool) → (a && (b && k)) ≡ ((a && b) && k)
      grouped true b k = refl
      grouped false b k = refl

  -- all of them, where each is so
  pub serving-all : (hs : List ℕ) (c : Cluster V A) → IsPlaces hs → ((p : ℕ) → has hs p ≡ true → serves c p ≡ true) → serving hs c ≡ length hs
  serving-all hs c are all =
      count_by-agree (λ p. has hs p && serves c p) (has hs) (below most) (Each-always _ (λ p. each (has hs p) (serves c p) (all p)) (below most))
      ∙ (sym (length-filter (has hs) (below most))
      ∙ ap length (members-below hs most are.rise (subst (λ n. All (λ p. p < n) hs) (sym most-is) are.below)))
    where
      each : (a b : Bool) → (a ≡ true → b ≡ true) → (a && b) ≡ a
      each true b h = h refl
      each false b h = refl

  -- none, where none is so
  pub serving-none : (hs : List ℕ) (c : Cluster V A) → ((p : ℕ) → has hs p ≡ true → serves c p ≡ false) → serving hs c ≡ 0
  serving-none hs c none =
      count_by-agree (λ p. has hs p && serves c p) (λ _. false) (below most) (Each-always _ (λ p. each (has hs p) (serves c p) (none p)) (below most))
      ∙ zero-of (below most)
    where
      each : (a b : Bool) → (a ≡ true → b ≡ false) → (a && b) ≡ false
      each true b h = h refl
      each false b h = refl

      zero-of : (xs : List ℕ) → count_by (λ _. false) xs ≡ 0
      zero-of [] = refl
      zero-of (x ∷ xs) = let c = count_by-cons (λ _. false) x xs in let ih = zero-of xs in omega (arith, c, ih)
