-- What the elements meet that a choice gives of a list, and that they rise.
use Rattle.std.proofs.Common.{◌≡◌, ◌<◌, ℕ, List, [], ◌∷◌, Bool, true, false, map, filter, filter_map, find, refl, arith, Option, Some, None, if◌then◌else◌}
use Rattle.std.specs.Prelude.{IfSome}
use Rattle.std.specs.List.{AllByRecursion as Each}
use Rattle.std.proofs.lemmas.List.Elements.{All-from_recursion, recursion_from_All}
use Rattle.gr_base.specs.Rising.{RisesBy}
use Rattle.gr_base.proofs.Rising.{rises-nil, rises-head, rises-tail, rises-cons}
use Rattle.gr_lists.proofs.Tests.{by_test, by_option}
use Rattle.gr_lists.proofs.Each.{Each-weaker}

-- a value that a test lets through, and one that it keeps back
pub if-some : {X : Type 0} (Q : X → Type 0) (b : Bool) (x : X) → (b ≡ true → Q x) → IfSome (if b then Some x else None) Q
if-some Q true x h = h refl
if-some Q false x h = tt

pub if-none : {X : Type 0} (Q : X → Type 0) (b : Bool) (x : X) → (b ≡ false → Q x) → IfSome (if b then None else Some x) Q
if-none Q true x h = tt
if-none Q false x h = h refl

module _ {X : Type 0} where
  -- the elements that pass a test, by what each meets that passes
  pub Each-passing : (Q : X → Type 0) (f : X → Bool) (xs : List X) → Each (λ x. f x ≡ true → Q x) xs → Each Q (filter f xs)
  Each-passing Q f [] h = tt
  Each-passing Q f (x ∷ xs) h = by_test (f x)
      (λ k. rw k (h.0 k, Each-passing Q f xs h.1))
      (λ k. rw k (Each-passing Q f xs h.1))

  -- the element that a search finds
  pub Each-find : (Q : X → Type 0) (f : X → Bool) (xs : List X) → Each Q xs → IfSome (find f xs) (λ x. (f x ≡ true) × Q x)
  Each-find Q f [] h = tt
  Each-find Q f (x ∷ xs) h = by_test (f x)
      (λ k. rw k (k, h.0))
      (λ k. rw k (Each-find Q f xs h.1))

module _ {X Y : Type 0} where
  -- a map that another one undoes
  pub map-undone : (f : X → Y) (g : Y → X) → ((x : X) → g (f x) ≡ x) → (xs : List X) → map g (map f xs) ≡ xs
  map-undone f g same [] = refl
  map-undone f g same (x ∷ xs) = λ i. same x i ∷ map-undone f g same xs i

module _ {X Y : Type 0} (f : X → Option Y) where
  pub Each-filter_map : (Q : Y → Type 0) (xs : List X) → Each (λ x. IfSome (f x) Q) xs → Each Q (filter_map f xs)
  Each-filter_map Q [] h = tt
  Each-filter_map Q (x ∷ xs) h = by_option (f x)
      (λ k. rw k (Each-filter_map Q xs h.1))
      (λ y k. let here : Q y = rw k at h.0 in rw k (here, Each-filter_map Q xs h.1))

  -- a choice that keeps each number
  pub filter_map-rises : (key : Y → ℕ) (number : X → ℕ) → ((x : X) → IfSome (f x) (λ y. key y ≡ number x)) → (xs : List X) → RisesBy number xs → RisesBy key (filter_map f xs)
  filter_map-rises key number named [] r = rises-nil key
  filter_map-rises key number named (x ∷ xs) r = let ih = filter_map-rises key number named xs (rises-tail number x xs r) in by_option (f x)
      (λ k. rw k ih)
      (λ y k.
      let given = named x in let same : key y ≡ number x = rw k at given in
      let later = recursion_from_All (λ z. number x < number z) xs (rises-head number x xs r) in
      let above : (z : X) → number x < number z → IfSome (f z) (λ w. key y < key w) = (λ z lt. by_option (f z)
      (λ n. rw n tt)
      (λ w n. let given = named z in let at : key w ≡ number z = rw n at given in rw n (omega (arith, lt, same, at)))) in
      rw k (rises-cons key y (filter_map f xs) (All-from_recursion (λ w. key y < key w) (filter_map f xs) (Each-filter_map (λ w. key y < key w) xs (Each-weaker _ _ above xs later))) ih))
