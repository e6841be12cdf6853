-- The next of those who are left, in ring order.
use Rattle.std.proofs.Common.{◌≡◌, ◌∙◌, ◌<◌, ℕ, Bool, true, false, not, ltb, List, [], ◌∷◌, ◌++◌, Some, get_or, refl, ap, sym, arith, inl, inr}
use Rattle.std.specs.Prelude.{◌||◌, nat_le, ◌↔◌, slice_get}
use Rattle.std.specs.List.{All, filter, find}
use Rattle.std.specs.Option.{option_or}
use Rattle.std.proofs.lemmas.Bool.{cases_Bool, cases_eq, cases_order, cases_lt, cond-true, cond-false, ne_eqb, lt-ltb, le-ltb, le-leb, lt-leb}
use Rattle.std.proofs.lemmas.List.Folds.{find-append}
use Rattle.std.proofs.lemmas.List.Elements.{All-cons, All-nil, All-head, All-tail}
use Rattle.gr_base.specs.Rising.{RisesBy, has, without}
use Rattle.gr_base.specs.Places.{first_from}
use Rattle.gr_base.proofs.Rising.{rises-tail, rises-head, none-later}
use Rattle.gr_base.proofs.Members.{find-filter}
use Rattle.gr_copies.specs.Granter.{granter}
use Rattle.gr_copies.proofs.Selecting.{filter-same, filter-on, filter-off}

find-on : (f : ℕ → Bool) (x : ℕ) (xs : List ℕ) → f x ≡ true → find f (x ∷ xs) ≡ Some x
find-on f x xs on = cond-true (f x) (Some x) (find f xs) on

find-off : (f : ℕ → Bool) (x : ℕ) (xs : List ℕ) → f x ≡ false → find f (x ∷ xs) ≡ find f xs
find-off f x xs off = cond-false (f x) (Some x) (find f xs) off

-- a search among the chosen
find-swap : (f g : ℕ → Bool) (xs : List ℕ) → find f (filter g xs) ≡ find g (filter f xs)
find-swap f g [] = refl
find-swap f g (x ∷ xs) = elim (cases_Bool (g x)) [
  | inl on ↦ elim (cases_Bool (f x)) [
    | inl pass ↦ ap (find f) (filter-on g x xs on) ∙ find-on f x (filter g xs) pass ∙ sym (find-on g x (filter f xs) on) ∙ sym (ap (find g) (filter-on f x xs pass))
    | inr fail ↦ ap (find f) (filter-on g x xs on) ∙ find-off f x (filter g xs) fail ∙ find-swap f g xs ∙ sym (ap (find g) (filter-off f x xs fail))
  ]
  | inr off ↦ elim (cases_Bool (f x)) [
    | inl pass ↦ ap (find f) (filter-off g x xs off) ∙ find-swap f g xs ∙ sym (find-off g x (filter f xs) off) ∙ sym (ap (find g) (filter-on f x xs pass))
    | inr fail ↦ ap (find f) (filter-off g x xs off) ∙ find-swap f g xs ∙ sym (ap (find g) (filter-off f x xs fail))
  ]
]

-- where a first part has none, the rest decides
find-rest : (p h g : ℕ → Bool) → ((x : ℕ) → g x ≡ not (h x)) → (xs : List ℕ) → option_or (find p (filter h xs)) (find p xs) ≡ option_or (find p (filter h xs)) (find p (filter g xs))
find-rest p h g apart [] = refl
find-rest p h g apart (x ∷ xs) = elim (cases_Bool (h x)) [
  | inl on ↦ let off : g x ≡ false = apart x ∙ ap not on in elim (cases_Bool (p x)) [
    | inl pass ↦
        let first : find p (filter h (x ∷ xs)) ≡ Some x = ap (find p) (filter-on h x xs on) ∙ find-on p x (filter h xs) pass in
        ap (λ o. option_or o (find p (x ∷ xs))) first ∙ sym (ap (λ o. option_or o (find p (filter g (x ∷ xs)))) first)
    | inr fail ↦
        let first : find p (filter h (x ∷ xs)) ≡ find p (filter h xs) = ap (find p) (filter-on h x xs on) ∙ find-off p x (filter h xs) fail in
        ap (λ o. option_or o (find p (x ∷ xs))) first ∙ ap (option_or (find p (filter h xs))) (find-off p x xs fail) ∙ find-rest p h g apart xs
        ∙ sym (ap (λ o. option_or o (find p (filter g (x ∷ xs)))) first ∙ ap (option_or (find p (filter h xs))) (ap (find p) (filter-off g x xs off)))
  ]
  | inr off ↦ let on : g x ≡ true = apart x ∙ ap not off in
      let first : find p (filter h (x ∷ xs)) ≡ find p (filter h xs) = ap (find p) (filter-off h x xs off) in
      elim (cases_Bool (p x)) [
        | inl pass ↦ ap (option_or (find p (filter h (x ∷ xs)))) (find-on p x xs pass ∙ sym (ap (find p) (filter-on g x xs on) ∙ find-on p x (filter g xs) pass))
        | inr fail ↦
            let second : find p (filter g (x ∷ xs)) ≡ find p (filter g xs) = ap (find p) (filter-on g x xs on) ∙ find-off p x (filter g xs) fail in
            ap (λ o. option_or o (find p (x ∷ xs))) first ∙ ap (option_or (find p (filter h xs))) (find-off p x xs fail) ∙ find-rest p h g apart xs
            ∙ sym (ap (λ o. option_or o (find p (filter g (x ∷ xs)))) first ∙ ap (option_or (find p (filter h xs))) second)
      ]
]

le-not : (m q : ℕ) → ltb q m ≡ not (nat_le m q)
le-not m q = elim (cases_lt q m) [
  | inl lt ↦ lt-ltb q m lt ∙ sym (ap not (lt-leb m q lt))
  | inr ge ↦ le-ltb q m ge ∙ sym (ap not (le-leb m q ge))
]

-- a member and those above it
from-member : (hs : List ℕ) (m : ℕ) → RisesBy (λ (n : ℕ). n) hs → has hs m ≡ true → filter (λ q. nat_le m q) hs ≡ m ∷ filter (λ q. ltb m q) hs
from-member [] m rise stands = cc
from-member (x ∷ xs) m rise stands =
    let above = rises-head (λ (n : ℕ). n) x xs rise in
    elim (cases_order x m) [
      | inl same ↦
          filter-on (λ q. nat_le m q) x xs (le-leb m x (omega arith))
          ∙ ap (λ (n : ℕ). n ∷ filter (λ q. nat_le m q) xs) same
          ∙ ap (λ l. m ∷ l) (filter-same (λ q. nat_le m q) (λ q. ltb m q) xs (λ k d lt. let q = above k d lt in le-leb m (get_or xs k d) (omega arith) ∙ sym (lt-ltb m (get_or xs k d) (omega arith))))
          ∙ ap (λ l. m ∷ l) (sym (filter-off (λ q. ltb m q) x xs (le-ltb m x (omega arith))))
      | inr o ↦ elim o [
        | inl lt ↦
            filter-off (λ q. nat_le m q) x xs (lt-leb m x lt)
            ∙ from-member xs m (rises-tail (λ (n : ℕ). n) x xs rise) (sym (ap (λ (b : Bool). b || has xs m) (ne_eqb x m (λ e. omega arith))) ∙ stands)
            ∙ ap (λ l. m ∷ l) (sym (filter-off (λ q. ltb m q) x xs (le-ltb m x (omega arith))))
        | inr gt ↦
            let none : has xs m ≡ false = (none-later (λ (n : ℕ). n) m x xs (omega arith) above).1 in
            let off = ne_eqb x m (λ e. omega arith) in
            let here : has (x ∷ xs) m ≡ false = ap (λ (b : Bool). b || has xs m) off ∙ none in
            cc
      ]
    ]

-- the first survivor from the master on is the granter
pub first-granter : (dead hs : List ℕ) (m : ℕ) → RisesBy (λ (n : ℕ). n) hs → has hs m ≡ true → first_from (without hs dead) m ≡ granter dead m hs
first-granter dead hs m rise stands =
    let p : ℕ → Bool = λ q. not (has dead q) in
    ap (λ o. option_or o (slice_get (filter p hs) 0)) (find-swap (λ q. nat_le m q) p hs)
    ∙ ap (option_or (find p (filter (λ q. nat_le m q) hs))) (sym (find-filter p hs))
    ∙ find-rest p (λ q. nat_le m q) (λ q. ltb q m) (le-not m) hs
    ∙ sym (find-append p (filter (λ q. nat_le m q) hs) (filter (λ q. ltb q m) hs))
    ∙ ap (λ l. find p (l ++ filter (λ q. ltb q m) hs)) (from-member hs m rise stands)

-- none is left exactly where all are gone
pub none-left : (hs dead : List ℕ) → (without hs dead ≡ []) ↔ All (λ q. has dead q ≡ true) hs
none-left [] dead = ((λ e. All-nil (λ q. has dead q ≡ true)), (λ a. refl))
none-left (h ∷ hs) dead = elim (cases_Bool (has dead h)) [
  | inl on ↦
      let off : not (has dead h) ≡ false = ap not on in
      let rest = none-left hs dead in
      let same = filter-off (λ q. not (has dead q)) h hs off in
      ((λ e. All-cons (λ q. has dead q ≡ true) h hs on (rest.0 (sym same ∙ e))), (λ a. same ∙ rest.1 (All-tail (λ q. has dead q ≡ true) h hs a)))
  | inr off ↦
      let same = filter-on (λ q. not (has dead q)) h hs (ap not off) in
      ((λ e. let no = sym same ∙ e in cc), (λ a. let yes = All-head (λ q. has dead q ≡ true) h hs a in cc))
]

-- a member is below what all members are below
pub member-below : (hs : List ℕ) (m n : ℕ) → has hs m ≡ true → All (λ q. q < n) hs → m < n
member-below [] m n stands low = cc
member-below (h ∷ hs) m n stands low = elim (cases_eq h m) [
  | inl same ↦ let q = All-head (λ q. q < n) h hs low in omega arith
  | inr apart ↦ member-below hs m n (sym (ap (λ (b : Bool). b || has hs m) (ne_eqb h m apart)) ∙ stands) (All-tail (λ q. q < n) h hs low)
]
