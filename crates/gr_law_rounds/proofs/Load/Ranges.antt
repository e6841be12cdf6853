-- Ranges of numbers, and numbered edges.
use Rattle.std.proofs.Common.{◌≡◌, ◌<◌, ◌≤◌, ℕ, zero, suc, ◌+◌, List, [], ◌∷◌, Bool, true, ◌||◌, map, length, refl, sym, ap, ◌∙◌, arith, eq-eqb, ne_eqb, lt-ltb, le-ltb, nat_lt}
use Rattle.std.specs.List.{All, AllByRecursion as Each, list_any, range_with_len, enumerate_from}
use Rattle.std.proofs.lemmas.Bool.{or_left, or_right}
use Rattle.std.proofs.lemmas.List.{length-map}
use Rattle.std.proofs.lemmas.List.Elements.{All-cons, All-nil}
use Rattle.gr_base.specs.declared.records.Edge.{Edge}
use Rattle.gr_base.specs.declared.records.NumberedEdge.{NumberedEdge}
use Rattle.gr_base.specs.Rising.{has}
use Rattle.gr_base.specs.Places.{below}
use Rattle.gr_cut.specs.Cut.{numbered}
use Rattle.gr_lists.proofs.Tests.{by_same}

pub range-below : (a n m : ℕ) → a + n ≤ m → All (λ q. q < m) (range_with_len a n)
range-below a zero m le = All-nil (λ q. q < m)
range-below a (suc n) m le = All-cons (λ q. q < m) a (range_with_len (a + 1) n) (omega (arith, le)) (range-below (a + 1) n m (omega (arith, le)))

-- a number of a range
has-range : (a n p : ℕ) → a ≤ p → has (range_with_len a n) p ≡ nat_lt p (a + n)
has-range a zero p le = sym (le-ltb p (a + 0) (omega (arith, le)))
has-range a (suc n) p le = by_same a p
    (λ e. or_left _ _ (eq-eqb a p e) ∙ sym (lt-ltb p (a + suc n) (omega (arith, e))))
    (λ ne. ap (λ b. b || has (range_with_len (a + 1) n) p) (ne_eqb a p ne) ∙ (has-range (a + 1) n p (omega (arith, le, ne)) ∙ ap (nat_lt p) (omega arith)))

pub has-below : (n p : ℕ) → has (below n) p ≡ nat_lt p n
has-below n p = let same : 0 + n ≡ n = omega arith in has-range 0 n p (omega arith) ∙ ap (nat_lt p) same

-- the edges of a numbered list, and their numbers
edges-from : (a : ℕ) (es : List Edge) → map (λ (x : NumberedEdge). x.edge) (map (λ (x : ℕ × Edge). record { number = x.0; edge = x.1 }) (enumerate_from a es)) ≡ es
edges-from a [] = refl
edges-from a (e ∷ es) = ap (λ r. e ∷ r) (edges-from (a + 1) es)

pub numbered-edges : (es : List Edge) → map (λ (x : NumberedEdge). x.edge) (numbered es) ≡ es
numbered-edges es = edges-from 0 es

numbers-from : (a : ℕ) (es : List Edge) → map (λ (x : NumberedEdge). x.number) (map (λ (x : ℕ × Edge). record { number = x.0; edge = x.1 }) (enumerate_from a es)) ≡ range_with_len a (length es)
numbers-from a [] = refl
numbers-from a (e ∷ es) = ap (λ r. a ∷ r) (numbers-from (a + 1) es)

pub numbered-numbers : (es : List Edge) → map (λ (x : NumberedEdge). x.number) (numbered es) ≡ range_with_len 0 (length es)
numbered-numbers es = numbers-from 0 es

pub numbered-length : (es : List Edge) → length (numbered es) ≡ length es
numbered-length es = sym (length-map (numbered es) (λ (x : NumberedEdge). x.edge)) ∙ ap length (numbered-edges es)

each-from : (Q : Edge → Type 0) (a : ℕ) (es : List Edge) → Each Q es → Each (λ (x : NumberedEdge). Q x.edge) (map (λ (x : ℕ × Edge). record { number = x.0; edge = x.1 }) (enumerate_from a es))
each-from Q a [] h = tt
each-from Q a (e ∷ es) h = (h.0, each-from Q (a + 1) es h.1)

pub numbered-each : (Q : Edge → Type 0) (es : List Edge) → Each Q es → Each (λ (x : NumberedEdge). Q x.edge) (numbered es)
numbered-each Q es h = each-from Q 0 es h

-- each element passes the test by itself among all
each-among : {X : Type 0} (f : X → X → Bool) (all xs : List X) → ((x : X) → f x x ≡ true) → ((g : X → Bool) → list_any g xs ≡ true → list_any g all ≡ true) → Each (λ x. list_any (f x) all ≡ true) xs
each-among f all [] self some = tt
each-among f all (x ∷ xs) self some = (some (f x) (or_left _ _ (self x)), each-among f all xs self (λ g h. some g (or_right _ _ h)))

pub each-itself : {X : Type 0} (f : X → X → Bool) (xs : List X) → ((x : X) → f x x ≡ true) → Each (λ x. list_any (f x) xs ≡ true) xs
each-itself f xs self = each-among f xs xs self (λ g h. h)
