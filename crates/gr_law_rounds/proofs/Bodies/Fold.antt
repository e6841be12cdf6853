-- The join of a list by parts, one for each place.
use Rattle.std.proofs.Common.{◌≡◌, ℕ, suc, ◌<◌, List, [], ◌∷◌, Bool, true, false, cond, not, ◌==◌, map, filter, filter_map, refl, sym, ap, ◌∙◌, arith, Some, None, if◌then◌else◌, eq-eqb, eqb-true, ne_eqb}
use Rattle.std.specs.Prelude.{IsTrue}
use Rattle.std.specs.List.{All, AllByRecursion as Each, fold}
use Rattle.std.proofs.lemmas.Bool.{both_ways}
use Rattle.std.proofs.lemmas.List.Elements.{All-cons, All-nil, All-head, All-tail}
use Rattle.gr_base.specs.Rising.{RisesBy, has}
use Rattle.gr_base.proofs.Rising.{rises-tail, rises-head}
use Rattle.gr_program.specs.Program.{Program, total}
use Rattle.gr_program.specs.ProgramLaws.{ProgramLaws}
use Rattle.gr_program.proofs.Totals.{total-cons, fold-from}
use Rattle.gr_lists.proofs.Tests.{by_test}

-- how often a number stands in a list
abbrev pub occurs : ℕ → List ℕ → ℕ
occurs k [] = 0
occurs k (p ∷ ps) = cond (k == p) (suc (occurs k ps)) (occurs k ps)

-- in a rising list a number stands once or not at all
occurs-below : (k : ℕ) (ps : List ℕ) → All (λ q. k < q) ps → occurs k ps ≡ 0
occurs-below k [] a = refl
occurs-below k (p ∷ ps) a =
    let lt : k < p = All-head (λ q. k < q) p ps a in
    rw (ne_eqb k p (λ e. absurd (omega (arith, lt, e)))) (occurs-below k ps (All-tail (λ q. k < q) p ps a))

pub occurs-once : (ps : List ℕ) → RisesBy (λ q. q) ps → (k : ℕ) → has ps k ≡ true → occurs k ps ≡ 1
occurs-once [] r k m = absurd (let bad : false ≡ true = m in cc)
occurs-once (p ∷ ps) r k m = by_test (k == p)
    (λ e. let same : k ≡ p = eqb-true k p e in rw e (ap suc (ap (λ x. occurs x ps) same ∙ occurs-below p ps (rises-head (λ q. q) p ps r))))
    (λ e. let other : (p == k) ≡ false = ne_eqb p k (λ x. both_ways _ e (eq-eqb k p (sym x))) in let m' : has ps k ≡ true = rw other at m in
    rw e (occurs-once ps (rises-tail (λ q. q) p ps r) k m'))

without : (p : ℕ) (ps : List ℕ) → occurs p ps ≡ 0 → filter (λ q. not (q == p)) ps ≡ ps
without p [] o = refl
without p (q ∷ ps) o = by_test (p == q)
    (λ e. absurd (let o' = rw e at o in omega (arith, o')))
    (λ e. let e' : (q == p) ≡ false = ne_eqb q p (λ x. both_ways _ e (eq-eqb p q (sym x))) in let o' = rw e at o in rw e' (ap (λ r. q ∷ r) (without p ps o')))

module _ {V A : Type 0} (P : Program V A) where
  -- the join from the right
  abbrev pub joined : List A → A
  joined [] = P.unit
  joined (x ∷ xs) = P.join x (joined xs)

  module _ (L : ProgramLaws P) where
    pub each-sums : (xs : List A) → Each (λ a. IsTrue (P.is_acc a)) xs → All (λ a. IsTrue (P.is_acc a)) xs
    each-sums [] h = All-nil (λ a. IsTrue (P.is_acc a))
    each-sums (x ∷ xs) h = All-cons (λ a. IsTrue (P.is_acc a)) x xs h.0 (each-sums xs h.1)

    pub total-joined : (xs : List A) → Each (λ a. IsTrue (P.is_acc a)) xs → total P xs ≡ joined xs
    total-joined [] h = refl
    total-joined (x ∷ xs) h = total-cons L x xs h.0 (each-sums xs h.1) ∙ ap (P.join x) (total-joined xs h.1)

    pub fold-joined : (a : A) (xs : List A) → IsTrue (P.is_acc a) → Each (λ a. IsTrue (P.is_acc a)) xs → fold P.join a xs ≡ P.join a (joined xs)
    fold-joined a xs k h = fold-from L a xs k (each-sums xs h) ∙ ap (P.join a) (total-joined xs h)

    pub joined-kept : (xs : List A) → Each (λ a. IsTrue (P.is_acc a)) xs → IsTrue (P.is_acc (joined xs))
    joined-kept [] h = L.unit_kept
    joined-kept (x ∷ xs) h = L.join_kept x (joined xs) h.0 (joined-kept xs h.1)

    pub unit-right : (a : A) → IsTrue (P.is_acc a) → P.join a P.unit ≡ a
    unit-right a h = L.comm a P.unit h L.unit_kept ∙ L.unit_left a h

    left-comm : (a b c : A) → IsTrue (P.is_acc a) → IsTrue (P.is_acc b) → IsTrue (P.is_acc c) → P.join a (P.join b c) ≡ P.join b (P.join a c)
    left-comm a b c ha hb hc = sym (L.assoc a b c ha hb hc) ∙ (ap (λ x. P.join x c) (L.comm a b ha hb) ∙ L.assoc b a c hb ha hc)

    -- a sum that joins a at the place k alone, where k does not stand among the places, or stands there once
    absent : (g : ℕ → A) (a : A) (k : ℕ) (ps : List ℕ) → occurs k ps ≡ 0 → joined (map (λ p. cond (k == p) (P.join a (g p)) (g p)) ps) ≡ joined (map g ps)
    absent g a k [] h = refl
    absent g a k (p ∷ ps) h = by_test (k == p)
        (λ e. absurd (let bad = rw e at h in omega (arith, bad)))
        (λ e. let h' = rw e at h in rw e (ap (P.join (g p)) (absent g a k ps h')))

    kept-at : (g : ℕ → A) → ((p : ℕ) → IsTrue (P.is_acc (g p))) → (ps : List ℕ) → IsTrue (P.is_acc (joined (map g ps)))
    kept-at g hg [] = L.unit_kept
    kept-at g hg (p ∷ ps) = L.join_kept (g p) _ (hg p) (kept-at g hg ps)

    once : (g : ℕ → A) (a : A) (k : ℕ) → ((p : ℕ) → IsTrue (P.is_acc (g p))) → IsTrue (P.is_acc a) → (ps : List ℕ) → occurs k ps ≡ 1
        → joined (map (λ p. cond (k == p) (P.join a (g p)) (g p)) ps) ≡ P.join a (joined (map g ps))
    once g a k hg ha [] h = absurd (omega (arith, h))
    once g a k hg ha (p ∷ ps) h = by_test (k == p)
        (λ e. let h' = rw e at h in let none : occurs k ps ≡ 0 = omega (arith, h') in rw e (ap (P.join (P.join a (g p))) (absent g a k ps none) ∙ L.assoc a (g p) _ ha (hg p) (kept-at g hg ps)))
        (λ e. let h' = rw e at h in rw e (ap (P.join (g p)) (once g a k hg ha ps h') ∙ left-comm (g p) a _ (hg p) ha (kept-at g hg ps)))

    module _ {X : Type 0} (f : X → A) (place : X → ℕ) where
      pub part-kept : (xs : List X) → Each (λ x. IsTrue (P.is_acc (f x))) xs → (p : ℕ) → IsTrue (P.is_acc (joined (map f (filter (λ x. place x == p) xs))))
      part-kept [] h p = L.unit_kept
      part-kept (x ∷ xs) h p = by_test (place x == p)
          (λ e. rw e (L.join_kept (f x) _ h.0 (part-kept xs h.1 p)))
          (λ e. rw e (part-kept xs h.1 p))

      units : (ps : List ℕ) → joined (map (λ p. P.unit) ps) ≡ P.unit
      units [] = refl
      units (p ∷ ps) = L.unit_left _ (rw (units ps) L.unit_kept) ∙ units ps

      more : (x : X) (xs : List X) (ps : List ℕ) → map (λ p. joined (map f (filter (λ y. place y == p) (x ∷ xs)))) ps
          ≡ map (λ p. cond (place x == p) (P.join (f x) (joined (map f (filter (λ y. place y == p) xs)))) (joined (map f (filter (λ y. place y == p) xs)))) ps
      more x xs [] = refl
      more x xs (p ∷ ps) = by_test (place x == p)
          (λ e. rw e (ap (λ r. P.join (f x) (joined (map f (filter (λ y. place y == p) xs))) ∷ r) (more x xs ps)))
          (λ e. rw e (ap (λ r. joined (map f (filter (λ y. place y == p) xs)) ∷ r) (more x xs ps)))

      -- the sum over the elements is that of the sums over those of each place
      pub joined-by_place : (ps : List ℕ) (xs : List X) → Each (λ x. IsTrue (P.is_acc (f x))) xs → Each (λ x. occurs (place x) ps ≡ 1) xs
          → joined (map (λ p. joined (map f (filter (λ x. place x == p) xs))) ps) ≡ joined (map f xs)
      joined-by_place ps [] h o = units ps
      joined-by_place ps (x ∷ xs) h o =
          ap joined (more x xs ps)
          ∙ (once (λ p. joined (map f (filter (λ y. place y == p) xs))) (f x) (place x) (part-kept xs h.1) h.0 ps o.0
          ∙ ap (P.join (f x)) (joined-by_place ps xs h.1 o.1))

    -- one place taken out of the places
    pub joined-extract : (g : ℕ → A) (p : ℕ) → ((q : ℕ) → IsTrue (P.is_acc (g q))) → (ps : List ℕ) → occurs p ps ≡ 1 → joined (map g ps) ≡ P.join (g p) (joined (map g (filter (λ q. not (q == p)) ps)))
    joined-extract g p ok [] o = absurd (omega (arith, o))
    joined-extract g p ok (q ∷ ps) o = by_test (p == q)
        (λ e. let same : p ≡ q = eqb-true p q e in let e' : (q == p) ≡ true = eq-eqb q p (sym same) in let o' = rw e at o in let none : occurs p ps ≡ 0 = omega (arith, o') in
        rw (e', without p ps none) (ap (λ a. P.join a (joined (map g ps))) (ap g (sym same))))
        (λ e. let e' : (q == p) ≡ false = ne_eqb q p (λ x. both_ways _ e (eq-eqb p q (sym x))) in let o' = rw e at o in
        rw e' (ap (P.join (g q)) (joined-extract g p ok ps o') ∙ left-comm (g q) (g p) _ (ok q) (ok p) (kept-at g ok (filter (λ r. not (r == p)) ps))))

    -- units left out
    pub joined-some : (g : ℕ → A) (b : ℕ → Bool) → ((q : ℕ) → IsTrue (P.is_acc (g q))) → ((q : ℕ) → b q ≡ false → g q ≡ P.unit) → (qs : List ℕ)
        → (joined (filter_map (λ q. if b q then Some (g q) else None) qs) ≡ joined (map g qs)) × Each (λ a. IsTrue (P.is_acc a)) (filter_map (λ q. if b q then Some (g q) else None) qs)
    joined-some g b ok none [] = (refl, tt)
    joined-some g b ok none (q ∷ qs) = let r = joined-some g b ok none qs in by_test (b q)
        (λ e. rw e (ap (P.join (g q)) r.0, (ok q, r.1)))
        (λ e. rw (e, none q e) (r.0 ∙ sym (L.unit_left _ (kept-at g ok qs)), r.1))
