-- What an inbox holds of a stage, sender by sender.
use Rattle.std.proofs.Common.{◌≡◌, ◌∙◌, ◌<◌, ◌+◌, ℕ, zero, suc, Bool, true, false, eqb, ltb, List, [], ◌∷◌, ◌++◌, map, Option, Some, None, refl, sym, ap, subst, arith, inl, inr}
use Rattle.std.specs.Prelude.{not, flat_map}
use Rattle.std.specs.List.{All, filter, find}
use Rattle.std.proofs.lemmas.Bool.{cases_Bool, eqb-true, true≢false}
use Rattle.std.proofs.lemmas.List.{append-nil}
use Rattle.std.proofs.lemmas.List.Elements.{All-append}
use Rattle.std.proofs.lemmas.Grind.{flat_map-append}
use Rattle.gr_base.specs.Rising.{RisesBy, has}
use Rattle.gr_batch.specs.declared.batch.Batch.{Batch}
use Rattle.gr_batch.specs.declared.body.Body.{Body}
use Rattle.gr_batch.specs.declared.stage.Stage.{Stage}
use Rattle.gr_batch.specs.Bodies.{is_of}
use Rattle.gr_rules.specs.Inbox.{batch_from, bodies}
use Rattle.gr_round.proofs.Passed.{passed-on, passed-off, passed-none, passed-all, left-on, left-off, left-none, left-all}

pub All-left : {X : Type 0} (P : X → Type 0) (xs ys : List X) → All P (xs ++ ys) → All P xs
All-left P [] ys a k d l = absurd (omega arith)
All-left P (x ∷ xs) ys a zero d l = a 0 d (omega arith)
All-left P (x ∷ xs) ys a (suc k) d l = All-left P xs ys (λ j b m. a (suc j) b (omega arith)) k d (omega arith)

pub All-right : {X : Type 0} (P : X → Type 0) (xs ys : List X) → All P (xs ++ ys) → All P ys
All-right P [] ys a = a
All-right P (x ∷ xs) ys a = All-right P xs ys (λ j b m. a (suc j) b (omega arith))

module _ {V A : Type 0} (inbox : List (Batch V A)) (e : ℕ) (s : Stage) where
  abbrev of_one : ℕ → List (Body V A)
  of_one p = map (λ b. b.body) (batch_from inbox e s p)

  pub bodies-nil : bodies inbox e s [] ≡ []
  unfolding bodies
  bodies-nil = refl

  bodies-cons : (p : ℕ) (ps : List ℕ) → bodies inbox e s (p ∷ ps) ≡ of_one p ++ bodies inbox e s ps
  unfolding bodies
  bodies-cons p ps = refl

  bodies-one : (p : ℕ) → bodies inbox e s (p ∷ []) ≡ of_one p
  bodies-one p = bodies-cons p [] ∙ ap (λ l. of_one p ++ l) bodies-nil ∙ append-nil (of_one p)

  pub bodies-append : (xs ys : List ℕ) → bodies inbox e s (xs ++ ys) ≡ bodies inbox e s xs ++ bodies inbox e s ys
  unfolding bodies
  bodies-append xs ys = flat_map-append of_one xs ys

  -- one sender more
  pub bodies-passed : (p : ℕ) (senders : List ℕ) → RisesBy (λ (n : ℕ). n) senders → has senders p ≡ true → bodies inbox e s (filter (λ q. ltb q (p + 1)) senders) ≡ bodies inbox e s (filter (λ q. ltb q p) senders) ++ bodies inbox e s (p ∷ [])
  bodies-passed p senders r h = ap (bodies inbox e s) (passed-on p senders r h) ∙ bodies-append (filter (λ q. ltb q p) senders) (p ∷ [])

  pub bodies-skipped : (p : ℕ) (senders : List ℕ) → has senders p ≡ false → bodies inbox e s (filter (λ q. ltb q (p + 1)) senders) ≡ bodies inbox e s (filter (λ q. ltb q p) senders)
  bodies-skipped p senders h = ap (bodies inbox e s) (passed-off p senders h)

  pub bodies-none : (senders : List ℕ) → bodies inbox e s (filter (λ q. ltb q 0) senders) ≡ []
  bodies-none senders = ap (bodies inbox e s) (passed-none senders) ∙ bodies-nil

  pub bodies-all : (senders : List ℕ) → All (λ q. q < 64) senders → bodies inbox e s (filter (λ q. ltb q 64) senders) ≡ bodies inbox e s senders
  bodies-all senders a = ap (bodies inbox e s) (passed-all 64 senders a)

  -- one sender more, from the greatest on
  pub bodies-before : (p : ℕ) (senders : List ℕ) → RisesBy (λ (n : ℕ). n) senders → has senders p ≡ true → bodies inbox e s (filter (λ q. not (ltb q p)) senders) ≡ bodies inbox e s (p ∷ []) ++ bodies inbox e s (filter (λ q. not (ltb q (p + 1))) senders)
  bodies-before p senders r h = ap (bodies inbox e s) (left-on p senders r h) ∙ bodies-append (p ∷ []) (filter (λ q. not (ltb q (p + 1))) senders)

  pub bodies-not_before : (p : ℕ) (senders : List ℕ) → has senders p ≡ false → bodies inbox e s (filter (λ q. not (ltb q p)) senders) ≡ bodies inbox e s (filter (λ q. not (ltb q (p + 1))) senders)
  bodies-not_before p senders h = ap (bodies inbox e s) (left-off p senders h)

  pub bodies-past : (senders : List ℕ) → All (λ q. q < 64) senders → bodies inbox e s (filter (λ q. not (ltb q 64)) senders) ≡ []
  bodies-past senders a = ap (bodies inbox e s) (left-none 64 senders a) ∙ bodies-nil

  pub bodies-from : (senders : List ℕ) → bodies inbox e s (filter (λ q. not (ltb q 0)) senders) ≡ bodies inbox e s senders
  bodies-from senders = ap (bodies inbox e s) (left-all senders)

  -- what holds of the bodies of all senders holds of that of one
  pub fits-one : (Q : Body V A → Type 0) (senders : List ℕ) (p : ℕ) → All Q (bodies inbox e s senders) → has senders p ≡ true → All Q (bodies inbox e s (p ∷ []))
  fits-one Q [] p a h = absurd (true≢false (sym h))
  fits-one Q (x ∷ xs) p a h =
      let b = subst (All Q) (bodies-cons x xs) a in
      elim (cases_Bool (eqb x p)) [
        | inl on ↦ subst (All Q) (sym (bodies-one p)) (subst (λ n. All Q (of_one n)) (eqb-true x p on) (All-left Q (of_one x) (bodies inbox e s xs) b))
        | inr off ↦ fits-one Q xs p (All-right Q (of_one x) (bodies inbox e s xs) b) (rw off at h)
      ]

  found-fits : (R : Batch V A → Type 0) (t : Batch V A → Bool) (bs : List (Batch V A)) → All R bs → (b : Batch V A) → find t bs ≡ Some b → R b
  found-fits R t [] a b is = cc
  found-fits R t (c ∷ cs) a b is = elim (cases_Bool (t c)) [
    | inl on ↦ here (rw on at is)
    | inr off ↦ found-fits R t cs (λ k d l. a (suc k) d (omega arith)) b (rw off at is)
  ]
    where
      here : Some c ≡ Some b → R b
      here same = let e : c ≡ b = cc in subst R e (a 0 c (omega arith))

  -- what holds of every body in the inbox holds of those
  pub fits-all : (Q : Body V A → Type 0) → All (λ b. Q b.body) inbox → (senders : List ℕ) → All Q (bodies inbox e s senders)
  fits-all Q a [] = subst (All Q) (sym bodies-nil) (λ k d l. absurd (omega arith))
  fits-all Q a (x ∷ xs) = subst (All Q) (sym (bodies-cons x xs)) (All-append Q (of_one x) (bodies inbox e s xs) (at (find (is_of x e s) inbox) refl) (fits-all Q a xs))
    where
      one : (b : Batch V A) → Q b.body → All Q (b.body ∷ [])
      one b q zero d l = q
      one b q (suc k) d l = absurd (omega arith)

      at : (o : Option (Batch V A)) → find (is_of x e s) inbox ≡ o → All Q (of_one x)
      at None is = subst (λ o. All Q (map (λ (b : Batch V A). b.body) (elim o [ None ↦ [] | Some b ↦ b ∷ [] ]))) (sym is) (λ k d l. absurd (omega arith))
      at (Some b) is = subst (λ o. All Q (map (λ (b : Batch V A). b.body) (elim o [ None ↦ [] | Some b ↦ b ∷ [] ]))) (sym is) (one b (found-fits (λ b. Q b.body) (is_of x e s) inbox a b is))

  -- the body of one sender
  pub bodies-some : (p : ℕ) (b : Batch V A) → find (is_of p e s) inbox ≡ Some b → bodies inbox e s (p ∷ []) ≡ b.body ∷ []
  bodies-some p b is = bodies-one p ∙ ap (λ o. map (λ (b : Batch V A). b.body) (elim o [ None ↦ [] | Some b ↦ b ∷ [] ])) is

  pub bodies-absent : (p : ℕ) → find (is_of p e s) inbox ≡ None → bodies inbox e s (p ∷ []) ≡ []
  bodies-absent p is = bodies-one p ∙ ap (λ o. map (λ (b : Batch V A). b.body) (elim o [ None ↦ [] | Some b ↦ b ∷ [] ])) is

  -- and its items
  module _ {X : Type 0} (f : Body V A → List X) where
    pub items-some : (p : ℕ) (b : Batch V A) → find (is_of p e s) inbox ≡ Some b → flat_map f (bodies inbox e s (p ∷ [])) ≡ f b.body
    items-some p b is = ap (flat_map f) (bodies-some p b is) ∙ append-nil (f b.body)

    pub items-none : (p : ℕ) → find (is_of p e s) inbox ≡ None → flat_map f (bodies inbox e s (p ∷ [])) ≡ []
    items-none p is = ap (flat_map f) (bodies-absent p is)

    pub items-fit : (Q : Body V A → Type 0) (R : List X → Type 0) → R [] → ((b : Body V A) → Q b → R (f b)) → (p : ℕ) → All Q (bodies inbox e s (p ∷ [])) → R (flat_map f (bodies inbox e s (p ∷ [])))
    items-fit Q R none some p a = at (find (is_of p e s) inbox) refl
      where
        at : (o : Option (Batch V A)) → find (is_of p e s) inbox ≡ o → R (flat_map f (bodies inbox e s (p ∷ [])))
        at None is = subst R (sym (items-none p is)) none
        at (Some b) is = subst R (sym (items-some p b is)) (some b.body (subst (All Q) (bodies-some p b is) a 0 b.body (omega arith)))

    -- what fits the bodies of all senders fits the items of one
    pub part-fits : (Q : Body V A → Type 0) (R : List X → Type 0) → R [] → ((b : Body V A) → Q b → R (f b)) → (senders : List ℕ) (p : ℕ) → All Q (bodies inbox e s senders) → has senders p ≡ true
        → (part : List X) → part ≡ flat_map f (bodies inbox e s (p ∷ [])) → R part
    part-fits Q R none some senders p a here part is = subst R (sym is) (items-fit Q R none some p (fits-one Q senders p a here))
