-- The places of a rebirth, field by field.
use Rattle.std.proofs.Common.{◌≡◌, ◌∙◌, ℕ, Bool, true, false, not, cond, ltb, leb, List, [], ◌∷◌, Option, Some, None, refl, sym, ap, inl, inr, arith}
use Rattle.std.specs.Prelude.{◌&&◌, ◌||◌, option_map}
use Rattle.std.specs.List.{fold, list_all}
use Rattle.std.proofs.lemmas.Bool.{cases_lt, cond-true, cond-false, lt-ltb, le-ltb, le-leb, lt-leb}
use Rattle.std.proofs.Math.Bool.{and-true, and_assoc, and_comm, and_self_left, or-false, or-true}
use Rattle.gr_base.specs.Places.{with_place}
use Rattle.gr_sched.specs.declared.event.Event.TheVariants as event
use Rattle.gr_sched.specs.declared.event.Line.TheVariants as line
use Rattle.gr_sched.specs.declared.line.LineFound.{LineFound}
use Rattle.gr_sched.specs.declared.line.LineFound.TheVariants.{Found, Misplaced, Bad}
use Rattle.gr_sched.specs.Fields.{number_of, with_number, all_numbers}
use Rattle.gr_sched.specs.Reading.{are_below, reborn_at, placed}

-- what the line says, once the places of a set were read, with the numbers that follow
abbrev pub reborn_from : ℕ → List ℕ → Bool → Option (List ℕ) → LineFound
reborn_from places set outside None = Bad
reborn_from places set outside (Some ns) = cond (outside || not (are_below places ns)) Misplaced (Found (line.Step (event.Recover (fold with_place set ns))))

regroup : (a b c : Bool) → ((a && b) && c) ≡ (b && (a && c))
regroup a b c = ap (λ (t : Bool). t && c) (and_comm a b) ∙ and_assoc b a c

-- a test of all places, with one more
all-with_place : (p : ℕ → Bool) (qs : List ℕ) (n : ℕ) → list_all p (with_place qs n) ≡ (p n && list_all p qs)
all-with_place p [] n = refl
all-with_place p (q ∷ qs) n = elim (cases_lt n q) [
  | inl lt ↦ ap (list_all p) (cond-true (ltb n q) (n ∷ q ∷ qs) (cond (ltb q n) (q ∷ with_place qs n) (q ∷ qs)) (lt-ltb n q lt))
  | inr ge ↦
      let first = cond-false (ltb n q) (n ∷ q ∷ qs) (cond (ltb q n) (q ∷ with_place qs n) (q ∷ qs)) (le-ltb n q ge) in
      elim (cases_lt q n) [
        | inl lt ↦
            ap (list_all p) (first ∙ cond-true (ltb q n) (q ∷ with_place qs n) (q ∷ qs) (lt-ltb q n lt))
            ∙ ap (λ (b : Bool). p q && b) (all-with_place p qs n) ∙ sym (and_assoc (p q) (p n) (list_all p qs)) ∙ regroup (p q) (p n) (list_all p qs)
        | inr le ↦
            let same : n ≡ q = omega arith in
            ap (list_all p) (first ∙ cond-false (ltb q n) (q ∷ with_place qs n) (q ∷ qs) (le-ltb q n le))
            ∙ sym (and_self_left (p q) (list_all p qs)) ∙ ap (λ (m : ℕ). p m && (p q && list_all p qs)) (sym same)
      ]
]

all-fold : (p : ℕ → Bool) (set ns : List ℕ) → list_all p (fold with_place set ns) ≡ (list_all p set && list_all p ns)
all-fold p set [] = sym (and-true (list_all p set))
all-fold p set (n ∷ ns) =
    all-fold p (with_place set n) ns ∙ ap (λ (b : Bool). b && list_all p ns) (all-with_place p set n)
    ∙ regroup (p n) (list_all p set) (list_all p ns)

module _ (places : ℕ) where
  from_none : (b : Bool) (set ns : List ℕ) → are_below places (fold with_place [] ns) ≡ b → are_below places ns ≡ b → cond (not (are_below places ns)) Misplaced (Found (reborn_at ns)) ≡ placed places (Some (reborn_at ns))
  from_none true set ns is below = rw (is, below) refl
  from_none false set ns is below = rw (is, below) refl

  -- no field was read
  pub reborn-none : (ns : Option (List ℕ)) → reborn_from places [] false ns ≡ placed places (option_map reborn_at ns)
  reborn-none None = refl
  reborn-none (Some ns) = from_none (are_below places ns) [] ns (all-fold (λ p. ltb p places) [] ns) refl

  from_more : (set : List ℕ) (outside : Bool) (p : ℕ) (ns : Option (List ℕ)) → reborn_from places set outside (with_number (Some p) ns) ≡ reborn_from places (cond (ltb p places) (with_place set p) set) (outside || leb places p) ns
  from_more set outside p None = refl
  from_more set outside p (Some ns) = elim (cases_lt p places) [
    | inl lt ↦ rw (lt-ltb p places lt, lt-leb places p lt, or-false outside) refl
    | inr ge ↦ rw (le-ltb p places ge, le-leb places p ge, or-true outside) refl
  ]

  -- one field more
  pub reborn-more : (set new : List ℕ) (outside : Bool) (f : List ℕ) (fs left : List (List ℕ)) (p : ℕ) → left ≡ f ∷ fs → Some p ≡ number_of f → new ≡ cond (ltb p places) (with_place set p) set → reborn_from places new (outside || leb places p) (all_numbers fs) ≡ reborn_from places set outside (all_numbers left)
  reborn-more set new outside f fs left p split is new_is =
      ap (λ (s : List ℕ). reborn_from places s (outside || leb places p) (all_numbers fs)) new_is
      ∙ sym (from_more set outside p (all_numbers fs))
      ∙ ap (λ (n : Option ℕ). reborn_from places set outside (with_number n (all_numbers fs))) is
      ∙ ap (λ (l : List (List ℕ)). reborn_from places set outside (all_numbers l)) (sym split)

  -- a field that is no number
  pub reborn-bad : (set : List ℕ) (outside : Bool) (f : List ℕ) (fs left : List (List ℕ)) → left ≡ f ∷ fs → None ≡ number_of f → Bad ≡ reborn_from places set outside (all_numbers left)
  reborn-bad set outside f fs left split is =
      ap (λ (n : Option ℕ). reborn_from places set outside (with_number n (all_numbers fs))) is
      ∙ ap (λ (l : List (List ℕ)). reborn_from places set outside (all_numbers l)) (sym split)

  -- no field is left
  pub reborn-outside : (set : List ℕ) (outside : Bool) (left : List (List ℕ)) → left ≡ [] → outside ≡ true → Misplaced ≡ reborn_from places set outside (all_numbers left)
  reborn-outside set outside left none is = rw (none, is) refl

  pub reborn-all : (set : List ℕ) (outside : Bool) (left : List (List ℕ)) → left ≡ [] → outside ≡ false → Found (line.Step (event.Recover set)) ≡ reborn_from places set outside (all_numbers left)
  reborn-all set outside left none is = rw (none, is) refl
