-- A sender that sent no part adds nothing to a sum.
use Rattle.std.proofs.Common.{◌≡◌, ◌∙◌, ℕ, true, false, not, eqb, List, [], ◌∷◌, refl, sym, ap, subst, inl, inr}
use Rattle.std.specs.Prelude.{flat_map}
use Rattle.std.specs.List.{All, find}
use Rattle.std.proofs.lemmas.Bool.{cases_Bool, cond-true, cond-false, eqb-true}
use Rattle.std.proofs.lemmas.List.Elements.{All-append}
use Rattle.gr_base.specs.Places.{without_place}
use Rattle.gr_program.specs.Program.{Program}
use Rattle.gr_batch.specs.declared.batch.Batch.{Batch}
use Rattle.gr_batch.specs.declared.body.Body.{Body}
use Rattle.gr_batch.specs.declared.stage.Stage.TheVariants as stage
use Rattle.gr_batch.specs.Bodies.{parts_of}
use Rattle.gr_rules.specs.Inbox.{bodies}
use Rattle.gr_high.specs.Parts.{with_part}
use Rattle.gr_round.specs.Needs.{BringTheSame}
use Rattle.gr_round.proofs.Senders.{All-left, All-right, bodies-append}
use Rattle.gr_round.proofs.Sums.{joined, joined-one, joined-more, joined-whole}

without-on : (x p : ℕ) (xs : List ℕ) → eqb x p ≡ true → without_place (x ∷ xs) p ≡ without_place xs p
without-on x p xs on = cond-false (not (eqb x p)) (x ∷ without_place xs p) (without_place xs p) (ap not on)

without-off : (x p : ℕ) (xs : List ℕ) → eqb x p ≡ false → without_place (x ∷ xs) p ≡ x ∷ without_place xs p
without-off x p xs off = cond-true (not (eqb x p)) (x ∷ without_place xs p) (without_place xs p) (ap not off)

module _ {V A : Type 0} (inbox : List (Batch V A)) (e : ℕ) (p : ℕ) where
  abbrev from : List ℕ → List (Body V A)
  from = bodies inbox e stage.Gather

  -- what holds of the bodies of some senders holds without one of them
  pub fits-without : (Q : Body V A → Type 0) (xs : List ℕ) → All Q (from xs) → All Q (from (without_place xs p))
  fits-without Q [] a = a
  fits-without Q (x ∷ xs) a =
      let both = subst (All Q) (bodies-append inbox e stage.Gather (x ∷ []) xs) a in
      let rest = fits-without Q xs (All-right Q (from (x ∷ [])) (from xs) both) in
      elim (cases_Bool (eqb x p)) [
        | inl on ↦ subst (λ ps. All Q (from ps)) (sym (without-on x p xs on)) rest
        | inr off ↦
            subst (λ ps. All Q (from ps)) (sym (without-off x p xs off))
            (subst (All Q) (sym (bodies-append inbox e stage.Gather (x ∷ []) (without_place xs p))) (All-append Q (from (x ∷ [])) (from (without_place xs p)) (All-left Q (from (x ∷ [])) (from xs) both) rest))
      ]

  module _ (P : Program V A) (none : flat_map parts_of (from (p ∷ [])) ≡ []) where
    joined-more_senders : (v : ℕ) (own : A) (x : ℕ) (xs : List ℕ) → joined P v own (from (x ∷ xs)) ≡ joined P v (joined P v own (from (x ∷ []))) (from xs)
    joined-more_senders v own x xs = ap (joined P v own) (bodies-append inbox e stage.Gather (x ∷ []) xs) ∙ joined-more P v own (from (x ∷ [])) (from xs)

    joined-none : (v : ℕ) (own : A) → joined P v own (from (p ∷ [])) ≡ own
    joined-none v own = sym (joined-one P v inbox e own p) ∙ ap (λ xs. with_part P own (find (λ x. eqb x.vertex v) xs)) none

    joined-without : (v : ℕ) (own : A) (xs : List ℕ) → joined P v own (from (without_place xs p)) ≡ joined P v own (from xs)
    joined-without v own [] = refl
    joined-without v own (x ∷ xs) = elim (cases_Bool (eqb x p)) [
      | inl on ↦
          let is : x ≡ p = eqb-true x p on in
          ap (λ ps. joined P v own (from ps)) (without-on x p xs on)
          ∙ joined-without v own xs
          ∙ sym (joined-more_senders v own x xs ∙ ap (λ s. joined P v s (from xs)) (ap (λ q. joined P v own (from (q ∷ []))) is ∙ joined-none v own))
      | inr off ↦
          ap (λ ps. joined P v own (from ps)) (without-off x p xs off)
          ∙ joined-more_senders v own x (without_place xs p)
          ∙ joined-without v (joined P v own (from (x ∷ []))) xs
          ∙ sym (joined-more_senders v own x xs)
    ]

    pub brings-without : (others senders : List ℕ) → BringTheSame P inbox e others senders → BringTheSame P inbox e others (without_place senders p)
    brings-without others senders same rows arcs v =
        sym (joined-whole P v rows arcs (from (without_place senders p)))
        ∙ joined-without v _ senders
        ∙ joined-whole P v rows arcs (from senders)
        ∙ same rows arcs v
