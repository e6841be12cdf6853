-- A batch of each sender, epoch and stage stands once, whatever is put in beside it or forgotten.
use Rattle.std.proofs.Common.{◌≡◌, ◌∙◌, ◌≤◌, ℕ, zero, suc, Bool, true, false, cond, eqb, List, [], ◌∷◌, ◌++◌, Some, refl, sym, ap, arith}
use Rattle.std.specs.Prelude.{◌&&◌, slice_get}
use Rattle.std.specs.List.{count_by, filter, find, list_any}
use Rattle.std.proofs.lemmas.Bool.{eqb-true, cond-true, cond-false}
use Rattle.gr_lists.proofs.Tests.{by_test}
use Rattle.gr_lists.proofs.Each.{Each-always}
use Rattle.gr_lists.proofs.Any.{list_any-agree}
use Rattle.gr_lists.proofs.Counts.{one_if, count_by-cons, count_by-append, count_by-none, count_by-remove, count_by-filter-le}
use Rattle.gr_batch.specs.declared.batch.Batch.{Batch}
use Rattle.gr_batch.specs.declared.stage.Stage.{Stage}
use Rattle.gr_batch.specs.Stages.{code_of}
use Rattle.gr_batch.specs.Bodies.{is_of, stage_of_body}
use Rattle.gr_flight.specs.StandsOnce.{StandsOnce}

both : (a b c : Bool) → (a && (b && c)) ≡ true → (a ≡ true) × (b ≡ true) × (c ≡ true)
both true true true e = (refl, refl, refl)
both true true false e = cc
both true false c e = cc
both false b c e = cc

-- an element that passes a test which no other one passes is the one that a search finds
module _ {X : Type 0} (f : X → Bool) (y : X) where
  find-counted : (xs : List X) (i : ℕ) → count_by f xs ≤ 1 → slice_get xs i ≡ Some y → f y ≡ true → find f xs ≡ Some y
  find-counted [] i le e on = absurd (cc)
  find-counted (x ∷ xs) zero le e on = let same : x ≡ y = cc in cond-true (f x) (Some x) (find f xs) (ap f same ∙ on) ∙ ap Some same
  find-counted (x ∷ xs) (suc i) le e on =
      let first = count_by-cons f x xs in let later = count_by-remove f y xs i e in by_test (f x)
      (λ k.
      let here : one_if f x ≡ 1 = ap (λ b. cond b 1 0) k in let there : one_if f y ≡ 1 = ap (λ b. cond b 1 0) on in
      absurd (omega (arith, first, later, here, there, le)))
      (λ k. cond-false (f x) (Some x) (find f xs) k ∙ find-counted xs i (omega (arith, first, le)) e on)

module _ {V A : Type 0} where
  -- the test of a sender, an epoch and a stage is that of the batch which passes it
  is_of-own : (p e : ℕ) (s : Stage) (b x : Batch V A) → is_of p e s b ≡ true → is_of p e s x ≡ is_of b.sender b.epoch (stage_of_body b.body) x
  is_of-own p e s b x on =
      let parts = both (eqb b.sender p) (eqb b.epoch e) (eqb (code_of s) (code_of (stage_of_body b.body))) on in
      let same_sender = eqb-true b.sender p parts.0 in
      let same_epoch = eqb-true b.epoch e parts.1 in
      let same_stage = eqb-true (code_of s) (code_of (stage_of_body b.body)) parts.2 in
      ap (λ (n : ℕ). eqb x.sender n && (eqb x.epoch e && eqb (code_of s) (code_of (stage_of_body x.body)))) (sym same_sender)
      ∙ ap (λ (n : ℕ). eqb x.sender b.sender && (eqb x.epoch n && eqb (code_of s) (code_of (stage_of_body x.body)))) (sym same_epoch)
      ∙ ap (λ (n : ℕ). eqb x.sender b.sender && (eqb x.epoch b.epoch && eqb n (code_of (stage_of_body x.body)))) same_stage

  pub once-put : (b : Batch V A) (xs : List (Batch V A)) → StandsOnce xs → list_any (is_of b.sender b.epoch (stage_of_body b.body)) xs ≡ false → StandsOnce (xs ++ b ∷ [])
  once-put b xs once absent p e s =
      let f = is_of p e s in let both = count_by-append f xs (b ∷ []) in let last = count_by-cons f b [] in by_test (f b)
      (λ on.
      let same : list_any f xs ≡ false = list_any-agree f (is_of b.sender b.epoch (stage_of_body b.body)) xs (Each-always _ (λ x. is_of-own p e s b x on) xs) ∙ absent in
      let none = count_by-none f xs same in let here : one_if f b ≡ 1 = ap (λ t. cond t 1 0) on in
      omega (arith, both, last, none, here))
      (λ off. let here : one_if f b ≡ 0 = ap (λ t. cond t 1 0) off in omega (arith, both, last, once p e s, here))

  pub once-filter : (q : Batch V A → Bool) (xs : List (Batch V A)) → StandsOnce xs → StandsOnce (filter q xs)
  once-filter q xs once p e s = omega (arith, count_by-filter-le (is_of p e s) q xs, once p e s)

  pub once-find : (p e : ℕ) (s : Stage) (b : Batch V A) (xs : List (Batch V A)) (i : ℕ) → StandsOnce xs → slice_get xs i ≡ Some b → is_of p e s b ≡ true → find (is_of p e s) xs ≡ Some b
  once-find p e s b xs i once at on = find-counted (is_of p e s) b xs i (once p e s) at on
