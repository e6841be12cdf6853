-- Lists of numbers: tests that one of them passes, and rising ones by their members.
use Rattle.std.proofs.Common.{◌≡◌, ℕ, List, [], ◌∷◌, Bool, true, false, ◌==◌, Some, None, find, if◌then◌else◌, refl, sym, ap, ◌∙◌, eqb-true}
use Rattle.std.specs.List.{list_any}
use Rattle.std.proofs.lemmas.Bool.{or_left, or_right}
use Rattle.gr_base.specs.Rising.{RisesBy, has}
use Rattle.gr_lists.proofs.Items.{rises-same}
use Rattle.gr_lists.proofs.Tests.{by_test}

-- a test that a number of the list passes
pub any-has : (f : ℕ → Bool) (xs : List ℕ) (v : ℕ) → has xs v ≡ true → f v ≡ true → list_any f xs ≡ true
any-has f [] v m k = absurd (let bad : false ≡ true = m in cc)
any-has f (x ∷ xs) v m k = by_test (x == v)
    (λ e. or_left _ _ (ap f (eqb-true x v e) ∙ k))
    (λ e. let m' : has xs v ≡ true = rw e at m in or_right _ _ (any-has f xs v m' k))

pub find-number : (xs : List ℕ) (v : ℕ) → find (λ x. x == v) xs ≡ (if has xs v then Some v else None)
find-number [] v = refl
find-number (x ∷ xs) v = by_test (x == v)
    (λ e. rw e (ap Some (eqb-true x v e)))
    (λ e. rw e (find-number xs v))

-- two rising lists with the same numbers are the same
pub same-numbers : (xs ys : List ℕ) → RisesBy (λ n. n) xs → RisesBy (λ n. n) ys → ((v : ℕ) → has xs v ≡ has ys v) → xs ≡ ys
same-numbers xs ys r s same = rises-same (λ n. n) xs ys r s (λ v. find-number xs v ∙ (ap (λ b. if b then Some v else None) (same v) ∙ sym (find-number ys v)))
