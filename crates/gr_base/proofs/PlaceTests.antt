-- Whether a list of places holds one.
use Rattle.std.proofs.Common.{◌≡◌, ℕ, Bool, true, false, List, refl, sym, ◌∙◌, eqb}
use Rattle.std.specs.Prelude.{IsTrue, ◌↔◌}
use Rattle.std.specs.List.{Contains}
use Rattle.std.proofs.lemmas.Bool.{eq-eqb, eqb-true, false_from_ne_true, true≢false}
use Rattle.std.proofs.lemmas.List.Folds.{list_any_at, Any-from_list_any}
use Rattle.std.proofs.lemmas.List.{get_or_default}
use Rattle.gr_base.specs.Rising.{has}

pub has-contains : (ps : List ℕ) (p : ℕ) → has ps p ≡ true → Contains ps p
has-contains ps p h =
    let a = Any-from_list_any (λ q. eqb q p) ps h in
    (a.0, a.2, get_or_default ps a.0 p a.1 a.2 ∙ a.3 ∙ eqb-true a.1 p a.4)

pub is_has : (b : Bool) (ps : List ℕ) (p : ℕ) → (IsTrue b ↔ Contains ps p) → b ≡ has ps p
is_has true ps p h = let c = h.0 refl in sym (list_any_at _ ps c.0 p c.1 (eq-eqb _ p c.2))
is_has false ps p h = sym (false_from_ne_true _ (λ t. true≢false (sym (h.1 (has-contains ps p t)))))
