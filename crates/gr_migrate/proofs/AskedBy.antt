-- Who asks for a vertex is any rising list of those who do.
use Rattle.std.proofs.Common.{◌≡◌, ◌==◌, ℕ, List, [], ◌∷◌, Bool, true, false, map, filter, refl, sym, ap, ◌∙◌}
use Rattle.std.specs.Prelude.{◌||◌}
use Rattle.std.specs.List.{fold}
use Rattle.gr_base.specs.Rising.{RisesBy, has}
use Rattle.gr_base.specs.Places.{with_place}
use Rattle.gr_base.proofs.Rising.{rises-nil}
use Rattle.gr_base.proofs.WithPlace.{has-with_place}
use Rattle.gr_lists.proofs.Tests.{by_test}
use Rattle.gr_lists.proofs.Numbers.{same-numbers}
use Rattle.gr_migrate.specs.declared.grant.AskFrom.{AskFrom}
use Rattle.gr_migrate.specs.Askers.{asks_for, askers, AreAskers}
use Rattle.gr_migrate.proofs.Keyed.{rising-rises}

has-rising : (ns old : List ℕ) (q : ℕ) → has (fold with_place old ns) q ≡ (has old q || has ns q)
has-rising [] old q = sym (last (has old q))
  where
    last : (b : Bool) → (b || false) ≡ b
    last true = refl
    last false = refl
has-rising (n ∷ ns) old q = has-rising ns (with_place old n) q ∙ (ap (λ b. b || has ns q) (has-with_place old n q) ∙ moved (has old q) (n == q) (has ns q))
  where
    moved : (a b c : Bool) → ((a || b) || c) ≡ (a || (b || c))
    moved true b c = refl
    moved false b c = refl

has-askers : (asked : List AskFrom) (v q : ℕ) → has (map (λ (a : AskFrom). a.asker) (filter (λ (a : AskFrom). a.vertex == v) asked)) q ≡ asks_for asked v q
has-askers [] v q = refl
has-askers (a ∷ rest) v q = by_test (a.vertex == v)
    (λ e. rw e (ap (λ b. (a.asker == q) || b) (has-askers rest v q)))
    (λ e. rw e (has-askers rest v q))

askers-are : (asked : List AskFrom) (v : ℕ) (places : List ℕ) → RisesBy (λ (p : ℕ). p) places → ((q : ℕ) → has places q ≡ asks_for asked v q) → askers asked v ≡ places
unfolding askers
askers-are asked v places rise same =
    same-numbers (askers asked v) places (rising-rises (map (λ (a : AskFrom). a.asker) (filter (λ (a : AskFrom). a.vertex == v) asked)) [] (rises-nil (λ p. p))) rise
    (λ q. has-rising (map (λ (a : AskFrom). a.asker) (filter (λ (a : AskFrom). a.vertex == v) asked)) [] q ∙ (has-askers asked v q ∙ sym (same q)))

-- so a body over them is one over any such lists
pub all-askers : (asked : List AskFrom) (asked_by : ℕ → List ℕ) → AreAskers asked asked_by → askers asked ≡ asked_by
all-askers asked asked_by are = λ i v. askers-are asked v (asked_by v) (are.rise v) (are.members v) i
