-- The entries of a table that changes at some places.
use Rattle.std.proofs.Common.{◌≡◌, ◌<◌, ◌≤◌, ℕ, List, Bool, true, false, refl, length, sym, ap, ◌∙◌, get_or, zero-add, ⊎_elim}
use Rattle.std.specs.Prelude.{if◌then◌else◌}
use Rattle.std.specs.List.{enumerate_from}
use Rattle.std.proofs.lemmas.List.{length-map, get_or-map, get_or_past}
use Rattle.std.proofs.lemmas.List.FromFn.{length-enumerate_from, get_or-enumerate_from}
use Rattle.std.proofs.lemmas.Bool.{cases_lt}
use Rattle.gr_base.specs.Rising.{has}
use Rattle.gr_log.specs.Log.{Log, cut_log}
use Rattle.gr_lists.proofs.Choices.{if-same}
use Rattle.gr_cluster.specs.Tables.{changed_at}

module _ {X : Type 0} (ps : List ℕ) (f : ℕ → X → X) (xs : List X) where
  pub length-changed_at : length (changed_at ps f xs) ≡ length xs
  length-changed_at = length-map (enumerate_from 0 xs) _ ∙ length-enumerate_from 0 xs

  module _ (p : ℕ) (d : X) where
    pub within-changed_at : p < length xs → get_or (changed_at ps f xs) p d ≡ (if has ps p then f p (get_or xs p d) else get_or xs p d)
    within-changed_at lt =
        let lt' : p < length (enumerate_from 0 xs) = rw (length-enumerate_from 0 xs) lt in
        get_or-map _ (enumerate_from 0 xs) p (p, d) d lt'
        ∙ (ap (λ (x : ℕ × X). if has ps x.0 then f x.0 x.1 else x.1) (get_or-enumerate_from 0 xs p (p, d) lt)
        ∙ ap (λ n. if has ps n then f n (get_or xs p d) else get_or xs p d) (zero-add p))

    past-changed_at : length xs ≤ p → get_or (changed_at ps f xs) p d ≡ d
    past-changed_at le = let le' : length (changed_at ps f xs) ≤ p = rw length-changed_at le in get_or_past (changed_at ps f xs) p d le'

    -- at another place the entry is as it was
    pub get_or-unchanged : has ps p ≡ false → get_or (changed_at ps f xs) p d ≡ get_or xs p d
    get_or-unchanged n = ⊎_elim
        (λ lt. within-changed_at lt ∙ ap (λ b. if b then f p (get_or xs p d) else get_or xs p d) n)
        (λ le. past-changed_at le ∙ sym (get_or_past xs p d le))
        (cases_lt p (length xs))

    -- where the default does not change, it need not be looked where the table ends
    pub get_or-changed_at : f p d ≡ d → get_or (changed_at ps f xs) p d ≡ (if has ps p then f p (get_or xs p d) else get_or xs p d)
    get_or-changed_at fixed = ⊎_elim within-changed_at
        (λ le. past-changed_at le ∙ sym (ap (λ y. if has ps p then f p y else y) (get_or_past xs p d le) ∙ (ap (λ y. if has ps p then y else d) fixed ∙ if-same (has ps p) d)))
        (cases_lt p (length xs))

-- a log that is cut keeps what is committed
pub cut-committed : (b : Bool) (l : Log) → (if b then cut_log l else l).committed ≡ l.committed
cut-committed true l = refl
cut-committed false l = refl
