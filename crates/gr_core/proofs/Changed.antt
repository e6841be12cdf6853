-- A table whose entries at some places change one after the other.
use Rattle.std.proofs.Common.{◌≡◌, ◌<◌, ◌≤◌, ◌+◌, ◌∙◌, ℕ, List, true, false, refl, sym, ap, subst, arith, length, get_or, set, get_or-set_same, get_or-set_other, length-set}
use Rattle.std.specs.Prelude.{if◌then◌else◌}
use Rattle.std.proofs.lemmas.List.{ext_get_or}
use Rattle.gr_base.specs.Rising.{has}
use Rattle.gr_lists.proofs.Tests.{by_test, by_same}
use Rattle.gr_cluster.specs.Tables.{changed_at}
use Rattle.gr_law_rebuilds.proofs.Epoch.Tables.{length-changed_at, within-changed_at, get_or-unchanged}

module _ {X : Type 0} (ps : List ℕ) (f : ℕ → X → X) (xs : List X) (d : X) where
  -- the entries before n are changed, and those from it on are as they were
  pub record ChangedBelow (n : ℕ) (ys : List X) : Type 0 where
    pub same_length : length ys ≡ length xs
    pub before : (q : ℕ) → q < n → get_or ys q d ≡ get_or (changed_at ps f xs) q d
    pub from : (q : ℕ) → n ≤ q → get_or ys q d ≡ get_or xs q d

  pub changed-start : ChangedBelow 0 xs
  changed-start = record { same_length = refl; before = λ q lt. absurd (omega arith); from = λ q le. refl }

  -- the next entry changes, or does not
  pub changed-on : (n : ℕ) (ys zs : List X) (y : X) → n < length xs → has ps n ≡ true → y ≡ f n (get_or ys n d) → zs ≡ set ys n y → ChangedBelow n ys → ChangedBelow (n + 1) zs
  changed-on n ys zs y lt on is put B =
      let within : n < length ys = let s = B.same_length in omega (arith, s) in
      let new : y ≡ get_or (changed_at ps f xs) n d = is ∙ (ap (f n) (B.from n (omega arith)) ∙ sym (within-changed_at ps f xs n d lt ∙ ap (λ b. if b then f n (get_or xs n d) else get_or xs n d) on)) in
      subst (ChangedBelow (n + 1)) (sym put) (record {
        same_length = length-set ys n y ∙ B.same_length;
        before = λ q q_lt. by_same q n
            (λ e. ap (λ k. get_or (set ys n y) k d) e ∙ (get_or-set_same ys n y d within ∙ (new ∙ ap (λ k. get_or (changed_at ps f xs) k d) (sym e))))
            (λ ne. get_or-set_other ys n q y d ne ∙ B.before q (omega (arith, ne)));
        from = λ q le. get_or-set_other ys n q y d (λ e. omega (arith, e, le)) ∙ B.from q (omega arith);
      })

  pub changed-off : (n : ℕ) (ys zs : List X) → has ps n ≡ false → zs ≡ ys → ChangedBelow n ys → ChangedBelow (n + 1) zs
  changed-off n ys zs off kept B = subst (ChangedBelow (n + 1)) (sym kept) (record {
    same_length = B.same_length;
    before = λ q q_lt. by_same q n
        (λ e. ap (λ k. get_or ys k d) e ∙ (B.from n (omega arith) ∙ (sym (get_or-unchanged ps f xs n d off) ∙ ap (λ k. get_or (changed_at ps f xs) k d) (sym e))))
        (λ ne. B.before q (omega (arith, ne)));
    from = λ q le. B.from q (omega arith);
  })

  pub changed-end : (n : ℕ) (ys : List X) → length xs ≤ n → ChangedBelow n ys → ys ≡ changed_at ps f xs
  changed-end n ys le B =
      let s = B.same_length in
      ext_get_or d ys (changed_at ps f xs) (s ∙ sym (length-changed_at ps f xs)) (λ q lt. B.before q (omega (arith, s)))

-- two changes that agree at those places
module _ {X : Type 0} (ps : List ℕ) (f g : ℕ → X → X) (xs : List X) (d : X) where
  pub changed-agree : ((p : ℕ) → p < length xs → has ps p ≡ true → f p (get_or xs p d) ≡ g p (get_or xs p d)) → changed_at ps f xs ≡ changed_at ps g xs
  changed-agree same =
      ext_get_or d (changed_at ps f xs) (changed_at ps g xs) (length-changed_at ps f xs ∙ sym (length-changed_at ps g xs))
      (λ p lt.
      let many = length-changed_at ps f xs in
      let lt' : p < length xs = omega (arith, many) in
      within-changed_at ps f xs p d lt' ∙ (at p lt' ∙ sym (within-changed_at ps g xs p d lt')))
    where
      at : (p : ℕ) → p < length xs → (if has ps p then f p (get_or xs p d) else get_or xs p d) ≡ (if has ps p then g p (get_or xs p d) else get_or xs p d)
      at p lt = by_test (has ps p) (λ y. rw y (same p lt y)) (λ n. rw n refl)
