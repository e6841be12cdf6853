-- Where no place is reborn no host goes back to the spares.
use Rattle.std.proofs.Common.{◌≡◌, ℕ, List, [], ◌∷◌, refl, ap, ◌∙◌, None, map, ◌+◌, if◌then◌else◌}
use Rattle.std.specs.List.{enumerate_from}
use Rattle.gr_base.specs.Rising.{has, without}
use Rattle.gr_log.specs.Log.{cut_log}
use Rattle.gr_view.specs.Decisions.{going_back}
use Rattle.gr_cluster.specs.Tables.{Cluster, changed_at}
use Rattle.gr_cluster.specs.Step.{without_hosts}

module _ {X : Type 0} (f : ℕ → X → X) where
  unchanged-from : (n : ℕ) (xs : List X) → map (λ x. if has [] x.0 then f x.0 x.1 else x.1) (enumerate_from n xs) ≡ xs
  unchanged-from n [] = refl
  unchanged-from n (x ∷ xs) = ap (λ l. x ∷ l) (unchanged-from (n + 1) xs)

  -- a table with the entries of no place changed
  changed_at-none : (xs : List X) → changed_at [] f xs ≡ xs
  changed_at-none xs = unchanged-from 0 xs

module _ {V A : Type 0} (c : Cluster V A) where
  without_hosts-none : without_hosts [] c ≡ c
  without_hosts-none = λ i. record c { hosts = changed_at-none (λ _ _. None) c.hosts i; logs = changed_at-none (λ _. cut_log) c.logs i }

  pub nobody-back : c.coordinator.reborn ≡ [] → (ps : List ℕ) → without_hosts (going_back c.coordinator ps) c ≡ c
  nobody-back none ps = ap (λ qs. without_hosts (without qs ps) c) none ∙ without_hosts-none
