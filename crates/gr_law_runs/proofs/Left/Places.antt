-- What the parties of a cluster have left, and how it falls where the host of one place changes.
use Rattle.std.proofs.Common.{◌≡◌, ℕ, ◌+◌, ◌≤◌, true, false, ◌==◌, refl, sym, ap, subst, arith, Some, length, eqb-true}
use Rattle.std.specs.Prelude.{sum_by}
use Rattle.gr_base.specs.Rising.{has}
use Rattle.gr_view.specs.Decisions.{parties}
use Rattle.gr_view.specs.Modes.{is_over}
use Rattle.gr_cluster.specs.Tables.{Host, Cluster, host, with_host}
use Rattle.gr_cluster.specs.Left.{left_at, left_where, left}
use Rattle.gr_lists.proofs.Tests.{by_same}
use Rattle.gr_law_rounds.proofs.Network.Frame.{host-with_host, host-with_host-other}
use Rattle.gr_law_runs.proofs.Left.Sums.{sum_by-falls}

module _ {V A : Type 0} (c : Cluster V A) where
  -- what the parties have left
  abbrev pub left_of_parties : ℕ
  left_of_parties = sum_by (λ p. left_where c.coordinator p (host c p)) (parties c.coordinator)

  -- the batches in flight, and what the parties have left
  abbrev pub unfinished : ℕ
  unfinished = length c.flight + left_of_parties

  pub left-over : is_over c.coordinator.mode ≡ true → left c ≡ 0
  unfolding left
  left-over o = rw o refl

  pub left-goes_on : is_over c.coordinator.mode ≡ false → left c ≡ 1 + unfinished
  unfolding left
  left-goes_on o = rw o (omega arith)

module _ {V A : Type 0} (c : Cluster V A) (p : ℕ) (h h' : Host V A) (at : host c p ≡ Some h) where
  here : left_where c.coordinator p (host c p) ≡ left_at c.coordinator p h
  here = ap (left_where c.coordinator p) at

  here' : left_where c.coordinator p (host (with_host p (Some h') c) p) ≡ left_at c.coordinator p h'
  here' = ap (left_where c.coordinator p) (host-with_host c p h h' at)

  -- a party has d less left than before
  pub parties-lower : (d : ℕ) → has (parties c.coordinator) p ≡ true → left_at c.coordinator p h' + d ≤ left_at c.coordinator p h → left_of_parties (with_host p (Some h') c) + d ≤ left_of_parties c
  parties-lower d party le = sum_by-falls (λ q. left_where c.coordinator q (host (with_host p (Some h') c) q)) (λ q. left_where c.coordinator q (host c q)) (λ q. q == p) d
      (λ q. by_same q p (λ e. let l = at-place q e in omega (arith, l)) (λ ne. let same = ap (left_where c.coordinator q) (host-with_host-other c p h h' at q ne) in omega (arith, same)))
      (λ q e. at-place q (eqb-true q p e)) (parties c.coordinator) party
    where
      at-place : (q : ℕ) → q ≡ p → left_where c.coordinator q (host (with_host p (Some h') c) q) + d ≤ left_where c.coordinator q (host c q)
      at-place q e = subst (λ r. left_where c.coordinator r (host (with_host p (Some h') c) r) + d ≤ left_where c.coordinator r (host c r)) (sym e) (let a = here in let b = here' in omega (arith, a, b, le))
