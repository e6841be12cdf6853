-- What is left is bounded by the batches in flight and the number of places that take part.
use Rattle.std.proofs.Common.{◌≡◌, ℕ, ◌+◌, ◌*◌, ◌≤◌, Bool, true, false, cond, not, ◌==◌, ◌&&◌, nat_lt, refl, sym, ap, ◌∙◌, arith, Option, Some, None, length}
use Rattle.std.specs.Prelude.{sum_by}
use Rattle.std.proofs.lemmas.List.Sums.{sum_by-le-sum_by}
use Rattle.gr_base.specs.Rising.{has, union}
use Rattle.gr_base.proofs.Union.{union-nil}
use Rattle.gr_program.specs.Program.{Program}
use Rattle.gr_view.specs.declared.coordinator.Coordinator.{Coordinator}
use Rattle.gr_view.specs.declared.coordinator.Mode.{Mode}
use Rattle.gr_view.specs.declared.coordinator.Mode.TheVariants as mode
use Rattle.gr_view.specs.Modes.{is_failed, is_open, is_over, is_rebuild}
use Rattle.gr_view.specs.Decisions.{parties, looked_at}
use Rattle.gr_cluster.specs.Tables.{Host, Cluster, host}
use Rattle.gr_cluster.specs.Stages.{stages_of}
use Rattle.gr_cluster.specs.Todo.{others}
use Rattle.gr_cluster.specs.Work.{exchange_of}
use Rattle.gr_cluster.specs.Left.{left_at, left_where, left}
use Rattle.gr_agree.specs.Truth.{Truth}
use Rattle.gr_agree.specs.Agree.{Agree}
use Rattle.gr_lists.proofs.Tests.{by_test}
use Rattle.gr_law_runs.proofs.Left.Sums.{sum_by-bounded, without-shorter}
use Rattle.gr_law_runs.proofs.Left.Stages.{most_of, left_in, left_in-most}
use Rattle.gr_law_runs.proofs.Left.Places.{left_of_parties, left-over, left-goes_on}

-- an install, an adoption, the stages of a mode with n others, an append and a report
most-of-mode : (m : Mode) (n : ℕ) → 2 + sum_by (most_of n) (stages_of m) + cond (is_rebuild m) 1 0 + cond (is_open m) 1 0 ≤ 8 * (n + 1)
most-of-mode mode.Running n = omega arith
most-of-mode _ n = omega arith

one-at-most : (b : Bool) → cond {A = ℕ} b 1 0 ≤ 1
one-at-most true = omega arith
one-at-most false = omega arith

within-test : (a b : Bool) → cond {A = ℕ} (a && b) 1 0 ≤ cond a 1 0
within-test true b = one-at-most b
within-test false b = omega arith

module _ {V A : Type 0} (co : Coordinator) (p : ℕ) where
  left_at-bounded : (h : Host V A) → left_at co p h ≤ 8 * (length (others co p) + 1)
  left_at-bounded h =
      let a = one-at-most (nat_lt h.installed co.commits) in let b = one-at-most (nat_lt h.epoch co.epoch) in
      let stages = sum_by-le-sum_by (left_in (h.epoch == co.epoch) (others co p) (exchange_of h)) (most_of (length (others co p))) (stages_of co.mode) (left_in-most (h.epoch == co.epoch) (others co p) (exchange_of h)) in
      let d = within-test (is_rebuild co.mode) (not ((h.epoch == co.epoch) && h.appended)) in let e = within-test (is_open co.mode) (not ((h.epoch == co.epoch) && h.reported)) in
      let most = most-of-mode co.mode (length (others co p)) in omega (arith, a, b, stages, d, e, most)

  left_where-bounded : has (parties co) p ≡ true → (o : Option (Host V A)) → left_where co p o ≤ 8 * length (parties co)
  left_where-bounded party None = omega arith
  left_where-bounded party (Some h) = let shorter = without-shorter (parties co) p party in let l = left_at-bounded h in omega (arith, shorter, l)

-- what the parties have left is eight times the square of their number at most
pub parties-bounded : {V A : Type 0} (c : Cluster V A) → left_of_parties c ≤ 8 * length (parties c.coordinator) * length (parties c.coordinator)
parties-bounded c =
    let l = sum_by-bounded (λ p. left_where c.coordinator p (host c p)) (8 * length (parties c.coordinator)) (parties c.coordinator) (λ p party. left_where-bounded c.coordinator p party (host c p)) in omega (arith, l)

module _ {V A : Type 0} (P : Program V A) (t : Truth V) (c : Cluster V A) (AG : Agree P t c) where
  -- a barrier looks at the parties
  looks-at-parties : length (looked_at c.coordinator) ≡ length (parties c.coordinator)
  looks-at-parties = by_test (is_failed c.coordinator.mode)
      (λ f. rw f (ap length (sym (ap (union c.coordinator.live) (AG.committed.places.none_reborn (λ r. let bad : false ≡ true = sym (ap is_failed r) ∙ f in cc)) ∙ union-nil c.coordinator.live))))
      (λ f. rw f refl)

  pub left-bounded : left c ≤ length c.flight + 8 * length (looked_at c.coordinator) * length (looked_at c.coordinator) + 1
  left-bounded = by_test (is_over c.coordinator.mode)
      (λ o. let none = left-over c o in omega (arith, none))
      (λ o. let a = left-goes_on c o in let l = parties-bounded c in let same = looks-at-parties in
      let bound : 8 * length (parties c.coordinator) * length (parties c.coordinator) ≡ 8 * length (looked_at c.coordinator) * length (looked_at c.coordinator) = ap (λ n. 8 * n * n) (sym same) in omega (arith, a, l, bound))
