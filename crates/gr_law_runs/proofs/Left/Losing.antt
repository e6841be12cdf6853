-- Deliveries, drops and crashes leave no more, and a delivery leaves less.
use Rattle.std.proofs.Common.{◌≡◌, ℕ, ◌+◌, ◌<◌, ◌≤◌, [], ◌∷◌, ◌++◌, true, ◌||◌, refl, sym, ap, ◌∙◌, subst, arith, Option, Some, None, nat_lt, length, slice_get, remove, le_refl}
use Rattle.std.specs.Prelude.{is_none}
use Rattle.std.proofs.lemmas.List.{get_or-set_same, get_or-set_other}
use Rattle.std.proofs.lemmas.List.Sums.{sum_by-le-sum_by}
use Rattle.gr_batch.specs.declared.batch.Batch.{Batch}
use Rattle.gr_view.specs.Decisions.{parties}
use Rattle.gr_cluster.specs.Tables.{Host, Cluster, host, with_host}
use Rattle.gr_cluster.specs.Network.{received, delivered, dropped, crashed}
use Rattle.gr_cluster.specs.Left.{left_where}
use Rattle.gr_lists.proofs.Tests.{by_same, by_test}
use Rattle.gr_lists.proofs.Counts.{count_by-remove}
use Rattle.gr_law_rounds.proofs.Network.Frame.{within, with_host-same, host-with_host}
use Rattle.gr_law_runs.proofs.Left.Places.{left_of_parties, unfinished}
use Rattle.gr_law_runs.proofs.Left.Sums.{count_by-all}

module _ {V A : Type 0} (c : Cluster V A) where
  -- the host of one place has no more left
  parties-no_more : (p : ℕ) (o : Option (Host V A)) → left_where c.coordinator p (host (with_host p o c) p) ≤ left_where c.coordinator p (host c p) → left_of_parties (with_host p o c) ≤ left_of_parties c
  parties-no_more p o le = sum_by-le-sum_by (λ q. left_where c.coordinator q (host (with_host p o c) q)) (λ q. left_where c.coordinator q (host c q)) (parties c.coordinator)
      (λ q. by_same q p
      (λ e. subst (λ r. left_where c.coordinator r (host (with_host p o c) r) ≤ left_where c.coordinator r (host c r)) (sym e) le)
      (λ ne. let same = ap (left_where c.coordinator q) (get_or-set_other c.hosts p q o None ne) in omega (arith, same)))

  pub removed-shorter : (b : Batch V A) (i : ℕ) → slice_get c.flight i ≡ Some b → length (remove c.flight i) + 1 ≡ length c.flight
  removed-shorter b i is = let all = count_by-all c.flight in let rest = count_by-all (remove c.flight i) in let one = count_by-remove (λ _. true) b c.flight i is in omega (arith, all, rest, one)

  -- what a place has left does not depend on its inbox
  received-same : (b : Batch V A) (o : Option (Host V A)) → host c b.receiver ≡ o → left_where c.coordinator b.receiver (host (with_host b.receiver (received b o) c) b.receiver) ≡ left_where c.coordinator b.receiver (host c b.receiver)
  received-same b None at = ap (left_where c.coordinator b.receiver) (λ i. host (record c { hosts = with_host-same c b.receiver None at i }) b.receiver)
  received-same b (Some h) at = by_test (nat_lt b.epoch h.epoch)
      (λ e. rw e (ap (left_where c.coordinator b.receiver) (host-with_host c b.receiver h h at ∙ sym at)))
      (λ e. rw e (ap (left_where c.coordinator b.receiver) (host-with_host c b.receiver h (record h { inbox = h.inbox ++ b ∷ [] }) at) ∙ ap (left_where c.coordinator b.receiver) (sym at)))

  pub delivered-less : (b : Batch V A) (i : ℕ) → slice_get c.flight i ≡ Some b → unfinished (delivered c i (Some b)).0 < unfinished c
  unfolding delivered
  delivered-less b i is =
      let less = removed-shorter b i is in let same = received-same b (host c b.receiver) refl in
      let l = parties-no_more b.receiver (received b (host c b.receiver)) (omega (arith, same)) in omega (arith, less, l)

  pub delivered-no_more : (i : ℕ) (o : Option (Batch V A)) → slice_get c.flight i ≡ o → unfinished (delivered c i o).0 ≤ unfinished c
  unfolding delivered
  delivered-no_more i None is = le_refl _
  delivered-no_more i (Some b) is = let l = delivered-less b i is in omega (arith, l)

  pub dropped-no_more : (i : ℕ) (o : Option (Batch V A)) → slice_get c.flight i ≡ o → unfinished (dropped c i o).0 ≤ unfinished c
  unfolding dropped
  dropped-no_more i None is = le_refl _
  dropped-no_more i (Some b) is = let less = removed-shorter b i is in by_test (nat_lt b.epoch c.coordinator.epoch || is_none (host c b.sender))
      (λ e. rw e (omega (arith, less)))
      (λ e. rw e (le_refl _))

  pub crashed-no_more : (p n : ℕ) (o : Option (Host V A)) → host c p ≡ o → unfinished (crashed c p n o).0 ≤ unfinished c
  unfolding crashed
  crashed-no_more p n None at = le_refl _
  crashed-no_more p n (Some h) at =
      let gone : left_where c.coordinator p (host (with_host p None c) p) ≡ 0 = ap (left_where c.coordinator p) (get_or-set_same c.hosts p None None (within c p h h at)) in
      let l = parties-no_more p None (omega (arith, gone)) in omega (arith, l)
