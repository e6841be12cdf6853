-- The batches, where one goes from the flight into the inbox of its receiver.
use Rattle.std.proofs.Common.{◌≡◌, ◌≢◌, ℕ, ◌≤◌, List, [], ◌∷◌, ◌++◌, true, cond, ◌==◌, refl, sym, ap, ◌∙◌, subst, arith, Option, Some, slice_get, remove, ne_eqb, eq-eqb}
use Rattle.std.specs.Prelude.{is_some, count_by}
use Rattle.std.specs.List.{AllByRecursion as Each}
use Rattle.std.proofs.lemmas.Bool.{and_left}
use Rattle.gr_program.specs.Program.{Program}
use Rattle.gr_copies.specs.declared.view.RebuildView.{RebuildView}
use Rattle.gr_batch.specs.declared.batch.Batch.{Batch}
use Rattle.gr_batch.specs.declared.stage.Stage.{Stage}
use Rattle.gr_batch.specs.Bodies.{is_from, is_of}
use Rattle.gr_view.specs.declared.coordinator.Coordinator.{Coordinator}
use Rattle.gr_cluster.specs.Tables.{Host, inbox_of}
use Rattle.gr_agree.specs.Truth.{Truth}
use Rattle.gr_agree.specs.Network.{BatchHolds, NetworkHolds, standing, is_shown}
use Rattle.gr_lists.proofs.Tests.{by_same}
use Rattle.gr_lists.proofs.Counts.{count_by-remove, count_by-append, count_by-cons}
use Rattle.gr_lists.proofs.Each.{Each-append, Each-remove, Each-get}

module _ {V A : Type 0} (P : Program V A) (w : RebuildView) (want : ℕ) (t : Truth V) (co : Coordinator) (host_of host_of' : ℕ → Option (Host V A)) (flight : List (Batch V A))
    (b : Batch V A) (i : ℕ) (is : slice_get flight i ≡ Some b) (h : Host V A)
    (here : host_of b.receiver ≡ Some h) (here' : host_of' b.receiver ≡ Some (record h { inbox = h.inbox ++ b ∷ [] })) (there : (q : ℕ) → q ≢ b.receiver → host_of' q ≡ host_of q)
    (N : NetworkHolds P w want t co host_of flight) where
  -- as many batches stand as before
  standing-taken : (p q e : ℕ) (s : Stage) → standing (remove flight i) (host_of' q) p q e s ≡ standing flight (host_of q) p q e s
  standing-taken p q e s = let less = count_by-remove (is_from p q e s) b flight i is in by_same q b.receiver
      (λ k.
      let inbox : count_by (is_of p e s) (inbox_of (host_of q)) ≡ count_by (is_of p e s) h.inbox = ap (λ o. count_by (is_of p e s) (inbox_of o)) (ap host_of k ∙ here) in
      let inbox' : count_by (is_of p e s) (inbox_of (host_of' q)) ≡ count_by (is_of p e s) (h.inbox ++ b ∷ []) = ap (λ o. count_by (is_of p e s) (inbox_of o)) (ap host_of' k ∙ here') in
      let more = count_by-append (is_of p e s) h.inbox (b ∷ []) in let one = count_by-cons (is_of p e s) b [] in
      let same : cond {A = ℕ} (is_from p q e s b) 1 0 ≡ cond (is_of p e s b) 1 0 = by_receiver k in omega (arith, less, inbox, inbox', more, one, same))
      (λ no.
      let other : cond {A = ℕ} (is_from p q e s b) 1 0 ≡ 0 = ap (λ x. cond x 1 0) (and_left _ _ (ne_eqb b.receiver q (λ x. no (sym x)))) in
      let inbox : count_by (is_of p e s) (inbox_of (host_of' q)) ≡ count_by (is_of p e s) (inbox_of (host_of q)) = ap (λ o. count_by (is_of p e s) (inbox_of o)) (there q no) in omega (arith, less, other, inbox))
    where
      by_receiver : q ≡ b.receiver → cond {A = ℕ} (is_from p q e s b) 1 0 ≡ cond (is_of p e s b) 1 0
      by_receiver k = let yes : (b.receiver == q) ≡ true = eq-eqb b.receiver q (sym k) in rw yes refl

  up-same : (q : ℕ) → is_some (host_of' q) ≡ is_some (host_of q)
  up-same q = by_same q b.receiver
      (λ k. ap (λ r. is_some (host_of' r)) k ∙ (ap is_some here' ∙ (ap is_some (sym here) ∙ ap (λ r. is_some (host_of r)) (sym k))))
      (λ no. ap is_some (there q no))

  shown-same : (q p : ℕ) (s : Stage) → is_shown co q (host_of' p) s ≡ is_shown co q (host_of p) s
  shown-same q p s = by_same p b.receiver
      (λ k. ap (λ r. is_shown co q (host_of' r) s) k ∙ (ap (λ o. is_shown co q o s) here' ∙ (ap (λ o. is_shown co q o s) (sym here) ∙ ap (λ r. is_shown co q (host_of r) s) (sym k))))
      (λ no. ap (λ o. is_shown co q o s) (there p no))

  inbox-taken : (q : ℕ) → Each (λ x. BatchHolds P w want t co x × (x.receiver ≡ q)) (inbox_of (host_of' q))
  inbox-taken q = by_same q b.receiver
      (λ k. let old : Each (λ x. BatchHolds P w want t co x × (x.receiver ≡ q)) h.inbox = subst (λ o. Each (λ x. BatchHolds P w want t co x × (x.receiver ≡ q)) (inbox_of o)) (ap host_of k ∙ here) (N.in_inbox q) in
      let new : Each (λ x. BatchHolds P w want t co x × (x.receiver ≡ q)) (h.inbox ++ b ∷ []) = Each-append _ h.inbox (b ∷ []) old ((Each-get _ b flight i is N.in_flight, sym k), tt) in
      subst (λ o. Each (λ x. BatchHolds P w want t co x × (x.receiver ≡ q)) (inbox_of o)) (sym (ap host_of' k ∙ here')) new)
      (λ no. subst (λ o. Each (λ x. BatchHolds P w want t co x × (x.receiver ≡ q)) (inbox_of o)) (sym (there q no)) (N.in_inbox q))

  pub network-taken : NetworkHolds P w want t co host_of' (remove flight i)
  network-taken = record {
    in_flight = Each-remove _ flight i N.in_flight;
    in_inbox = inbox-taken;
    at_most_one = λ p q e s. subst (λ n. n ≤ 1) (sym (standing-taken p q e s)) (N.at_most_one p q e s);
    only_sent = λ p q s up.
        let stand = standing-taken p q co.epoch s in
        let shown : cond {A = ℕ} (is_shown co q (host_of' p) s) 1 0 ≡ cond (is_shown co q (host_of p) s) 1 0 = ap (λ x. cond x 1 0) (shown-same q p s) in
        let was = N.only_sent p q s (sym (up-same p) ∙ up) in omega (arith, stand, shown, was);
    all_sent = λ p q s up up' party party' apart.
        let stand = standing-taken p q co.epoch s in
        let shown : cond {A = ℕ} (is_shown co q (host_of' p) s) 1 0 ≡ cond (is_shown co q (host_of p) s) 1 0 = ap (λ x. cond x 1 0) (shown-same q p s) in
        let was = N.all_sent p q s (sym (up-same p) ∙ up) (sym (up-same q) ∙ up') party party' apart in omega (arith, stand, shown, was);
  }
