-- The batches in the next epoch: those of before are old, and nobody has sent.
use Rattle.std.proofs.Common.{◌≡◌, ℕ, ◌+◌, ◌≤◌, List, [], false, cond, ◌&&◌, ◌||◌, nat_lt, refl, sym, ap, ◌∙◌, subst, arith, Some, ne_eqb, ⊎_elim, le-ltb}
use Rattle.std.specs.Prelude.{count_by}
use Rattle.std.specs.List.{AllByRecursion as Each}
use Rattle.std.proofs.lemmas.Bool.{and_left, and_right}
use Rattle.gr_program.specs.Program.{Program}
use Rattle.gr_batch.specs.declared.batch.Batch.{Batch}
use Rattle.gr_batch.specs.declared.stage.Stage.{Stage}
use Rattle.gr_batch.specs.declared.stage.Stage.TheVariants as stage
use Rattle.gr_batch.specs.Stages.{is_stage}
use Rattle.gr_batch.specs.Order.{place_in}
use Rattle.gr_batch.specs.Bodies.{is_of}
use Rattle.gr_cluster.specs.Tables.{Host, Cluster, host, inbox_of, view_of, wanted_in}
use Rattle.gr_agree.specs.Truth.{Truth}
use Rattle.gr_agree.specs.Network.{BatchHolds, NetworkHolds, standing, is_shown, shows_sent}
use Rattle.gr_agree.specs.Agree.{Agree}
use Rattle.gr_lists.proofs.Tests.{by_option}
use Rattle.gr_lists.proofs.Each.{Each-weaker}
use Rattle.gr_law_rounds.proofs.Network.Kept.{epoch-le}
use Rattle.gr_law_rounds.proofs.Network.Later.{none-of-above, none-from-above, batch-later}
use Rattle.gr_law_rebuilds.proofs.Epoch.Opened.{Change, next_coordinator, opened, Opens}

module _ {V A : Type 0} (P : Program V A) (t : Truth V) (c : Cluster V A) (AG : Agree P t c) (x : Change V A) (O : Opens t c x) where
  abbrev d : Cluster V A
  d = opened t c x

  -- an inbox is empty, or that of before
  inbox-was : (q : ℕ) (Q : List (Batch V A) → Type 0) → Q [] → Q (inbox_of (host c q)) → Q (inbox_of (host d q))
  inbox-was q Q none same = by_option (host d q)
      (λ down. subst (λ o. Q (inbox_of o)) (sym down) none)
      (λ h at. subst (λ o. Q (inbox_of o)) (sym at) (⊎_elim
      (λ s. subst (λ o. Q (inbox_of o)) s.was same)
      (λ r. subst (λ (k : Host V A). Q k.inbox) (sym r.is) none)
      (O.hosts q h at)))

  -- no line shows a batch of the new epoch as sent
  unshown : (p q : ℕ) (s : Stage) (h : Host V A) → host d p ≡ Some h → shows_sent (next_coordinator t c x) q h s ≡ false
  unshown p q s h at = ⊎_elim
      (λ k. let le = epoch-le P t c AG p h k.was in and_left _ _ (ne_eqb h.epoch (c.coordinator.epoch + 1) (λ e. absurd (omega (arith, le, e)))))
      (λ r. subst (λ k. shows_sent (next_coordinator t c x) q k s ≡ false) (sym r.is) (and_right _ _ (and_right _ _ (first-unsent s))))
      (O.hosts p h at)
    where
      first-unsent : (s : Stage) → (nat_lt (place_in s) 0 || (is_stage s stage.Ask && false)) ≡ false
      first-unsent s = rw (le-ltb (place_in s) 0 (omega arith)) (and_right (is_stage s stage.Ask) false refl)

  none-shown : (p q : ℕ) (s : Stage) → is_shown (next_coordinator t c x) q (host d p) s ≡ false
  none-shown p q s = by_option (host d p)
      (λ down. ap (λ o. is_shown (next_coordinator t c x) q o s) down)
      (λ h at. ap (λ o. is_shown (next_coordinator t c x) q o s) at ∙ unshown p q s h at)

  none-stands : (p q : ℕ) (s : Stage) → standing c.flight (host d q) p q (c.coordinator.epoch + 1) s ≡ 0
  none-stands p q s =
      let N = AG.open_work.network in
      let a = none-from-above c.coordinator.epoch p q s c.flight (Each-weaker _ _ (λ b B. B.epoch) c.flight N.in_flight) in
      let b = inbox-was q (λ bs. count_by (is_of p (c.coordinator.epoch + 1) s) bs ≡ 0) refl
      (none-of-above c.coordinator.epoch p s (inbox_of (host c q)) (Each-weaker _ _ (λ b B. (B.0).epoch) (inbox_of (host c q)) (N.in_inbox q))) in
      omega (arith, a, b)

  pub network-later : NetworkHolds P (view_of P d) (wanted_in P d) t (next_coordinator t c x) (host d) c.flight
  network-later = let N = AG.open_work.network in record {
    in_flight = Each-weaker _ _ later c.flight N.in_flight;
    in_inbox = λ q. inbox-was q (λ bs. Each (λ b. BatchHolds P (view_of P d) (wanted_in P d) t (next_coordinator t c x) b × (b.receiver ≡ q)) bs) tt
        (Each-weaker _ _ (λ b B. (later b B.0, B.1)) (inbox_of (host c q)) (N.in_inbox q));
    at_most_one = λ p q e s. let old = N.at_most_one p q e s in
        let less = inbox-was q (λ bs. count_by (is_of p e s) bs ≤ count_by (is_of p e s) (inbox_of (host c q))) (omega arith) (omega arith) in omega (arith, old, less);
    only_sent = λ p q s up. let z = none-stands p q s in omega (arith, z);
    all_sent = λ p q s up up' party party' apart. none-stands p q s ∙ sym (ap (λ b. cond b 1 0) (none-shown p q s));
  }
    where
      later : (b : Batch V A) → BatchHolds P (view_of P c) (wanted_in P c) t c.coordinator b → BatchHolds P (view_of P d) (wanted_in P d) t (next_coordinator t c x) b
      later = batch-later P (view_of P c) (wanted_in P c) t c.coordinator (view_of P d) (wanted_in P d) t (next_coordinator t c x) refl
