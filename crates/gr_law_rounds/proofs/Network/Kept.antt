-- A delivery and a drop keep the invariant.
use Rattle.std.proofs.Common.{◌≡◌, ℕ, ◌<◌, ◌≤◌, List, [], ◌∷◌, ◌++◌, Bool, true, false, ◌||◌, ◌==◌, refl, sym, ap, ◌∙◌, subst, arith, Option, Some, None, slice_get, remove, nat_lt, ltb-true, lt-ltb, ne_eqb}
use Rattle.std.specs.Prelude.{is_some, IsTrue}
use Rattle.std.specs.List.{list_any}
use Rattle.std.proofs.lemmas.Bool.{and_left, and_right, or_right, cond-true}
use Rattle.gr_base.specs.Rising.{has}
use Rattle.gr_base.proofs.Union.{has-union}
use Rattle.gr_program.specs.Program.{Program}
use Rattle.gr_batch.specs.declared.batch.Batch.{Batch}
use Rattle.gr_batch.specs.declared.stage.Stage.{Stage}
use Rattle.gr_batch.specs.Bodies.{is_from, is_of}
use Rattle.gr_sched.specs.declared.event.Event.TheVariants as event
use Rattle.gr_view.specs.Modes.{is_over}
use Rattle.gr_view.specs.Decisions.{parties}
use Rattle.gr_cluster.specs.Tables.{Host, Cluster, host, is_up, log, with_host, view_of, wanted_in}
use Rattle.gr_cluster.specs.Network.{received, delivered, dropped}
use Rattle.gr_cluster.specs.Step.{step}
use Rattle.gr_agree.specs.Truth.{Truth}
use Rattle.gr_agree.specs.Places.{sets_with}
use Rattle.gr_agree.specs.Hosts.{HasNeeded, HostOpen}
use Rattle.gr_agree.specs.Agree.{Agree}
use Rattle.gr_law_rounds.specs.Network.{IsKept}
use Rattle.gr_lists.proofs.Tests.{by_test, by_option}
use Rattle.gr_law_rounds.proofs.Network.Frame.{within, with_host-same, host-with_host, host-with_host-other}
use Rattle.gr_law_rounds.proofs.Network.Same.{unmoved, line-same}
use Rattle.gr_law_rounds.proofs.Network.Removal.{network-removed}
use Rattle.gr_law_rounds.proofs.Network.Taken.{network-taken}
use Rattle.gr_law_rounds.proofs.Round.Changed.{reports-same, changed-kept}

list_any-append : {X : Type 0} (f : X → Bool) (xs ys : List X) → list_any f (xs ++ ys) ≡ (list_any f xs || list_any f ys)
list_any-append f [] ys = refl
list_any-append f (x ∷ xs) ys = by_test (f x) (λ e. rw e refl) (λ e. rw e (list_any-append f xs ys))

module _ {V A : Type 0} (P : Program V A) (t : Truth V) (c : Cluster V A) (AG : Agree P t c) where
  pub kept-same : IsKept P t c c
  kept-same = (unmoved c c refl refl refl refl, AG)

  -- a batch that binds nobody leaves the flight
  kept-removed : (b : Batch V A) (i : ℕ) → slice_get c.flight i ≡ Some b
      → ((p q : ℕ) (s : Stage) → IsTrue (is_up c p) → IsTrue (is_up c q) → is_from p q c.coordinator.epoch s b ≡ false)
      → IsKept P t c (record c { flight = remove c.flight i })
  kept-removed b i is free = (
    unmoved c (record c { flight = remove c.flight i }) refl refl refl refl,
    record {
      committed = let K = AG.committed in record { shaped = K.shaped; places = K.places; sound = K.sound; logs = K.logs; hosts = K.hosts; round = K.round };
      open_work = record {
        network = network-removed P (view_of P c) (wanted_in P c) t c.coordinator (host c) c.flight AG.open_work.network b i is free;
        hosts = AG.open_work.hosts;
        reborn = AG.open_work.reborn;
        end = AG.open_work.end;
        reports = AG.open_work.reports;
      };
    },
  )

  -- one of an older epoch, or to a place that is down, or from one
  old-binds-nobody : (b : Batch V A) → b.epoch < c.coordinator.epoch → (p q : ℕ) (s : Stage) → is_from p q c.coordinator.epoch s b ≡ false
  old-binds-nobody b old p q s = and_right (b.receiver == q) _ (and_right (b.sender == p) _ (and_left _ _ (ne_eqb b.epoch c.coordinator.epoch (λ x. absurd (omega (arith, old, x))))))

  to-a-down-place : (b : Batch V A) → host c b.receiver ≡ None → (p q : ℕ) (s : Stage) → IsTrue (is_up c q) → is_from p q c.coordinator.epoch s b ≡ false
  to-a-down-place b down p q s up = and_left _ _ (ne_eqb b.receiver q (λ x. let bad : false ≡ true = sym (ap is_some down) ∙ (ap (λ r. is_some (host c r)) x ∙ up) in cc))

  from-a-down-place : (b : Batch V A) → host c b.sender ≡ None → (p q : ℕ) (s : Stage) → IsTrue (is_up c p) → is_from p q c.coordinator.epoch s b ≡ false
  from-a-down-place b down p q s up = and_right (b.receiver == q) _ (and_left _ _ (ne_eqb b.sender p (λ x. let bad : false ≡ true = sym (ap is_some down) ∙ (ap (λ r. is_some (host c r)) x ∙ up) in cc)))

  -- what is needed stays in an inbox that grows
  needed-more : (others : List ℕ) (e : ℕ) (inbox more : List (Batch V A)) (o : Option Stage) → HasNeeded others e inbox o → HasNeeded others e (inbox ++ more) o
  needed-more others e inbox more None x = tt
  needed-more others e inbox more (Some s) x = λ q m. list_any-append (is_of q e s) inbox more ∙ ap (λ b. b || list_any (is_of q e s) more) (x q m)

  module _ (b : Batch V A) (i : ℕ) (is : slice_get c.flight i ≡ Some b) (h : Host V A) (at : host c b.receiver ≡ Some h) where
    abbrev given : Host V A
    given = record h { inbox = h.inbox ++ b ∷ [] }

    abbrev after : Cluster V A
    after = record (with_host b.receiver (Some given) c) { flight = remove c.flight i }

    open-given : HostOpen P (view_of P c) (wanted_in P c) t c.coordinator b.receiver h (log c b.receiver) → HostOpen P (view_of P c) (wanted_in P c) t c.coordinator b.receiver given (log c b.receiver)
    open-given O = record {
      epoch = O.epoch;
      installed = O.installed;
      at_epoch = λ e. let E = O.at_epoch e in let co = c.coordinator in let l = log c b.receiver in
          line-same P (view_of P c) (wanted_in P c) t co co.ready co.due b.receiver h given.inbox h.sent h.appended h.reported l l E.not_sent E.unsent_left
          (λ s has lt. needed-more _ h.epoch h.inbox (b ∷ []) _ (E.needed s has lt)) E.tail E.not_torn E.reported E;
    }

    kept-given : IsKept P t c after
    kept-given =
        let co = c.coordinator in
        changed-kept P t c AG b.receiver h given at c.logs refl (λ q. refl) (λ q ne. refl) (remove c.flight i) c.serial co.ready co.due refl refl AG.committed.shaped.ready
        (λ party. open-given (AG.open_work.hosts b.receiver h at party))
        (λ is_reborn. let R = AG.open_work.reborn b.receiver h at is_reborn in record { epoch = R.epoch; rows = R.rows; arcs = R.arcs })
        (network-taken P (view_of P c) (wanted_in P c) t co (host c) (host after) c.flight b i is h at (host-with_host c b.receiver h given at) (host-with_host-other c b.receiver h given at) AG.open_work.network)
        (reports-same P t c AG b.receiver h given at refl)

  -- the host at a place is as it was
  unchanged : (b : Batch V A) (i : ℕ) (o : Option (Host V A)) → host c b.receiver ≡ o → IsKept P t c (record c { flight = remove c.flight i })
      → IsKept P t c (record (with_host b.receiver o c) { flight = remove c.flight i })
  unchanged b i o at K = subst (λ hs. IsKept P t c (record c { hosts = hs; flight = remove c.flight i })) (sym (with_host-same c b.receiver o at)) K

  -- a place that is up is a party
  pub up-party : (p : ℕ) (h : Host V A) → host c p ≡ Some h → has (parties c.coordinator) p ≡ true
  up-party p h at =
      let co = c.coordinator in
      let PL = AG.committed.places in
      let up : is_up c p ≡ true = ap is_some at in
      let lt : p < c.places = subst (λ n. p < n) AG.committed.shaped.hosts (within c p h h at) in
      let one : sets_with co p ≡ 1 = PL.one_set p ∙ cond-true (nat_lt p c.places) 1 0 (lt-ltb p c.places lt) in
      has-union p co.live co.reborn ∙ by_test (has co.live p)
      (λ l. ap (λ x. x || has co.reborn p) l)
      (λ no_live. by_test (has co.retired p)
      (λ r. absurd (let bad : true ≡ false = sym up ∙ PL.retired_down p r in cc))
      (λ no_retired. by_test (has co.dead p)
      (λ d. by_test (has co.reborn p)
      (λ b. ap (λ x. has co.live p || x) b ∙ or_right _ _ refl)
      (λ no_reborn. absurd (let bad : true ≡ false = sym up ∙ PL.dead_down p d no_reborn in cc)))
      (λ no_dead. absurd (let one' = rw (no_live, no_dead, no_retired) at one in omega (arith, one')))))

  pub epoch-le : (p : ℕ) (h : Host V A) → host c p ≡ Some h → h.epoch ≤ c.coordinator.epoch
  epoch-le p h at = (AG.open_work.hosts p h at (up-party p h at)).epoch

  received-kept : (b : Batch V A) (i : ℕ) → slice_get c.flight i ≡ Some b → (o : Option (Host V A)) → host c b.receiver ≡ o
      → IsKept P t c (record (with_host b.receiver (received b o) c) { flight = remove c.flight i })
  received-kept b i is None at = unchanged b i None at (kept-removed b i is (λ p q s up up'. to-a-down-place b at p q s up'))
  received-kept b i is (Some h) at = by_test (nat_lt b.epoch h.epoch)
      (λ e. let lt = ltb-true b.epoch h.epoch e in let le = epoch-le b.receiver h at in
      rw e (unchanged b i (Some h) at (kept-removed b i is (λ p q s up up'. old-binds-nobody b (omega (arith, lt, le)) p q s))))
      (λ e. rw e (kept-given b i is h at))

  delivered-kept : (i : ℕ) (o : Option (Batch V A)) → slice_get c.flight i ≡ o → IsKept P t c (delivered c i o).0
  unfolding delivered
  delivered-kept i None is = kept-same
  delivered-kept i (Some b) is = received-kept b i is (host c b.receiver) refl

  dropped-kept : (i : ℕ) (o : Option (Batch V A)) → slice_get c.flight i ≡ o → IsKept P t c (dropped c i o).0
  unfolding dropped
  dropped-kept i None is = kept-same
  dropped-kept i (Some b) is = by_test (nat_lt b.epoch c.coordinator.epoch)
      (λ e. rw e (kept-removed b i is (λ p q s up up'. old-binds-nobody b (ltb-true b.epoch c.coordinator.epoch e) p q s)))
      (λ e. by_option (host c b.sender)
      (λ down. rw (e, down) (kept-removed b i is (λ p q s up up'. from-a-down-place b down p q s up)))
      (λ h at. rw (e, at) kept-same))

  pub deliver-kept : (i : ℕ) → IsKept P t c (step P c (event.Deliver i)).0
  unfolding step
  deliver-kept i = by_test (is_over c.coordinator.mode)
      (λ e. rw e kept-same)
      (λ e. rw e (delivered-kept i (slice_get c.flight i) refl))

  pub drop-kept : (i : ℕ) → IsKept P t c (step P c (event.Discarded i)).0
  unfolding step
  drop-kept i = by_test (is_over c.coordinator.mode)
      (λ e. rw e kept-same)
      (λ e. rw e (dropped-kept i (slice_get c.flight i) refl))
