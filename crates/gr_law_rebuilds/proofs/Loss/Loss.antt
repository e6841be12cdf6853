-- A place goes down: what holds of the places that are up still holds.
use Rattle.std.proofs.Common.{◌≡◌, ◌≢◌, ◌<◌, ◌≤◌, ℕ, true, false, cond, not, ◌==◌, ◌&&◌, refl, sym, ap, ◌∙◌, subst, arith, Option, Some, None, length, eq-eqb, ne_eqb}
use Rattle.std.specs.Prelude.{IsTrue, is_some, count_by}
use Rattle.std.specs.List.{AllByRecursion as Each}
use Rattle.std.proofs.Math.Bool.{and-true}
use Rattle.std.proofs.lemmas.List.{length-set, get_or-set_same, get_or-set_other}
use Rattle.std.proofs.lemmas.Bool.{and_right}
use Rattle.gr_program.specs.Program.{Program}
use Rattle.gr_log.specs.Log.{Log, torn_log}
use Rattle.gr_batch.specs.declared.stage.Stage.{Stage}
use Rattle.gr_batch.specs.Bodies.{is_of}
use Rattle.gr_batch.specs.declared.outcome.Outcome.{Outcome}
use Rattle.gr_sched.specs.declared.event.Event.TheVariants as event
use Rattle.gr_view.specs.declared.coordinator.Mode.TheVariants as mode
use Rattle.gr_view.specs.Modes.{is_over}
use Rattle.gr_cluster.specs.Tables.{Host, Cluster, host, is_up, log, inbox_of, with_host, with_log, view_of, wanted_in}
use Rattle.gr_cluster.specs.Network.{crashed}
use Rattle.gr_cluster.specs.Step.{step}
use Rattle.gr_agree.specs.Truth.{Truth}
use Rattle.gr_agree.specs.Hosts.{HostOpen, RebornHolds}
use Rattle.gr_agree.specs.Network.{BatchHolds, is_shown, standing}
use Rattle.gr_agree.specs.Agree.{Agree}
use Rattle.gr_agree.specs.Laws.{is_crash}
use Rattle.gr_law_rounds.proofs.Network.Frame.{within}
use Rattle.gr_law_rounds.proofs.Network.Same.{shaped-same, places-same, logs-same, log-elsewhere, committed-here}
use Rattle.gr_lists.proofs.Tests.{by_test, by_same}

module _ {V A : Type 0} (P : Program V A) (t : Truth V) (c : Cluster V A) (AG : Agree P t c) (p n : ℕ) (h : Host V A) (at : host c p ≡ Some h) (goes_on : is_over c.coordinator.mode ≡ false) where
  abbrev torn : Log
  torn = torn_log n (log c p)

  abbrev pub d : Cluster V A
  d = with_log p torn (with_host p None c)

  inside : p < length c.logs
  inside = let w = within c p h h at in let a = AG.committed.shaped.hosts in let b = AG.committed.shaped.logs in omega (arith, w, a, b)

  down : host d p ≡ None
  down = get_or-set_same c.hosts p None None (within c p h h at)

  there : (q : ℕ) → q ≢ p → host d q ≡ host c q
  there q ne = get_or-set_other c.hosts p q None None ne

  other-log : (q : ℕ) → q ≢ p → log d q ≡ log c q
  other-log = log-elsewhere c.logs p torn inside

  committed-same : (q : ℕ) → (log d q).committed ≡ (log c q).committed
  committed-same = committed-here c.logs p torn inside refl

  -- a place that is up is another one, and was up
  elsewhere : (q : ℕ) → is_some (host d q) ≡ true → q ≢ p
  elsewhere q up e = let bad : false ≡ true = sym (ap is_some down) ∙ (sym (λ i. is_some (host d (e i))) ∙ up) in cc

  another : (q : ℕ) (k : Host V A) → host d q ≡ Some k → q ≢ p
  another q k is = elsewhere q (ap is_some is)

  was : (q : ℕ) (k : Host V A) → host d q ≡ Some k → host c q ≡ Some k
  was q k is = sym (there q (another q k is)) ∙ is

  pub up-after : (q : ℕ) → is_up d q ≡ is_up c q && not (q == p)
  up-after q = by_same q p
      (λ e. (λ i. is_some (host d (e i))) ∙ (ap is_some down ∙ sym (ap (λ b. is_up c q && not b) (eq-eqb q p e) ∙ and_right (is_up c q) false refl)))
      (λ ne. ap is_some (there q ne) ∙ sym (ap (λ b. is_up c q && not b) (ne_eqb q p ne) ∙ and-true (is_up c q)))

  -- no more is up than before
  up-before : (q : ℕ) → is_up c q ≡ false → is_up d q ≡ false
  up-before q off = up-after q ∙ ap (λ b. b && not (q == p)) off

  not-done : c.coordinator.mode ≢ mode.Done
  not-done e = let bad : true ≡ false = sym (ap is_over e) ∙ goes_on in cc

  inbox-less : (p' q e : ℕ) (s : Stage) → count_by (is_of p' e s) (inbox_of (host d q)) ≤ count_by (is_of p' e s) (inbox_of (host c q))
  inbox-less p' q e s = by_same q p
      (λ k. let none : count_by (is_of p' e s) (inbox_of (host d q)) ≡ 0 = ap (λ o. count_by (is_of p' e s) (inbox_of o)) ((λ i. host d (k i)) ∙ down) in omega (arith, none))
      (λ ne. let same : count_by (is_of p' e s) (inbox_of (host d q)) ≡ count_by (is_of p' e s) (inbox_of (host c q)) = ap (λ o. count_by (is_of p' e s) (inbox_of o)) (there q ne) in omega (arith, same))

  pub loss-agrees : Agree P t d
  loss-agrees = record {
    committed = record {
      shaped = shaped-same c.coordinator c.coordinator refl (length-set c.hosts p None) (length-set c.logs p torn) AG.committed.shaped.ready AG.committed.shaped;
      places = let W = AG.committed.places in places-same c.coordinator c.coordinator refl (is_up c) (is_up d) up-before W.none_dead W.none_reborn (λ e. absurd (not-done e)) W;
      sound = AG.committed.sound;
      logs = logs-same t c.coordinator c.coordinator (log c) (log d) refl committed-same AG.committed.logs.alive AG.committed.logs;
      hosts = λ q k is live. AG.committed.hosts q k (was q k is) live;
      round = AG.committed.round;
    };
    open_work = record {
      network = let N = AG.open_work.network in record {
        in_flight = N.in_flight;
        in_inbox = λ q. by_same q p
            (λ e. subst (λ o. Each (λ b. BatchHolds P (view_of P c) (wanted_in P c) t c.coordinator b × (b.receiver ≡ q)) (inbox_of o)) (sym ((λ i. host d (e i)) ∙ down)) tt)
            (λ ne. subst (λ o. Each (λ b. BatchHolds P (view_of P c) (wanted_in P c) t c.coordinator b × (b.receiver ≡ q)) (inbox_of o)) (sym (there q ne)) (N.in_inbox q));
        at_most_one = λ p' q e s. let old = N.at_most_one p' q e s in let less = inbox-less p' q e s in omega (arith, old, less);
        only_sent = λ p' q s up. let ne = elsewhere p' up in
            let old = N.only_sent p' q s (sym (ap is_some (there p' ne)) ∙ up) in let less = inbox-less p' q c.coordinator.epoch s in
            let shown : cond {A = ℕ} (is_shown c.coordinator q (host d p') s) 1 0 ≡ cond (is_shown c.coordinator q (host c p') s) 1 0 = ap (λ o. cond (is_shown c.coordinator q o s) 1 0) (there p' ne) in omega (arith, old, less, shown);
        all_sent = λ p' q s up up' party party' apart. let ne = elsewhere p' up in let ne' = elsewhere q up' in
            (λ i. standing c.flight (there q ne' i) p' q c.coordinator.epoch s)
            ∙ (N.all_sent p' q s (sym (ap is_some (there p' ne)) ∙ up) (sym (ap is_some (there q ne')) ∙ up') party party' apart ∙ ap (λ o. cond (is_shown c.coordinator q o s) 1 0) (sym (there p' ne)));
      };
      hosts = λ q k is party. subst (λ l. HostOpen P (view_of P c) (wanted_in P c) t c.coordinator q k l) (sym (other-log q (another q k is))) (AG.open_work.hosts q k (was q k is) party);
      reborn = λ q k is y. subst (λ l. RebornHolds c.coordinator.epoch k l) (sym (other-log q (another q k is))) (AG.open_work.reborn q k (was q k is) y);
      end = AG.open_work.end;
      reports = let R = AG.open_work.reports in record {
        ready = λ q k is party. R.ready q k (was q k is) party;
        none = R.none;
        due = R.due;
        due_bounded = R.due_bounded;
      };
    };
  }

module _ {V A : Type 0} (P : Program V A) (t : Truth V) (c : Cluster V A) (p n : ℕ) (AG : Agree P t c) where
  -- where the outcome is a crash, the place was up, and is down now
  abbrev Lost : Cluster V A × Outcome V A → Type 0
  Lost r = IsTrue (is_crash r.1) → ((q : ℕ) → is_up r.0 q ≡ is_up c q && not (q == p)) × Agree P t r.0

  crashed-kept : is_over c.coordinator.mode ≡ false → (o : Option (Host V A)) → host c p ≡ o → Lost (crashed c p n o)
  unfolding crashed
  crashed-kept goes_on None at = λ y. absurd (let bad : false ≡ true = y in cc)
  crashed-kept goes_on (Some h) at = λ y. (up-after P t c AG p n h at goes_on, loss-agrees P t c AG p n h at goes_on)

  pub loss-kept : Lost (step P c (event.Crash p n))
  unfolding step
  loss-kept = by_test (is_over c.coordinator.mode)
      (λ o. rw o (λ y. absurd (let bad : false ≡ true = y in cc)))
      (λ o. rw o (crashed-kept o (host c p) refl))
