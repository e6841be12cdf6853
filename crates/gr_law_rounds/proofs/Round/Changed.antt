-- A cluster in which one host has changed, and with it the tail of its log, the flight and what was reported.
use Rattle.std.proofs.Common.{◌≡◌, ◌≢◌, ℕ, ◌==◌, ◌&&◌, List, refl, sym, ap, ◌∙◌, subst, Some, set, length}
use Rattle.std.specs.Prelude.{is_some, IsTrue, option_map}
use Rattle.std.proofs.lemmas.List.{length-set}
use Rattle.gr_base.specs.Places.{IsPlaces}
use Rattle.gr_base.specs.Rising.{has}
use Rattle.gr_program.specs.Program.{Program}
use Rattle.gr_log.specs.Log.{Log}
use Rattle.gr_log.specs.Directory.{edges_in}
use Rattle.gr_batch.specs.declared.batch.Batch.{Batch}
use Rattle.gr_view.specs.declared.coordinator.Coordinator.{Coordinator}
use Rattle.gr_view.specs.Decisions.{parties}
use Rattle.gr_rules.specs.Rows.{blank_rows}
use Rattle.gr_rules.specs.Taken.{log_at}
use Rattle.gr_cluster.specs.Tables.{Host, Cluster, host, is_up, log, with_host, inbox_of, effective, effective_arcs, view_of, wanted_in}
use Rattle.gr_agree.specs.Truth.{Truth}
use Rattle.gr_agree.specs.Hosts.{HostHolds, RebornHolds, HostOpen}
use Rattle.gr_agree.specs.Network.{BatchHolds, NetworkHolds}
use Rattle.gr_agree.specs.Reports.{ReportsHold}
use Rattle.gr_agree.specs.Agree.{Agree}
use Rattle.gr_law_rounds.specs.Network.{IsKept}
use Rattle.gr_law_rounds.proofs.Network.Frame.{host-with_host, host-with_host-other, each-host, same-of-host}
use Rattle.gr_law_rounds.proofs.Network.Same.{committed-same, shaped-same, places-same, logs-same, line-same}
use Rattle.gr_lists.proofs.Each.{Each-weaker}
use Rattle.gr_lists.proofs.Tests.{by_same}

module _ {V A : Type 0} (P : Program V A) (t : Truth V) (c : Cluster V A) (AG : Agree P t c) (p : ℕ) (h h' : Host V A) (at : host c p ≡ Some h) where
  -- what each host reports, where that at p does as it did
  pub reports-same : ((h'.epoch == c.coordinator.epoch) && h'.reported) ≡ ((h.epoch == c.coordinator.epoch) && h.reported) → ReportsHold P t c.coordinator (host (with_host p (Some h') c))
  reports-same e = let R = AG.open_work.reports in record {
    ready = each-host c p h h' at (λ q k. IsTrue (has (parties c.coordinator) q) → has c.coordinator.ready q ≡ ((k.epoch == c.coordinator.epoch) && k.reported)) (λ y. R.ready p h at y ∙ sym e) R.ready;
    none = R.none;
    due = R.due;
    due_bounded = R.due_bounded;
  }

module _ {V A : Type 0} (P : Program V A) (t : Truth V) (c : Cluster V A) (AG : Agree P t c) (p : ℕ) (h h' : Host V A) (at : host c p ≡ Some h)
    (logs : List Log) (as_many : length logs ≡ length c.logs) (committed : (q : ℕ) → (log_at logs q).committed ≡ (log c q).committed) (elsewhere : (q : ℕ) → q ≢ p → log_at logs q ≡ log c q)
    (flight : List (Batch V A)) (serial : ℕ) (ready : List ℕ) (due : ℕ) where
  abbrev reported_co : Coordinator
  reported_co = record (c.coordinator) { ready = ready; due = due }

  abbrev pub changed : Cluster V A
  changed = record c { hosts = set c.hosts p (Some h'); logs = logs; flight = flight; serial = serial; coordinator = reported_co }

  -- the open work does not read what was reported
  open-reported : (q : ℕ) (k : Host V A) (l : Log) → HostOpen P (view_of P c) (wanted_in P c) t c.coordinator q k l → HostOpen P (view_of P c) (wanted_in P c) t reported_co q k l
  open-reported q k l O = record {
    epoch = O.epoch;
    installed = O.installed;
    at_epoch = λ e. let E = O.at_epoch e in
        line-same P (view_of P c) (wanted_in P c) t c.coordinator ready due q k k.inbox k.sent k.appended k.reported l l E.not_sent E.unsent_left E.needed E.tail E.not_torn E.reported E;
  }

  batch-reported : (b : Batch V A) → BatchHolds P (view_of P c) (wanted_in P c) t c.coordinator b → BatchHolds P (view_of P c) (wanted_in P c) t reported_co b
  batch-reported b B = record { apart = B.apart; epoch = B.epoch; sender = B.sender; receiver = B.receiver; stage = B.stage; body = B.body }

  network-reported : NetworkHolds P (view_of P c) (wanted_in P c) t c.coordinator (host changed) flight → NetworkHolds P (view_of P c) (wanted_in P c) t reported_co (host changed) flight
  network-reported N = record {
    in_flight = Each-weaker _ _ batch-reported flight N.in_flight;
    in_inbox = λ q. Each-weaker _ _ (λ b x. (batch-reported b x.0, x.1)) (inbox_of (host changed q)) (N.in_inbox q);
    at_most_one = N.at_most_one;
    only_sent = N.only_sent;
    all_sent = N.all_sent;
  }

  log-other : (q : ℕ) → q ≢ p → (k : Host V A) → HostOpen P (view_of P c) (wanted_in P c) t c.coordinator q k (log c q) → HostOpen P (view_of P c) (wanted_in P c) t c.coordinator q k (log_at logs q)
  log-other q ne k O = subst (λ l. HostOpen P (view_of P c) (wanted_in P c) t c.coordinator q k l) (sym (elsewhere q ne)) O

  abbrev OpenAt : ℕ → Host V A → Type 0
  OpenAt q k = IsTrue (has (parties c.coordinator) q) → HostOpen P (view_of P c) (wanted_in P c) t reported_co q k (log_at logs q)

  abbrev RebornAt : ℕ → Host V A → Type 0
  RebornAt q k = IsTrue (has c.coordinator.reborn q) → RebornHolds c.coordinator.epoch k (log_at logs q)

  -- what a log commits decides what a reborn place holds
  reborn-logs : (q : ℕ) (k : Host V A) → RebornHolds c.coordinator.epoch k (log c q) → RebornHolds c.coordinator.epoch k (log_at logs q)
  reborn-logs q k R = record {
    epoch = R.epoch;
    rows = R.rows ∙ ap blank_rows (sym (committed q));
    arcs = R.arcs ∙ ap edges_in (sym (committed q));
  }

  pub changed-kept : effective c.coordinator.commits h' ≡ effective c.coordinator.commits h → effective_arcs c.coordinator.commits h' ≡ effective_arcs c.coordinator.commits h → IsPlaces ready
      → (IsTrue (has (parties c.coordinator) p) → HostOpen P (view_of P c) (wanted_in P c) t c.coordinator p h' (log_at logs p))
      → (IsTrue (has c.coordinator.reborn p) → RebornHolds c.coordinator.epoch h' (log c p))
      → NetworkHolds P (view_of P c) (wanted_in P c) t c.coordinator (host changed) flight
      → ReportsHold P t reported_co (host changed)
      → IsKept P t c changed
  changed-kept rows arcs set_ready opened reborn network reports = (
    committed-same c changed refl (same-of-host c p h h' at (λ o. option_map (effective c.coordinator.commits) o) (ap Some rows))
        (same-of-host c p h h' at (λ o. option_map (effective_arcs c.coordinator.commits) o) (ap Some arcs)) committed,
    record {
      committed = record {
        shaped = shaped-same c.coordinator reported_co refl (length-set c.hosts p (Some h')) as_many set_ready AG.committed.shaped;
        places = let up = same-of-host c p h h' at is_some refl in let L = AG.committed.places in
            places-same c.coordinator reported_co refl (is_up c) (is_up changed) (λ q down. up q ∙ down) L.none_dead L.none_reborn (λ m q l. up q ∙ L.done_up m q l) L;
        sound = AG.committed.sound;
        logs = logs-same t c.coordinator reported_co (log c) (log changed) refl committed AG.committed.logs.alive AG.committed.logs;
        hosts = each-host c p h h' at (λ q k. IsTrue (has c.coordinator.live q) → HostHolds P t c.coordinator.commits q k)
            (λ live. let H = AG.committed.hosts p h at live in record { rows = rows ∙ H.rows; arcs = arcs ∙ H.arcs }) AG.committed.hosts;
        round = record { state = AG.committed.round.state; settled = AG.committed.round.settled };
      };
      open_work = record {
        network = network-reported network;
        hosts = λ q k is. by_same q p
            (λ e. subst (λ r. OpenAt r k) (sym e) (subst (OpenAt p) (at-p q k is e) (λ party. open-reported p h' (log_at logs p) (opened party))))
            (λ ne party. open-reported q k (log_at logs q) (log-other q ne k (AG.open_work.hosts q k (sym (host-with_host-other c p h h' at q ne) ∙ is) party)));
        reborn = each-host c p h h' at RebornAt (λ r. reborn-logs p h' (reborn r)) (λ q k is r. reborn-logs q k (AG.open_work.reborn q k is r));
        end = record { done = AG.open_work.end.done; not_done = AG.open_work.end.not_done };
        reports = reports;
      };
    },
  )
    where
      at-p : (q : ℕ) (k : Host V A) → host changed q ≡ Some k → q ≡ p → h' ≡ k
      at-p q k is e = let same : Some h' ≡ Some k = sym (host-with_host c p h h' at) ∙ (ap (host changed) (sym e) ∙ is) in cc
