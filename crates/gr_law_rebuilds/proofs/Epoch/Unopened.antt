-- A recovery, a repair or a discard that opens no epoch: nothing changes, or a vertex is found lost and the mode alone changes.
use Rattle.std.proofs.Common.{◌≡◌, ℕ, List, true, false, refl, ap, subst, arith, nat_lt, length}
use Rattle.std.specs.Prelude.{if◌then◌else◌}
use Rattle.std.proofs.lemmas.Bool.{and_parts}
use Rattle.gr_program.specs.Program.{Program}
use Rattle.gr_log.specs.Log.{Log}
use Rattle.gr_batch.specs.declared.batch.Batch.{Batch}
use Rattle.gr_sched.specs.declared.event.Event.{Event}
use Rattle.gr_sched.specs.declared.event.Event.TheVariants as event
use Rattle.gr_view.specs.declared.coordinator.Mode.{Mode}
use Rattle.gr_view.specs.declared.coordinator.Mode.TheVariants as mode
use Rattle.gr_view.specs.Modes.{is_over, is_failed, is_recovery}
use Rattle.gr_view.specs.Decisions.{parties, going_back, may_recover, at_recovery, at_repair, at_discard}
use Rattle.gr_cluster.specs.Tables.{Host, Cluster, is_up, log, view_of, wanted_in}
use Rattle.gr_cluster.specs.Step.{down_among, without_hosts, with_coordinator, lost_list, recovered, opened_or_idle, repaired, discarded_or_idle, discarded, step}
use Rattle.gr_agree.specs.Truth.{Truth}
use Rattle.gr_agree.specs.Hosts.{HostOpen}
use Rattle.gr_agree.specs.Network.{BatchHolds}
use Rattle.gr_agree.specs.Agree.{Agree}
use Rattle.gr_lists.proofs.Tests.{by_test}
use Rattle.gr_lists.proofs.Each.{Each-weaker}
use Rattle.gr_law_rounds.specs.Network.{IsKept}
use Rattle.gr_law_rounds.proofs.Network.Same.{shaped-same, places-same, logs-same, unmoved}
use Rattle.gr_law_rounds.proofs.Network.Kept.{kept-same}
use Rattle.gr_law_rebuilds.specs.Epoch.{is_order}

pub failed-mode : (m : Mode) → is_failed m ≡ true → m ≡ mode.Failed
failed-mode mode.Failed y = refl
failed-mode _ y = absurd (let bad : false ≡ true = y in cc)

module _ {V A : Type 0} (P : Program V A) (t : Truth V) (c : Cluster V A) where
  -- the cluster in a mode
  abbrev in_mode : Mode → Cluster V A
  in_mode m = with_coordinator (record c.coordinator { mode = m }) c

  abbrev failed : Cluster V A
  failed = in_mode mode.Failed

  abbrev lost : Cluster V A
  lost = in_mode mode.Lost

  batch-lost : (b : Batch V A) → BatchHolds P (view_of P failed) (wanted_in P failed) t failed.coordinator b → BatchHolds P (view_of P lost) (wanted_in P lost) t lost.coordinator b
  batch-lost b B = record { apart = B.apart; epoch = B.epoch; sender = B.sender; receiver = B.receiver; stage = B.stage; body = B.body }

  host-lost : (p : ℕ) (h : Host V A) (l : Log) → HostOpen P (view_of P failed) (wanted_in P failed) t failed.coordinator p h l → HostOpen P (view_of P lost) (wanted_in P lost) t lost.coordinator p h l
  host-lost p h l O = record {
    epoch = O.epoch;
    installed = O.installed;
    at_epoch = λ e. let E = O.at_epoch e in record {
      installed = E.installed;
      stage = E.stage;
      idle = λ e. absurd (let bad : false ≡ true = e in cc);
      not_sent = E.not_sent;
      unsent_left = E.unsent_left;
      needed = E.needed;
      rows = E.rows;
      arcs = E.arcs;
      tail = E.tail;
      not_torn = E.not_torn;
      reported = E.reported;
    };
  }

  -- a failed cluster that has lost a vertex agrees with the same committed state
  lost-agrees : Agree P t failed → Agree P t lost
  lost-agrees AG = record {
    committed = record {
      shaped = shaped-same failed.coordinator lost.coordinator refl refl refl AG.committed.shaped.ready AG.committed.shaped;
      places = let W = AG.committed.places in
          places-same failed.coordinator lost.coordinator refl (is_up c) (is_up c) (λ p down. down) (λ e. absurd (let bad : true ≡ false = e in cc))
          (λ e. W.none_reborn (λ k. let bad : mode.Failed ≡ mode.Recovering = k in cc)) (λ e. absurd (let bad : mode.Lost ≡ mode.Done = e in cc)) W;
      sound = AG.committed.sound;
      logs = logs-same t failed.coordinator lost.coordinator (log c) (log c) refl (λ p. refl) (λ e. absurd (let bad : mode.Lost ≡ mode.Recovering = e in cc)) AG.committed.logs;
      hosts = AG.committed.hosts;
      round = record { state = AG.committed.round.state; settled = λ e. absurd (let bad : mode.Lost ≡ mode.Done = e in cc) };
    };
    open_work = record {
      network = let N = AG.open_work.network in record {
        in_flight = Each-weaker _ _ batch-lost c.flight N.in_flight;
        in_inbox = λ q. Each-weaker _ _ (λ b B. (batch-lost b B.0, B.1)) _ (N.in_inbox q);
        at_most_one = N.at_most_one;
        only_sent = N.only_sent;
        all_sent = N.all_sent;
      };
      hosts = λ p h at party. host-lost p h (log c p) (AG.open_work.hosts p h at party);
      reborn = AG.open_work.reborn;
      end = record {
        done = λ e. absurd (let bad : mode.Lost ≡ mode.Done = e in cc);
        not_done = λ e. AG.open_work.end.not_done (λ k. let bad : mode.Failed ≡ mode.Done = k in cc);
      };
      reports = let R = AG.open_work.reports in record {
        ready = R.ready;
        none = R.none;
        due = λ e. absurd (let bad : false ≡ true = e in cc);
        due_bounded = λ e. absurd (let bad : false ≡ true = e in cc);
      };
    };
  }

  module _ (AG : Agree P t c) where
    lost-kept : is_failed c.coordinator.mode ≡ true → IsKept P t c lost
    lost-kept was_failed = (unmoved c lost refl refl refl refl, lost-agrees (subst (Agree P t) (ap in_mode (failed-mode c.coordinator.mode was_failed)) AG))

    -- the cluster afterwards is in the same epoch only where nothing opened
    abbrev Keeps : Cluster V A → Type 0
    Keeps d = d.coordinator.epoch ≡ c.coordinator.epoch → IsKept P t c d

    same : Keeps c
    same e = kept-same P t c AG

    unrecovered : (ps : List ℕ) → Keeps (recovered c ps).0
    unfolding recovered at_recovery
    unrecovered ps = by_test (may_recover c.coordinator ps)
        (λ may. by_test (nat_lt 0 (length (lost_list c)))
        (λ some. rw (may, some) (λ e. lost-kept (and_parts (is_failed c.coordinator.mode) _ may).0))
        (λ some. rw (may, some) (λ e. absurd (omega (arith, e)))))
        (λ may. rw may same)

    unrepaired : (m : Mode) → Keeps (opened_or_idle c (at_repair c.coordinator m).1 (with_coordinator (at_repair c.coordinator m).0 c)).0
    unfolding at_repair
    unrepaired mode.Running = λ e. absurd (omega (arith, e))
    unrepaired _ = same

    undiscarded : (ps : List ℕ) (m : Mode) → Keeps (discarded_or_idle c (at_discard c.coordinator ps m).1
        (with_coordinator (at_discard c.coordinator ps m).0 (if is_recovery m then without_hosts (going_back c.coordinator ps) c else c))).0
    unfolding at_discard
    undiscarded ps mode.Failed = same
    undiscarded ps mode.Done = same
    undiscarded ps mode.Lost = same
    undiscarded ps _ = λ e. absurd (omega (arith, e))

    pub unopened-kept : (e : Event) → is_order e ≡ true → Keeps (step P c e).0
    unfolding step repaired discarded
    unopened-kept (event.Recover ps) y = by_test (is_over c.coordinator.mode) (λ o. rw o same) (λ o. rw o (unrecovered ps))
    unopened-kept event.Repair y = by_test (is_over c.coordinator.mode) (λ o. rw o same) (λ o. rw o (unrepaired c.coordinator.mode))
    unopened-kept event.Discard y = by_test (is_over c.coordinator.mode) (λ o. rw o same) (λ o. rw o (undiscarded (down_among c (parties c.coordinator)) c.coordinator.mode))
    unopened-kept _ y = absurd (let bad : false ≡ true = y in cc)
