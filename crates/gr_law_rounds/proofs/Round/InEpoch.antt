-- A place that is up, whatever the mode: what the invariant says of it, and how its work may change it.
use Rattle.std.proofs.Common.{◌≡◌, ◌≢◌, ℕ, ◌+◌, ◌<◌, ◌≤◌, List, true, false, cond, not, ◌==◌, ◌&&◌, ◌||◌, nat_lt, refl, sym, ap, ◌∙◌, arith, Some, set, length, eq-eqb, eqb-true, ne_eqb, inl, lt-ltb, ltb-true}
use Rattle.std.specs.Prelude.{IsTrue}
use Rattle.std.proofs.lemmas.Bool.{and_from, or_right}
use Rattle.gr_base.specs.Places.{IsPlaces, without_place}
use Rattle.gr_base.specs.Rising.{has}
use Rattle.gr_program.specs.Program.{Program}
use Rattle.gr_log.specs.Log.{Log}
use Rattle.gr_batch.specs.declared.batch.Batch.{Batch}
use Rattle.gr_batch.specs.declared.stage.Stage.{Stage}
use Rattle.gr_batch.specs.Stages.{code_of, is_stage, stage_after}
use Rattle.gr_batch.specs.Order.{place_in}
use Rattle.gr_view.specs.Modes.{is_rebuild}
use Rattle.gr_view.specs.Decisions.{parties}
use Rattle.gr_rules.specs.Taken.{log_at}
use Rattle.gr_cluster.specs.Tables.{Host, Cluster, host, log, with_host, effective, effective_arcs, view_of, wanted_in}
use Rattle.gr_cluster.specs.Stages.{stages_of, has_stage}
use Rattle.gr_agree.specs.Truth.{Truth}
use Rattle.gr_agree.specs.Hosts.{HostOpen, AtEpoch, pending_rows, pending_arcs}
use Rattle.gr_agree.specs.Network.{NetworkHolds, is_shown}
use Rattle.gr_agree.specs.Reports.{ReportsHold}
use Rattle.gr_agree.specs.Agree.{Agree}
use Rattle.gr_lists.proofs.Tests.{by_test}
use Rattle.gr_lists.proofs.Any.{has-filter}
use Rattle.gr_law_rounds.specs.Network.{IsKept}
use Rattle.gr_law_rounds.proofs.Network.Frame.{host-with_host, host-with_host-other}
use Rattle.gr_law_rounds.proofs.Network.Kept.{up-party}
use Rattle.gr_law_rounds.proofs.Round.Changed.{reports-same, changed-kept}
use Rattle.gr_law_rounds.proofs.Round.Network.{network-kept}
use Rattle.gr_law_rounds.proofs.Round.Codes.{same-code}

pub other-party : (ps : List ℕ) (p q : ℕ) → has ps q ≡ true → p ≢ q → has (without_place ps p) q ≡ true
other-party ps p q m ne = has-filter (λ r. not (r == p)) ps q ∙ and_from _ _ m (ap not (ne_eqb q p (λ x. ne (sym x))))

-- the stage of a place, which is not the last of the mode, and the next one
pub record Passes {V A : Type 0} (P : Program V A) (t : Truth V) (c : Cluster V A) (p : ℕ) (k : Stage) : Type 0 where
  pub here : IsTrue (has_stage (stages_of c.coordinator.mode) k)
  pub next : IsTrue (has_stage (stages_of c.coordinator.mode) (stage_after k))
  -- before the next one stand those before this one, and this one
  pub before_next : (s : Stage) → has_stage (stages_of c.coordinator.mode) s ≡ true → nat_lt (place_in s) (place_in (stage_after k)) ≡ (nat_lt (place_in s) (place_in k) || is_stage s k)
  -- at its start nothing more is staged
  pub rows : pending_rows P (view_of P c) (wanted_in P c) t p (place_in k + 1) (is_rebuild c.coordinator.mode) ≡ pending_rows P (view_of P c) (wanted_in P c) t p (place_in (stage_after k) + 0) (is_rebuild c.coordinator.mode)
  pub arcs : pending_arcs P (view_of P c) (wanted_in P c) t p (place_in k + 1) (is_rebuild c.coordinator.mode) ≡ pending_arcs P (view_of P c) (wanted_in P c) t p (place_in (stage_after k) + 0) (is_rebuild c.coordinator.mode)

pub later-place : {V A : Type 0} (P : Program V A) (t : Truth V) (c : Cluster V A) (p : ℕ) (k : Stage) → Passes P t c p k → place_in k < place_in (stage_after k)
later-place P t c p k N = ltb-true (place_in k) (place_in (stage_after k)) (N.before_next k N.here ∙ or_right _ _ (eq-eqb (code_of k) (code_of k) refl))

-- a stage before the next one is before this one, or is this one
pub before-or_same : {V A : Type 0} (P : Program V A) (t : Truth V) (c : Cluster V A) (p : ℕ) (k : Stage) → Passes P t c p k
    → (s : Stage) → IsTrue (has_stage (stages_of c.coordinator.mode) s) → place_in s < place_in (stage_after k) → place_in s < place_in k + 1
before-or_same P t c p k N s y l = by_test (nat_lt (place_in s) (place_in k))
    (λ e. let lt = ltb-true (place_in s) (place_in k) e in omega (arith, lt))
    (λ e.
    let same : is_stage s k ≡ true = sym (ap (λ b. b || is_stage s k) e) ∙ (sym (N.before_next s y) ∙ lt-ltb (place_in s) (place_in (stage_after k)) l) in
    let here = ap place_in (same-code s k (eqb-true _ _ same)) in omega (arith, here))

module _ {V A : Type 0} (P : Program V A) (t : Truth V) (c : Cluster V A) (AG : Agree P t c) (p : ℕ) (h : Host V A) (at : host c p ≡ Some h) where
  pub party : has (parties c.coordinator) p ≡ true
  party = up-party P t c AG p h at

  pub opened : HostOpen P (view_of P c) (wanted_in P c) t c.coordinator p h (log c p)
  opened = AG.open_work.hosts p h at party

  -- a host with the same inbox, which shows the same as sent
  pub network-here : (h' : Host V A) → h'.inbox ≡ h.inbox → ((q : ℕ) (s : Stage) → is_shown c.coordinator q (Some h') s ≡ is_shown c.coordinator q (Some h) s)
      → NetworkHolds P (view_of P c) (wanted_in P c) t c.coordinator (host (with_host p (Some h') c)) c.flight
  network-here h' = network-kept P (view_of P c) (wanted_in P c) t c.coordinator (host c) (host (with_host p (Some h') c)) c.flight p h h' at (host-with_host c p h h' at) (host-with_host-other c p h h' at) AG.open_work.network

  module _ (le : c.coordinator.commits ≤ h.installed) (le' : c.coordinator.epoch ≤ h.epoch) where
    pub is-now : h.epoch ≡ c.coordinator.epoch
    is-now = let o = opened.epoch in omega (arith, o, le')

    pub now : (h.epoch == c.coordinator.epoch) ≡ true
    now = eq-eqb _ _ is-now

    pub at-epoch : AtEpoch P (view_of P c) (wanted_in P c) t c.coordinator p h (log c p)
    at-epoch = opened.at_epoch is-now

    -- a host with the same stable layer shows what was shown
    no-install : (k : Host V A) → k.installed ≡ h.installed → (k.installed + 1 == c.coordinator.commits) ≡ false
    no-install k e = let mine = at-epoch.installed in ne_eqb (k.installed + 1) c.coordinator.commits (λ x. absurd (omega (arith, x, e, mine)))

    shown-rows : (k : Host V A) → k.installed ≡ h.installed → k.stable ≡ h.stable → effective c.coordinator.commits k ≡ effective c.coordinator.commits h
    shown-rows k e same = ap (λ b. cond b k.pending k.stable) (no-install k e) ∙ (same ∙ sym (ap (λ b. cond b h.pending h.stable) (no-install h refl)))

    shown-arcs : (k : Host V A) → k.installed ≡ h.installed → k.arcs ≡ h.arcs → effective_arcs c.coordinator.commits k ≡ effective_arcs c.coordinator.commits h
    shown-arcs k e same = ap (λ b. cond b k.pending_arcs k.arcs) (no-install k e) ∙ (same ∙ sym (ap (λ b. cond b h.pending_arcs h.arcs) (no-install h refl)))

    -- the host changes, with the tail of its log, the flight, the count of batches and what was reported, and its stable layer does not
    module _ (h' : Host V A) (is : h'.installed ≡ h.installed) (rows : h'.stable ≡ h.stable) (arcs : h'.arcs ≡ h.arcs) (epoch : h'.epoch ≡ h.epoch)
        (logs : List Log) (as_many : length logs ≡ length c.logs) (committed : (q : ℕ) → (log_at logs q).committed ≡ (log c q).committed) (elsewhere : (q : ℕ) → q ≢ p → log_at logs q ≡ log c q)
        (flight : List (Batch V A)) (serial : ℕ) (after : AtEpoch P (view_of P c) (wanted_in P c) t c.coordinator p h' (log_at logs p))
        (network : NetworkHolds P (view_of P c) (wanted_in P c) t c.coordinator (host (with_host p (Some h') c)) flight) where
      pub report-keeps : (ready : List ℕ) (due : ℕ) → IsPlaces ready → ReportsHold P t (record (c.coordinator) { ready = ready; due = due }) (host (with_host p (Some h') c))
          → IsKept P t c (record c { hosts = set c.hosts p (Some h'); logs = logs; flight = flight; serial = serial; coordinator = record (c.coordinator) { ready = ready; due = due } })
      report-keeps ready due set_ready reports =
          let e = opened.epoch in let mine = at-epoch.installed in
          changed-kept P t c AG p h h' at logs as_many committed elsewhere flight serial ready due
          (shown-rows h' is rows) (shown-arcs h' is arcs) set_ready
          (λ y. record { epoch = omega (arith, e, epoch); installed = inl (is ∙ mine); at_epoch = λ x. after })
          (λ r. let R = AG.open_work.reborn p h at r in record { epoch = epoch ∙ R.epoch; rows = rows ∙ R.rows; arcs = arcs ∙ R.arcs })
          network reports

      -- nor does its report
      pub work-keeps : h'.reported ≡ h.reported → IsKept P t c (record c { hosts = set c.hosts p (Some h'); logs = logs; flight = flight; serial = serial })
      work-keeps reported = report-keeps c.coordinator.ready c.coordinator.due AG.committed.shaped.ready (reports-same P t c AG p h h' at (λ i. (epoch i == c.coordinator.epoch) && reported i))
