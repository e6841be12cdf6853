-- The open work after a commit: nobody has adopted the next epoch.
use Rattle.std.proofs.Common.{◌≡◌, ℕ, ◌+◌, List, [], true, false, cond, ◌==◌, ◌&&◌, refl, sym, ap, ◌∙◌, arith, Option, Some, None, eq-eqb, eqb-true, ne_eqb, inr}
use Rattle.std.specs.Prelude.{IsTrue, count_by}
use Rattle.std.proofs.lemmas.Bool.{and_left, and_parts}
use Rattle.gr_base.specs.Rising.{has}
use Rattle.gr_program.specs.Program.{Program}
use Rattle.gr_log.specs.Log.{Log}
use Rattle.gr_batch.specs.declared.batch.Batch.{Batch}
use Rattle.gr_batch.specs.declared.stage.Stage.{Stage}
use Rattle.gr_view.specs.declared.coordinator.Coordinator.{Coordinator}
use Rattle.gr_view.specs.Modes.{is_rebuild}
use Rattle.gr_view.specs.Decisions.{parties}
use Rattle.gr_cluster.specs.Tables.{Host, Cluster, host, log, inbox_of, effective, effective_arcs, view_of, wanted_in}
use Rattle.gr_agree.specs.Truth.{Truth}
use Rattle.gr_agree.specs.TrueRound.{active_next}
use Rattle.gr_agree.specs.Hosts.{progress, AtEpoch}
use Rattle.gr_agree.specs.Network.{BatchHolds, standing, is_shown}
use Rattle.gr_agree.specs.Reports.{EndHolds}
use Rattle.gr_agree.specs.Agree.{Agree, Open}
use Rattle.gr_lists.proofs.Each.{Each-weaker}
use Rattle.gr_law_rounds.proofs.Network.Kept.{up-party, epoch-le}
use Rattle.gr_law_rounds.proofs.Network.Later.{none-reported, batch-later, none-stands-later}

module _ {V A : Type 0} (P : Program V A) (t : Truth V) (c : Cluster V A) (AG : Agree P t c) (all : (p : ℕ) → has (parties c.coordinator) p ≡ true → has c.coordinator.ready p ≡ true) where
  module _ (p : ℕ) (h : Host V A) (at : host c p ≡ Some h) where
    -- it has reported, and so has computed the end, and in a rebuild has appended
    pub reported-at : AtEpoch P (view_of P c) (wanted_in P c) t c.coordinator p h (log c p) × (progress h ≡ 5) × (IsTrue (is_rebuild c.coordinator.mode) → IsTrue h.appended)
    reported-at =
        let party = up-party P t c AG p h at in
        let r = and_parts (h.epoch == c.coordinator.epoch) h.reported (sym (AG.open_work.reports.ready p h at party) ∙ all p party) in
        let E = (AG.open_work.hosts p h at party).at_epoch (eqb-true _ _ r.0) in let e = E.reported r.1 in (E, e.0, e.1)

    -- its pending layer is the effective one
    pub pending-shown : (effective (c.coordinator.commits + 1) h ≡ h.pending) × (effective_arcs (c.coordinator.commits + 1) h ≡ h.pending_arcs)
    pending-shown =
        let is = (reported-at.0).installed in
        let yes : (h.installed + 1 == c.coordinator.commits + 1) ≡ true = eq-eqb _ _ (omega (arith, is)) in
        (ap (λ b. cond b h.pending h.stable) yes, ap (λ b. cond b h.pending_arcs h.arcs) yes)

    not-adopted : (h.epoch == c.coordinator.epoch + 1) ≡ false
    not-adopted = let le = epoch-le P t c AG p h at in ne_eqb h.epoch (c.coordinator.epoch + 1) (λ x. absurd (omega (arith, le, x)))

  module _ (t' : Truth V) (co' : Coordinator) (logs : List Log) (next : co'.epoch ≡ c.coordinator.epoch + 1) (commits : co'.commits ≡ c.coordinator.commits + 1)
      (unready : co'.ready ≡ []) (zero : co'.due ≡ 0) (no_reborn : co'.reborn ≡ []) (ends : EndHolds P t' co') where
    abbrev d : Cluster V A
    d = record c { logs = logs; coordinator = co' }

    not-in_next : (p : ℕ) (h : Host V A) → host c p ≡ Some h → (h.epoch == co'.epoch) ≡ false
    not-in_next p h at = ap (λ e. h.epoch == e) next ∙ not-adopted p h at

    none-shown : (p q : ℕ) (s : Stage) (o : Option (Host V A)) → host c p ≡ o → is_shown co' q o s ≡ false
    none-shown p q s None at = refl
    none-shown p q s (Some h) at = and_left _ _ (not-in_next p h at)

    batch-next : (b : Batch V A) → BatchHolds P (view_of P c) (wanted_in P c) t c.coordinator b → BatchHolds P (view_of P d) (wanted_in P d) t' co' b
    batch-next = batch-later P (view_of P c) (wanted_in P c) t c.coordinator (view_of P d) (wanted_in P d) t' co' next

    none-stands : (p q : ℕ) (s : Stage) → standing c.flight (host c q) p q co'.epoch s ≡ 0
    none-stands p q s = ap (λ e. standing c.flight (host c q) p q e s) next ∙ none-stands-later P (view_of P c) (wanted_in P c) t c.coordinator (host c) c.flight AG.open_work.network p q s

    pub open-committed : Open P t' d
    open-committed = record {
      network = let N = AG.open_work.network in record {
        in_flight = Each-weaker _ _ batch-next c.flight N.in_flight;
        in_inbox = λ q. Each-weaker _ _ (λ b k. (batch-next b k.0, k.1)) (inbox_of (host c q)) (N.in_inbox q);
        at_most_one = N.at_most_one;
        only_sent = λ p q s y. let z = none-stands p q s in omega (arith, z);
        all_sent = λ p q s y y' a b ne. none-stands p q s ∙ sym (ap (λ x. cond x 1 0) (none-shown p q s (host c p) refl));
      };
      hosts = λ q h at y. let is = ((reported-at q h at).0).installed in let le = epoch-le P t c AG q h at in
          record { epoch = omega (arith, le, next); installed = inr (omega (arith, is, commits), omega (arith, le, next)); at_epoch = λ x. absurd (omega (arith, le, next, x)) };
      reborn = λ q h at y. absurd (let bad : false ≡ true = sym (ap (λ l. has l q) no_reborn) ∙ y in cc);
      end = ends;
      reports = record {
        ready = λ q h at y. ap (λ l. has l q) unready ∙ sym (and_left _ _ (not-in_next q h at));
        none = λ e. (unready, zero);
        due = λ e. zero ∙ (sym (none-reported (active_next P t') t'.master t'.vertices) ∙ ap (λ l. count_by (λ v. active_next P t' v && has l (t'.master v)) t'.vertices) (sym unready));
        due_bounded = λ e. omega (arith, zero);
      };
    }
