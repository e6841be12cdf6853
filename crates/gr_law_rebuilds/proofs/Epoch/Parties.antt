-- The hosts in the next epoch: those that stay have yet to adopt it, and the reborn ones begin it.
use Rattle.std.proofs.Common.{◌≡◌, ℕ, ◌+◌, true, false, ◌==◌, ◌&&◌, refl, sym, ap, ◌∙◌, subst, arith, Some, ne_eqb, inl, inr, ⊎_elim}
use Rattle.std.specs.Prelude.{IsTrue, map, if◌then◌else◌}
use Rattle.std.proofs.lemmas.Bool.{and_left, and_right, both_ways}
use Rattle.gr_base.specs.Rising.{has}
use Rattle.gr_program.specs.Program.{Program}
use Rattle.gr_log.specs.Log.{cut_log}
use Rattle.gr_batch.specs.declared.stage.Stage.TheVariants as stage
use Rattle.gr_view.specs.Modes.{is_rebuild}
use Rattle.gr_rules.specs.Rows.{blank_rows, blank_copy}
use Rattle.gr_cluster.specs.Step.{reborn_host}
use Rattle.gr_cluster.specs.Stages.{stages_of, has_stage}
use Rattle.gr_cluster.specs.Tables.{Host, Cluster, host, log, view_of, wanted_in}
use Rattle.gr_agree.specs.Truth.{Truth, rows_at, entries_at}
use Rattle.gr_agree.specs.Hosts.{HostOpen, AtEpoch, RebornHolds, pending_rows, pending_arcs}
use Rattle.gr_agree.specs.Agree.{Agree}
use Rattle.gr_law_rounds.proofs.Network.Kept.{up-party, epoch-le}
use Rattle.gr_law_rebuilds.proofs.Epoch.Opened.{Change, next_coordinator, opened, IsStaying, IsReborn, Opens}

module _ {V A : Type 0} (P : Program V A) (t : Truth V) (c : Cluster V A) (AG : Agree P t c) (x : Change V A) where
  abbrev d : Cluster V A
  d = opened t c x

  staying-open : (p : ℕ) (h : Host V A) → IsStaying t c x p h → HostOpen P (view_of P d) (wanted_in P d) t (next_coordinator t c x) p h (log d p)
  staying-open p h k =
      let was = AG.open_work.hosts p h k.was (up-party P t c AG p h k.was) in let le = was.epoch in
      record {
        epoch = omega (arith, le);
        installed = ⊎_elim (λ e. inl e) (λ e. inr (e.0, let lt = e.1 in omega (arith, lt))) was.installed;
        at_epoch = λ e. absurd (omega (arith, le, e));
      }

  module _ (p : ℕ) (h : Host V A) (r : IsReborn t c x p h) where
    abbrev newborn : Host V A
    newborn = reborn_host (c.coordinator.epoch + 1) c.coordinator.commits (log c p).committed

    -- both layers hold what its log says, without values
    newborn-rows : newborn.pending ≡ pending_rows P (view_of P d) (wanted_in P d) t p 0 (is_rebuild x.mode)
    unfolding blank_rows
    newborn-rows = ap (map blank_copy) r.entries
        ∙ (ap (λ b. if b then map blank_copy (entries_at t p) else rows_at P t p) (sym r.reborn)
        ∙ ap (λ b. pending_rows P (view_of P d) (wanted_in P d) t p 0 b) (sym (ap is_rebuild r.recovering)))

    newborn-arcs : newborn.pending_arcs ≡ pending_arcs P (view_of P d) (wanted_in P d) t p 0 (is_rebuild x.mode)
    newborn-arcs = r.arcs ∙ ap (λ b. pending_arcs P (view_of P d) (wanted_in P d) t p 0 b) (sym (ap is_rebuild r.recovering))

    newborn-begins : AtEpoch P (view_of P d) (wanted_in P d) t (next_coordinator t c x) p newborn (cut_log (log c p))
    newborn-begins = record {
      installed = refl;
      stage = λ e. ap (λ m. has_stage (stages_of m) stage.Ask) r.recovering;
      idle = λ e. refl;
      not_sent = λ e. refl;
      unsent_left = λ e. absurd (let bad : false ≡ true = e in cc);
      needed = λ s e lt. absurd (omega (arith, lt));
      rows = newborn-rows;
      arcs = newborn-arcs;
      tail = refl;
      not_torn = refl;
      reported = λ e. absurd (let bad : false ≡ true = e in cc);
    }

    reborn-open : HostOpen P (view_of P d) (wanted_in P d) t (next_coordinator t c x) p h (log d p)
    reborn-open = subst (λ k. HostOpen P (view_of P d) (wanted_in P d) t (next_coordinator t c x) p k (log d p)) (sym r.is)
        (subst (λ l. HostOpen P (view_of P d) (wanted_in P d) t (next_coordinator t c x) p newborn l) (sym r.cut)
        (record { epoch = omega arith; installed = inl refl; at_epoch = λ e. newborn-begins }))

    reborn-holds : RebornHolds (c.coordinator.epoch + 1) h (log d p)
    reborn-holds = subst (λ k. RebornHolds (c.coordinator.epoch + 1) k (log d p)) (sym r.is)
        (subst (λ l. RebornHolds (c.coordinator.epoch + 1) newborn l) (sym r.cut)
        (record { epoch = refl; rows = refl; arcs = refl }))

    reborn-unready : false ≡ ((h.epoch == c.coordinator.epoch + 1) && h.reported)
    reborn-unready = sym (and_right _ _ (ap (λ (k : Host V A). k.reported) r.is))

  module _ (O : Opens t c x) (p : ℕ) (h : Host V A) (at : host d p ≡ Some h) where
    pub host-later : HostOpen P (view_of P d) (wanted_in P d) t (next_coordinator t c x) p h (log d p)
    host-later = ⊎_elim (staying-open p h) (reborn-open p h) (O.hosts p h at)

    pub reborn-later : IsTrue (has x.reborn p) → RebornHolds (c.coordinator.epoch + 1) h (log d p)
    reborn-later y = ⊎_elim (λ k. absurd (both_ways _ k.not_reborn y)) (reborn-holds p h) (O.hosts p h at)

    -- no party has reported
    pub unready-later : false ≡ ((h.epoch == c.coordinator.epoch + 1) && h.reported)
    unready-later = ⊎_elim
        (λ k. let le = epoch-le P t c AG p h k.was in sym (and_left _ _ (ne_eqb h.epoch (c.coordinator.epoch + 1) (λ e. absurd (omega (arith, le, e))))))
        (reborn-unready p h)
        (O.hosts p h at)
