-- A party that has adopted the epoch of a rebuild, and what a change of its host keeps.
use Rattle.std.proofs.Common.{◌≡◌, ◌<◌, ◌≤◌, ℕ, ◌+◌, Bool, true, false, sym, ap, ◌∙◌, subst, arith, Some, le-ltb, if◌then◌else◌}
use Rattle.std.specs.Prelude.{IsTrue}
use Rattle.gr_program.specs.Program.{Program}
use Rattle.gr_log.specs.Directory.{with_items}
use Rattle.gr_batch.specs.declared.stage.Stage.{Stage}
use Rattle.gr_batch.specs.Stages.{is_end, stage_after}
use Rattle.gr_batch.specs.Order.{place_in}
use Rattle.gr_view.specs.Modes.{is_rebuild}
use Rattle.gr_rules.specs.Exchange.{needed}
use Rattle.gr_cluster.specs.Tables.{Host, Cluster, host, log, view_of, wanted_in}
use Rattle.gr_cluster.specs.Stages.{stages_of, has_stage}
use Rattle.gr_cluster.specs.Work.{first_stage}
use Rattle.gr_cluster.specs.Todo.{others}
use Rattle.gr_agree.specs.Truth.{Truth, arcs_at}
use Rattle.gr_agree.specs.Rebuilt.{true_taken, true_granted, stable_at}
use Rattle.gr_agree.specs.Hosts.{progress, HasNeeded, AtEpoch, pending_rows, pending_arcs}
use Rattle.gr_agree.specs.Agree.{Agree}
use Rattle.gr_law_rounds.proofs.Round.InEpoch.{Passes, is-now as now_is, at-epoch as now_at}
use Rattle.gr_law_rounds.proofs.Round.Install.{first-place, HasStart}
use Rattle.gr_law_rebuilds.proofs.Rebuild.Parties.{stable-here}
use Rattle.gr_law_rebuilds.proofs.Rebuild.Stages.{IsRebuildStage, IsRebuildMode, rebuild-mode, stage-follows, before-next, next-place}

module _ {V A : Type 0} (P : Program V A) (t : Truth V) (c : Cluster V A) (AG : Agree P t c) (rebuilding : is_rebuild c.coordinator.mode ≡ true) (p : ℕ) (h : Host V A) (at : host c p ≡ Some h) where
  pub the-mode : IsRebuildMode c.coordinator.mode
  the-mode = rebuild-mode c.coordinator.mode rebuilding

  -- the pending layer before the end is computed
  pub rows-until : (k : ℕ) → k ≤ 4 → pending_rows P (view_of P c) (wanted_in P c) t p k (is_rebuild c.coordinator.mode) ≡ stable_at P (view_of P c) (wanted_in P c) t p
  rows-until k l = ap (λ b. pending_rows P (view_of P c) (wanted_in P c) t p k b) rebuilding
      ∙ ap (λ b. if b then with_items (λ r. r.vertex) (true_granted P (view_of P c) (wanted_in P c) t p) (stable_at P (view_of P c) (wanted_in P c) t p) else stable_at P (view_of P c) (wanted_in P c) t p) (le-ltb 4 k l)

  pub arcs-until : (k : ℕ) → k ≤ 4 → pending_arcs P (view_of P c) (wanted_in P c) t p k (is_rebuild c.coordinator.mode) ≡ arcs_at t p
  arcs-until k l = ap (λ b. pending_arcs P (view_of P c) (wanted_in P c) t p k b) rebuilding
      ∙ ap (λ b. if b then with_items (λ a. a.number) (true_taken (view_of P c) t p) (arcs_at t p) else arcs_at t p) (le-ltb 4 k l)

  -- a rebuild starts from the stable layer
  pub starts : h.installed ≡ c.coordinator.commits → HasStart P t c p h
  starts is =
      let S = stable-here P t c AG rebuilding p h at is in let k = place_in (first_stage c.coordinator.mode) + 0 in let z = first-place c.coordinator.mode in
      (S.0 ∙ sym (rows-until k (omega (arith, z))), S.1 ∙ sym (arcs-until k (omega (arith, z))))

  module _ (le : c.coordinator.commits ≤ h.installed) (le' : c.coordinator.epoch ≤ h.epoch) where
    pub is-now : h.epoch ≡ c.coordinator.epoch
    is-now = now_is P t c AG p h at le le'

    pub at-epoch : AtEpoch P (view_of P c) (wanted_in P c) t c.coordinator p h (log c p)
    at-epoch = now_at P t c AG p h at le le'

    pub stable-is : (h.stable ≡ stable_at P (view_of P c) (wanted_in P c) t p) × (h.arcs ≡ arcs_at t p)
    stable-is = stable-here P t c AG rebuilding p h at at-epoch.installed

    pub listed : (s : Stage) → IsRebuildStage s → IsTrue (has_stage (stages_of c.coordinator.mode) s)
    listed s r = subst (λ l. IsTrue (has_stage l s)) (sym the-mode.stages) r

    pub of-rebuild : (s : Stage) → IsTrue (has_stage (stages_of c.coordinator.mode) s) → IsRebuildStage s
    of-rebuild s r = subst (λ l. IsTrue (has_stage l s)) the-mode.stages r

    pub stage-here : IsRebuildStage h.stage
    stage-here = of-rebuild h.stage (at-epoch.stage the-mode.open_mode)

    abbrev pub NeededIn : Bool → Stage → Type 0
    NeededIn b s = HasNeeded (others c.coordinator p) h.epoch h.inbox (needed b s)

    -- what the computed stages needed
    pub needed-before : (s : Stage) → place_in s < progress h → IsRebuildStage s → NeededIn true s
    needed-before s lt r = subst (λ b. NeededIn b s) rebuilding (at-epoch.needed s (listed s r) lt)

    pub passing : is_end h.stage ≡ false → Passes P t c p h.stage
    passing sends = let next = next-place h.stage stage-here sends in let fits = next.1 in let fits' = next.2 in record {
      here = listed h.stage stage-here;
      next = listed (stage_after h.stage) (stage-follows h.stage stage-here sends);
      before_next = λ s y. before-next s h.stage (of-rebuild s y) stage-here sends;
      rows = rows-until (place_in h.stage + 1) fits' ∙ sym (rows-until (place_in (stage_after h.stage) + 0) (omega (arith, fits)));
      arcs = arcs-until (place_in h.stage + 1) fits' ∙ sym (arcs-until (place_in (stage_after h.stage) + 0) (omega (arith, fits)));
    }
