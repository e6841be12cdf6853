-- Computing a stage of a rebuild keeps the invariant.
use Rattle.std.proofs.Common.{◌≡◌, ℕ, ◌+◌, ◌≤◌, List, true, false, refl, sym, ap, ◌∙◌, subst, arith, Some}
use Rattle.std.specs.Prelude.{if◌then◌else◌}
use Rattle.gr_base.specs.declared.records.NumberedEdge.{NumberedEdge}
use Rattle.gr_program.specs.declared.copy.VertexCopy.{VertexCopy}
use Rattle.gr_program.specs.Program.{Program}
use Rattle.gr_log.specs.Directory.{with_items}
use Rattle.gr_batch.specs.declared.stage.Stage.{Stage}
use Rattle.gr_batch.specs.declared.stage.Stage.TheVariants as stage
use Rattle.gr_batch.specs.Order.{place_in}
use Rattle.gr_view.specs.Modes.{is_rebuild}
use Rattle.gr_rules.specs.AtPlace.{round_rows}
use Rattle.gr_rules.specs.Exchange.{needed}
use Rattle.gr_rules.specs.Todo.{Todo}
use Rattle.gr_cluster.specs.Tables.{Host, Cluster, host, view_of, wanted_in}
use Rattle.gr_cluster.specs.Todo.{others}
use Rattle.gr_cluster.specs.Place.{taken, rebuild_rows, staged_rows, staged_arcs}
use Rattle.gr_cluster.specs.Work.{worked}
use Rattle.gr_agree.specs.Truth.{Truth, arcs_at}
use Rattle.gr_agree.specs.Rebuilt.{stable_at}
use Rattle.gr_agree.specs.Hosts.{progress, HasNeeded, pending_rows, pending_arcs}
use Rattle.gr_agree.specs.Agree.{Agree}
use Rattle.gr_law_rounds.specs.Network.{IsKept}
use Rattle.gr_law_rounds.proofs.Round.AtPlace.{place-le}
use Rattle.gr_law_rounds.proofs.Round.Computing.{progress-here, computed-kept}
use Rattle.gr_law_rebuilds.proofs.Rebuild.Stages.{IsRebuildStage, by_stage, same-place}
use Rattle.gr_law_rebuilds.proofs.Rebuild.AtPlace.{granted-here, taken-here}
use Rattle.gr_law_rebuilds.proofs.Rebuild.InEpoch.{the-mode, is-now, at-epoch, stable-is, of-rebuild, stage-here, NeededIn, needed-before, rows-until, arcs-until, passing}

module _ {V A : Type 0} (P : Program V A) (t : Truth V) (c : Cluster V A) (AG : Agree P t c) (rebuilding : is_rebuild c.coordinator.mode ≡ true) (p : ℕ) (h : Host V A) (at : host c p ≡ Some h)
    (le : c.coordinator.commits ≤ h.installed) (le' : c.coordinator.epoch ≤ h.epoch)
    (comp : h.computed ≡ false) (ready : HasNeeded (others c.coordinator p) h.epoch h.inbox (needed (is_rebuild c.coordinator.mode) h.stage)) where
  abbrev Has : Stage → Type 0
  Has s = HasNeeded (others c.coordinator p) h.epoch h.inbox (Some s)

  in-rebuild : IsRebuildStage h.stage
  in-rebuild = stage-here P t c AG rebuilding p h at le le'

  -- at the end it has the asks and the grants
  at-end : stage.End ≡ h.stage → Has stage.Ask × Has stage.Grant
  at-end e = let four : 4 ≡ place_in h.stage = ap place_in e in let here = progress-here P t c AG p h at le le' comp in
      (needed-before P t c AG rebuilding p h at le le' stage.Grant (omega (arith, four, here)) refl, subst (λ s. NeededIn P t c AG rebuilding p h at le le' true s) (sym e) (subst (λ b. NeededIn P t c AG rebuilding p h at le le' b h.stage) rebuilding ready))

  small : progress h ≤ 4
  small = let few = place-le h.stage in let here = progress-here P t c AG p h at le le' comp in omega (arith, few, here)

  pending-here : h.pending ≡ stable_at P (view_of P c) (wanted_in P c) t p
  pending-here = (at-epoch P t c AG rebuilding p h at le le').rows ∙ rows-until P t c AG rebuilding p h at (progress h) small

  pending-arcs-here : h.pending_arcs ≡ arcs_at t p
  pending-arcs-here = (at-epoch P t c AG rebuilding p h at le le').arcs ∙ arcs-until P t c AG rebuilding p h at (progress h) small

  abbrev rows_with : ℕ → List (VertexCopy V)
  rows_with k = pending_rows P (view_of P c) (wanted_in P c) t p k (is_rebuild c.coordinator.mode)

  abbrev arcs_with : ℕ → List NumberedEdge
  arcs_with k = pending_arcs P (view_of P c) (wanted_in P c) t p k (is_rebuild c.coordinator.mode)

  -- what computing stages
  rows-true : staged_rows P c p h h.stage ≡ rows_with (place_in h.stage + 1)
  rows-true = ap (λ b. if b then rebuild_rows P c p h h.stage else round_rows P p h.epoch (others c.coordinator p) h.inbox h.stable h.arcs h.stage h.pending) rebuilding
      ∙ by_stage (λ s. s ≡ h.stage → rebuild_rows P c p h s ≡ rows_with (place_in s + 1))
      (λ e. pending-here ∙ sym (rows-until P t c AG rebuilding p h at 1 (omega arith)))
      (λ e. pending-here ∙ sym (rows-until P t c AG rebuilding p h at 2 (omega arith)))
      (λ e. let b = at-end e in
      (λ i. with_items (λ r. r.vertex) (granted-here P t c AG rebuilding p h at (is-now P t c AG rebuilding p h at le le') (stable-is P t c AG rebuilding p h at le le').0 b.0 b.1 i) (pending-here i))
      ∙ sym (ap (λ b. pending_rows P (view_of P c) (wanted_in P c) t p 5 b) rebuilding))
      h.stage in-rebuild refl

  arcs-true : staged_arcs P c p h h.stage ≡ arcs_with (place_in h.stage + 1)
  arcs-true = by_stage (λ s. s ≡ h.stage → staged_arcs P c p h s ≡ arcs_with (place_in s + 1))
      (λ e. pending-arcs-here ∙ sym (arcs-until P t c AG rebuilding p h at 1 (omega arith)))
      (λ e. pending-arcs-here ∙ sym (arcs-until P t c AG rebuilding p h at 2 (omega arith)))
      (λ e. ap (λ b. if b then with_items (λ a. a.number) (taken P c p h) h.pending_arcs else h.pending_arcs) rebuilding
      ∙ ((λ i. with_items (λ a. a.number) (taken-here P t c AG rebuilding p h at (is-now P t c AG rebuilding p h at le le') (stable-is P t c AG rebuilding p h at le le').0 i) (pending-arcs-here i))
      ∙ sym (ap (λ b. pending_arcs P (view_of P c) (wanted_in P c) t p 5 b) rebuilding)))
      h.stage in-rebuild refl

  pub compute-kept : IsKept P t c (worked P c p h Todo.Compute).0
  compute-kept = computed-kept P t c AG p h at le le' comp (the-mode P t c AG rebuilding p h at).not_failed (rows_with (place_in h.stage + 1)) (arcs_with (place_in h.stage + 1)) refl refl
      ready (λ s y e. same-place h.stage s in-rebuild (of-rebuild P t c AG rebuilding p h at le le' s y) e) (passing P t c AG rebuilding p h at le le') rows-true arcs-true
