-- Computing a stage of a round keeps the invariant.
use Rattle.std.proofs.Common.{◌≡◌, ℕ, ◌+◌, ◌<◌, ◌≤◌, [], false, refl, sym, ap, ◌∙◌, subst, arith, Some}
use Rattle.std.specs.Prelude.{IsTrue, if◌then◌else◌}
use Rattle.std.specs.List.{AllByRecursion as Each}
use Rattle.gr_program.specs.Program.{Program}
use Rattle.gr_program.specs.ProgramLaws.{ProgramLaws}
use Rattle.gr_batch.specs.declared.stage.Stage.{Stage}
use Rattle.gr_batch.specs.Stages.{is_end, stage_after}
use Rattle.gr_batch.specs.Order.{place_in}
use Rattle.gr_view.specs.declared.coordinator.Mode.TheVariants as mode
use Rattle.gr_view.specs.Modes.{is_open, is_failed, is_rebuild}
use Rattle.gr_view.specs.Decisions.{parties}
use Rattle.gr_rules.specs.AtPlace.{round_rows}
use Rattle.gr_rules.specs.Exchange.{needed}
use Rattle.gr_rules.specs.Todo.{Todo}
use Rattle.gr_log.specs.Directory.{with_items}
use Rattle.gr_cluster.specs.Tables.{Host, Cluster, host, inbox_of, view_of, wanted_in}
use Rattle.gr_cluster.specs.Stages.{stages_of, has_stage}
use Rattle.gr_cluster.specs.Todo.{others}
use Rattle.gr_cluster.specs.Place.{staged_rows, staged_arcs, rebuild_rows, taken}
use Rattle.gr_cluster.specs.Work.{worked}
use Rattle.gr_agree.specs.Truth.{Truth, arcs_at}
use Rattle.gr_agree.specs.TrueRound.{staged}
use Rattle.gr_agree.specs.Places.{may_have_dead}
use Rattle.gr_agree.specs.Hosts.{progress, HasNeeded, pending_rows, pending_arcs}
use Rattle.gr_agree.specs.Network.{BatchHolds}
use Rattle.gr_agree.specs.Agree.{Agree}
use Rattle.gr_law_rounds.proofs.Bodies.Fold.{occurs-once}
use Rattle.gr_law_rounds.specs.Network.{IsKept}
use Rattle.gr_law_rounds.proofs.Round.Running.{parties-rise, shows-stable, mastered, placed, steady-here}
use Rattle.gr_law_rounds.proofs.Round.AtPlace.{IsRoundStage, round-rows-true}
use Rattle.gr_law_rounds.proofs.Round.Passing.{by_round_stage, same-round-place, after-place, after-lt}
use Rattle.gr_law_rounds.proofs.Round.InEpoch.{Passes, party, is-now, at-epoch}
use Rattle.gr_law_rounds.proofs.Round.Computing.{progress-here, computed-kept}

module _ {V A : Type 0} (P : Program V A) (t : Truth V) (c : Cluster V A) (L : ProgramLaws P) (AG : Agree P t c) (no_rebuild : is_rebuild c.coordinator.mode ≡ false) (running : c.coordinator.mode ≡ mode.Running)
    (p : ℕ) (h : Host V A) (at : host c p ≡ Some h) (le : c.coordinator.commits ≤ h.installed) (le' : c.coordinator.epoch ≤ h.epoch) where
  pub none-dead : c.coordinator.dead ≡ []
  none-dead = AG.committed.places.none_dead (ap may_have_dead running)

  pub inbox-good : Each (λ b. BatchHolds P (view_of P c) (wanted_in P c) t c.coordinator b × (b.receiver ≡ p)) h.inbox
  inbox-good = subst (λ o. Each (λ b. BatchHolds P (view_of P c) (wanted_in P c) t c.coordinator b × (b.receiver ≡ p)) (inbox_of o)) at (AG.open_work.network.in_inbox p)

  pub round-stage : IsRoundStage h.stage
  round-stage = subst (λ m. IsTrue (has_stage (stages_of m) h.stage)) running ((at-epoch P t c AG p h at le le').stage (ap is_open running))

  -- what the stages before needed, in a round
  pub needed-before : (s : Stage) → place_in s < progress h → IsRoundStage s → HasNeeded (others c.coordinator p) h.epoch h.inbox (needed false s)
  needed-before s lt r = subst (λ b. HasNeeded (others c.coordinator p) h.epoch h.inbox (needed b s)) no_rebuild
      ((at-epoch P t c AG p h at le le').needed s (subst (λ m. IsTrue (has_stage (stages_of m) s)) (sym running) r) lt)

  pub pending-here : h.pending ≡ staged P t p (progress h)
  pending-here = (at-epoch P t c AG p h at le le').rows ∙ ap (λ b. pending_rows P (view_of P c) (wanted_in P c) t p (progress h) b) no_rebuild

  -- the edges stay in a round
  arcs-here : (k : ℕ) → pending_arcs P (view_of P c) (wanted_in P c) t p k (is_rebuild c.coordinator.mode) ≡ arcs_at t p
  arcs-here k = ap (λ b. pending_arcs P (view_of P c) (wanted_in P c) t p k b) no_rebuild

  stage-to : (s : Stage) → IsTrue (has_stage (stages_of c.coordinator.mode) s) → IsRoundStage s
  stage-to s r = subst (λ m. IsTrue (has_stage (stages_of m) s)) running r

  pub passing : is_end h.stage ≡ false → Passes P t c p h.stage
  passing en = let next = after-place h.stage round-stage en in let next_place = next.0 in record {
    here = stage-from h.stage round-stage;
    next = stage-from (stage_after h.stage) next.1;
    before_next = λ s y. after-lt s h.stage (stage-to s y) round-stage en;
    rows = ap (λ b. pending_rows P (view_of P c) (wanted_in P c) t p (place_in h.stage + 1) b) no_rebuild
        ∙ (ap (staged P t p) (omega (arith, next_place)) ∙ sym (ap (λ b. pending_rows P (view_of P c) (wanted_in P c) t p (place_in (stage_after h.stage) + 0) b) no_rebuild));
    arcs = arcs-here (place_in h.stage + 1) ∙ sym (arcs-here (place_in (stage_after h.stage) + 0));
  }
    where
      stage-from : (s : Stage) → IsRoundStage s → IsTrue (has_stage (stages_of c.coordinator.mode) s)
      stage-from s r = subst (λ m. IsTrue (has_stage (stages_of m) s)) (sym running) r

  module _ (comp : h.computed ≡ false) (now : HasNeeded (others c.coordinator p) h.epoch h.inbox (needed (is_rebuild c.coordinator.mode) h.stage)) where
    now-round : HasNeeded (others c.coordinator p) h.epoch h.inbox (needed false h.stage)
    now-round = subst (λ b. HasNeeded (others c.coordinator p) h.epoch h.inbox (needed b h.stage)) no_rebuild now

    rows-true : staged_rows P c p h h.stage ≡ staged P t p (place_in h.stage + 1)
    rows-true =
        let S = shows-stable P t c AG no_rebuild p h at (at-epoch P t c AG p h at le le').installed in let at_place = progress-here P t c AG p h at le le' comp in
        ap (λ b. if b then rebuild_rows P c p h h.stage else round_rows P p h.epoch (others c.coordinator p) h.inbox h.stable h.arcs h.stage h.pending) no_rebuild
        ∙ round-rows-true P t (view_of P c) (wanted_in P c) c.coordinator L AG.committed.sound (steady-here P t c AG no_rebuild L) p (parties c.coordinator)
        (mastered P t c AG no_rebuild none-dead) (occurs-once (parties c.coordinator) (parties-rise P t c AG no_rebuild) p (party P t c AG p h at)) (placed P t c AG no_rebuild none-dead)
        h.inbox inbox-good h.epoch (is-now P t c AG p h at le le') h.stable S.0 h.arcs S.1 h.stage h.pending round-stage (pending-here ∙ ap (staged P t p) at_place) now-round
        (λ s l r. needed-before s (omega (arith, l, at_place)) r)

    arcs-same : staged_arcs P c p h h.stage ≡ h.pending_arcs
    arcs-same = by_round_stage (λ s. staged_arcs P c p h s ≡ h.pending_arcs) refl refl refl refl
        (ap (λ b. if b then with_items (λ a. a.number) (taken P c p h) h.pending_arcs else h.pending_arcs) no_rebuild) h.stage round-stage

    pub compute-kept : IsKept P t c (worked P c p h Todo.Compute).0
    compute-kept = computed-kept P t c AG p h at le le' comp (ap is_failed running) (staged P t p (place_in h.stage + 1)) h.pending_arcs
        (sym (ap (λ b. pending_rows P (view_of P c) (wanted_in P c) t p (place_in h.stage + 1) b) no_rebuild))
        ((at-epoch P t c AG p h at le le').arcs ∙ (arcs-here (progress h) ∙ sym (arcs-here (place_in h.stage + 1))))
        now (λ s y e. same-round-place h.stage s round-stage (stage-to s y) e) passing rows-true arcs-same
