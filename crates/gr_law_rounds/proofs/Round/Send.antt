-- Sending a batch of a round keeps the invariant.
use Rattle.std.proofs.Common.{◌≡◌, ℕ, ◌+◌, ◌≤◌, true, false, cond, refl, sym, ap, ◌∙◌, subst, arith, Some}
use Rattle.gr_program.specs.Program.{Program}
use Rattle.gr_program.specs.ProgramLaws.{ProgramLaws}
use Rattle.gr_batch.specs.declared.stage.Stage.{Stage}
use Rattle.gr_batch.specs.Stages.{code_of, is_end}
use Rattle.gr_batch.specs.Order.{place_in}
use Rattle.gr_batch.specs.Bodies.{stage_of_body}
use Rattle.gr_view.specs.declared.coordinator.Mode.TheVariants as mode
use Rattle.gr_view.specs.Modes.{is_rebuild}
use Rattle.gr_view.specs.Decisions.{parties}
use Rattle.gr_rules.specs.AtPlace.{round_body}
use Rattle.gr_rules.specs.Exchange.{unsent}
use Rattle.gr_rules.specs.Todo.{Todo}
use Rattle.gr_cluster.specs.Tables.{Host, Cluster, host, view_of, wanted_in}
use Rattle.gr_cluster.specs.Todo.{others}
use Rattle.gr_cluster.specs.Place.{body_to}
use Rattle.gr_cluster.specs.Work.{worked}
use Rattle.gr_agree.specs.Truth.{Truth}
use Rattle.gr_agree.specs.TrueBody.{TrueBody}
use Rattle.gr_agree.specs.Hosts.{progress}
use Rattle.gr_agree.specs.Agree.{Agree}
use Rattle.gr_law_rounds.proofs.Bodies.Fold.{occurs-once}
use Rattle.gr_law_rounds.specs.Network.{IsKept}
use Rattle.gr_law_rounds.proofs.Round.Running.{parties-rise, shows-stable, mastered, placed, steady-here}
use Rattle.gr_law_rounds.proofs.Round.AtPlace.{IsRoundStage, round-body-true, round-body-code}
use Rattle.gr_law_rounds.proofs.Round.Passing.{by_round_stage}
use Rattle.gr_law_rounds.proofs.Round.InEpoch.{party, is-now, at-epoch}
use Rattle.gr_law_rounds.proofs.Round.Sending.{send-keeps}
use Rattle.gr_law_rounds.proofs.Round.Compute.{none-dead, inbox-good, round-stage, needed-before, passing}

module _ {V A : Type 0} (P : Program V A) (t : Truth V) (c : Cluster V A) (L : ProgramLaws P) (AG : Agree P t c) (no_rebuild : is_rebuild c.coordinator.mode ≡ false) (running : c.coordinator.mode ≡ mode.Running)
    (p : ℕ) (h : Host V A) (at : host c p ≡ Some h) (le : c.coordinator.commits ≤ h.installed) (le' : c.coordinator.epoch ≤ h.epoch) (comp : h.computed ≡ true)
    (r : ℕ) (un : unsent (others c.coordinator p) h.sent ≡ Some r) (no_end : is_end h.stage ≡ false) where
  in-round : IsRoundStage h.stage
  in-round = round-stage P t c L AG no_rebuild running p h at le le'

  done : progress h ≡ place_in h.stage + 1
  done = ap (λ b. place_in h.stage + cond b 1 0) comp

  body-round : (s : Stage) → IsRoundStage s → body_to P c p h r s ≡ round_body P p h.epoch (others c.coordinator p) h.inbox h.stable h.arcs c.theta r s
  body-round = by_round_stage (λ s. body_to P c p h r s ≡ round_body P p h.epoch (others c.coordinator p) h.inbox h.stable h.arcs c.theta r s) refl refl refl refl refl

  body-true : TrueBody P (view_of P c) (wanted_in P c) t p r (body_to P c p h r h.stage)
  body-true =
      let S = shows-stable P t c AG no_rebuild p h at (at-epoch P t c AG p h at le le').installed in let d = done in
      subst (TrueBody P (view_of P c) (wanted_in P c) t p r) (sym (body-round h.stage in-round))
      (round-body-true P t (view_of P c) (wanted_in P c) c.coordinator L AG.committed.sound (steady-here P t c AG no_rebuild L) p (parties c.coordinator)
      (mastered P t c AG no_rebuild (none-dead P t c L AG no_rebuild running p h at le le')) (occurs-once (parties c.coordinator) (parties-rise P t c AG no_rebuild) p (party P t c AG p h at))
      (placed P t c AG no_rebuild (none-dead P t c L AG no_rebuild running p h at le le'))
      h.inbox (inbox-good P t c L AG no_rebuild running p h at le le') h.epoch (is-now P t c AG p h at le le') h.stable S.0 h.arcs S.1
      c.theta AG.committed.logs.theta h.stage in-round no_end (λ s l y. needed-before P t c L AG no_rebuild running p h at le le' s (omega (arith, l, d)) y) r)

  body-code : code_of (stage_of_body (body_to P c p h r h.stage)) ≡ code_of h.stage
  body-code =
      let S = shows-stable P t c AG no_rebuild p h at (at-epoch P t c AG p h at le le').installed in
      ap (λ b. code_of (stage_of_body b)) (body-round h.stage in-round)
      ∙ round-body-code P t (view_of P c) (wanted_in P c) c.coordinator L AG.committed.sound (steady-here P t c AG no_rebuild L) p (parties c.coordinator)
      (mastered P t c AG no_rebuild (none-dead P t c L AG no_rebuild running p h at le le')) (occurs-once (parties c.coordinator) (parties-rise P t c AG no_rebuild) p (party P t c AG p h at))
      (placed P t c AG no_rebuild (none-dead P t c L AG no_rebuild running p h at le le'))
      h.inbox (inbox-good P t c L AG no_rebuild running p h at le le') h.epoch (is-now P t c AG p h at le le') h.stable S.0 h.arcs S.1
      c.theta h.stage in-round no_end r

  pub send-kept : IsKept P t c (worked P c p h (Todo.Send r)).0
  send-kept = send-keeps P t c AG p h at le le' comp r un no_end (passing P t c L AG no_rebuild running p h at le le' no_end) body-true body-code
