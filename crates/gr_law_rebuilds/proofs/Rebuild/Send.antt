-- Sending a batch of a rebuild keeps the invariant.
use Rattle.std.proofs.Common.{◌≡◌, ℕ, ◌+◌, ◌≤◌, true, false, cond, refl, ap, arith, Some}
use Rattle.gr_program.specs.Program.{Program}
use Rattle.gr_batch.specs.declared.stage.Stage.TheVariants as stage
use Rattle.gr_batch.specs.Stages.{is_end}
use Rattle.gr_batch.specs.Order.{place_in}
use Rattle.gr_view.specs.Modes.{is_rebuild}
use Rattle.gr_rules.specs.Exchange.{unsent}
use Rattle.gr_rules.specs.Todo.{Todo}
use Rattle.gr_cluster.specs.Tables.{Host, Cluster, host, view_of, wanted_in}
use Rattle.gr_cluster.specs.Todo.{others}
use Rattle.gr_cluster.specs.Place.{body_to}
use Rattle.gr_cluster.specs.Work.{worked}
use Rattle.gr_agree.specs.Truth.{Truth}
use Rattle.gr_agree.specs.TrueBody.{TrueBody}
use Rattle.gr_agree.specs.Hosts.{progress}
use Rattle.gr_agree.specs.Agree.{Agree}
use Rattle.gr_law_rounds.specs.Network.{IsKept}
use Rattle.gr_law_rounds.proofs.Round.Sending.{send-keeps}
use Rattle.gr_law_rebuilds.proofs.Rebuild.Stages.{IsRebuildStage}
use Rattle.gr_law_rebuilds.proofs.Rebuild.AtPlace.{body-here, body-code}
use Rattle.gr_law_rebuilds.proofs.Rebuild.InEpoch.{is-now, stable-is, stage-here, needed-before, passing}

module _ {V A : Type 0} (P : Program V A) (t : Truth V) (c : Cluster V A) (AG : Agree P t c) (rebuilding : is_rebuild c.coordinator.mode ≡ true) (p : ℕ) (h : Host V A) (at : host c p ≡ Some h)
    (le : c.coordinator.commits ≤ h.installed) (le' : c.coordinator.epoch ≤ h.epoch) (comp : h.computed ≡ true)
    (r : ℕ) (un : unsent (others c.coordinator p) h.sent ≡ Some r) (sends : is_end h.stage ≡ false) where
  in-rebuild : IsRebuildStage h.stage
  in-rebuild = stage-here P t c AG rebuilding p h at le le'

  done : progress h ≡ place_in h.stage + 1
  done = ap (λ b. place_in h.stage + cond b 1 0) comp

  body-true : TrueBody P (view_of P c) (wanted_in P c) t p r (body_to P c p h r h.stage)
  body-true = let d = done in
      body-here P t c AG rebuilding p h at (is-now P t c AG rebuilding p h at le le') (stable-is P t c AG rebuilding p h at le le').0 h.stage in-rebuild sends
      (λ g. let one : place_in h.stage ≡ 1 = ap place_in g in needed-before P t c AG rebuilding p h at le le' stage.Grant (omega (arith, d, one)) refl) r

  pub send-kept : IsKept P t c (worked P c p h (Todo.Send r)).0
  send-kept = send-keeps P t c AG p h at le le' comp r un sends (passing P t c AG rebuilding p h at le le' sends) body-true
      (body-code P t c AG rebuilding p h at (is-now P t c AG rebuilding p h at le le') (stable-is P t c AG rebuilding p h at le le').0 h.stage in-rebuild sends r)
