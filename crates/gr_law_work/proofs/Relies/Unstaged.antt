-- Until the end of a rebuild is computed nothing is staged: both layers of a place are the same.
use Rattle.std.proofs.Common.{◌≡◌, ◌≤◌, ◌+◌, ℕ, true, false, cond, sym, ap, ◌∙◌, arith, Some}
use Rattle.gr_program.specs.Program.{Program}
use Rattle.gr_batch.specs.Order.{place_in}
use Rattle.gr_view.specs.Modes.{is_rebuild}
use Rattle.gr_cluster.specs.Tables.{Host, Cluster, host}
use Rattle.gr_agree.specs.Truth.{Truth}
use Rattle.gr_agree.specs.Hosts.{progress}
use Rattle.gr_agree.specs.Agree.{Agree}
use Rattle.gr_law_rebuilds.proofs.Rebuild.InEpoch.{at-epoch, stable-is, rows-until, arcs-until}
use Rattle.gr_law_rounds.proofs.Round.AtPlace.{place-le}

module _ {V A : Type 0} (P : Program V A) (t : Truth V) (c : Cluster V A) (AG : Agree P t c) (rebuilding : is_rebuild c.coordinator.mode ≡ true) (p : ℕ) (h : Host V A) (at : host c p ≡ Some h)
    (le : c.coordinator.commits ≤ h.installed) (le' : c.coordinator.epoch ≤ h.epoch) where
  pub same-layers : h.computed ≡ false → (h.pending ≡ h.stable) × (h.pending_arcs ≡ h.arcs)
  same-layers comp =
      let few = place-le h.stage in let here : progress h ≡ place_in h.stage + 0 = ap (λ b. place_in h.stage + cond b 1 0) comp in
      let E = at-epoch P t c AG rebuilding p h at le le' in
      let S = stable-is P t c AG rebuilding p h at le le' in (
        E.rows ∙ rows-until P t c AG rebuilding p h at (progress h) (omega (arith, few, here)) ∙ sym S.0,
        E.arcs ∙ arcs-until P t c AG rebuilding p h at (progress h) (omega (arith, few, here)) ∙ sym S.1,
      )
