-- The open work begins anew, where no place is dead: only the mode changes.
use Rattle.std.proofs.Common.{◌≡◌, ◌≢◌, [], true, false, refl, sym, ap, ◌∙◌, inl}
use Rattle.gr_base.specs.Rising.{has}
use Rattle.gr_program.specs.Program.{Program}
use Rattle.gr_view.specs.declared.coordinator.Mode.{Mode}
use Rattle.gr_view.specs.declared.coordinator.Mode.TheVariants as mode
use Rattle.gr_view.specs.Modes.{is_open}
use Rattle.gr_cluster.specs.Tables.{Cluster, is_up}
use Rattle.gr_agree.specs.Truth.{Truth}
use Rattle.gr_agree.specs.Places.{may_have_dead}
use Rattle.gr_agree.specs.Agree.{Agree}
use Rattle.gr_law_rounds.specs.Network.{IsKept}
use Rattle.gr_law_rounds.proofs.Network.Same.{no-places, shaped-same, places-same, unmoved}
use Rattle.gr_law_rebuilds.proofs.Epoch.Opened.{Change, next_coordinator, opened, Opens}
use Rattle.gr_law_rebuilds.proofs.Epoch.Agrees.{opened-agrees}

-- a mode with open work is not the end
pub open-not_done : (m : Mode) → is_open m ≡ true → m ≢ mode.Done
open-not_done m o e = let bad : true ≡ false = sym o ∙ ap is_open e in cc

-- one without dead places is no recovery
pub no-dead-in_recovery : (m : Mode) → may_have_dead m ≡ false → m ≢ mode.Recovering
no-dead-in_recovery m n e = let bad : false ≡ true = sym n ∙ ap may_have_dead e in cc

module _ {V A : Type 0} (P : Program V A) (t : Truth V) (c : Cluster V A) (AG : Agree P t c) (m : Mode) where
  abbrev pub anew : Change V A
  anew = record {
    mode = m;
    live = c.coordinator.live;
    dead = c.coordinator.dead;
    reborn = c.coordinator.reborn;
    spares = c.coordinator.spares;
    hosts = c.hosts;
    logs = c.logs;
  }

  module _ (was_open : is_open c.coordinator.mode ≡ true) (none_dead : may_have_dead c.coordinator.mode ≡ false) (opens : is_open m ≡ true) (stays : may_have_dead m ≡ false) where
    no-reborn : c.coordinator.reborn ≡ []
    no-reborn = AG.committed.places.none_reborn (no-dead-in_recovery c.coordinator.mode none_dead)

    anew-opens : Opens t c anew
    anew-opens = record {
      shaped = shaped-same c.coordinator (next_coordinator t c anew) refl refl refl no-places AG.committed.shaped;
      places = let W = AG.committed.places in
          places-same c.coordinator (next_coordinator t c anew) refl (is_up c) (is_up c) (λ q down. down) (λ e. W.none_dead none_dead) (λ e. no-reborn) (λ e. absurd (open-not_done m opens e)) W;
      was_not_done = open-not_done c.coordinator.mode was_open;
      not_done = open-not_done m opens;
      alive = λ e. absurd (no-dead-in_recovery m stays e);
      live = λ p l. l;
      stays = λ p l. refl;
      logs = λ p. refl;
      hosts = λ p h at. inl (record { was = at; not_reborn = ap (λ l. has l p) no-reborn });
    }

    pub anew-kept : IsKept P t c (opened t c anew)
    anew-kept = (unmoved c (opened t c anew) refl refl refl refl, opened-agrees P t c AG anew anew-opens)
