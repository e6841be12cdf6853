-- How many epochs `finish` may still go through beside those of its rounds, and the events that leave this number as it is.
use Rattle.std.proofs.Common.{◌≡◌, ℕ, ◌+◌, ◌≤◌, Bool, true, false, not, refl, sym, ap, ◌∙◌, arith, Option, Some, None, if◌then◌else◌}
use Rattle.std.specs.Prelude.{is_some, option_map}
use Rattle.std.specs.List.{list_any}
use Rattle.gr_base.specs.Rising.{has, union}
use Rattle.gr_program.specs.Program.{Program}
use Rattle.gr_view.specs.declared.coordinator.Mode.{Mode}
use Rattle.gr_view.specs.declared.coordinator.Mode.TheVariants as mode
use Rattle.gr_view.specs.Modes.{is_failed, is_over, is_rebuild}
use Rattle.gr_view.specs.Decisions.{looked_at}
use Rattle.gr_cluster.specs.Tables.{Cluster, host, is_up, effective}
use Rattle.gr_cluster.specs.ToGo.{epochs_of, somebody_down, epochs_left}
use Rattle.gr_agree.specs.Truth.{Truth}
use Rattle.gr_lists.proofs.Any.{list_any-none}
use Rattle.gr_lists.proofs.Each.{Each-has}
use Rattle.gr_law_rounds.specs.Network.{IsKept}
use Rattle.gr_law_rounds.proofs.Network.Unruled.{IsUnruled}

few-of : (m : Mode) (b : Bool) → epochs_of m b ≤ 3
few-of mode.Running true = omega arith
few-of mode.Running false = omega arith
few-of _ true = omega arith
few-of _ false = omega arith

-- three where somebody is down, until the run is over
pub epochs-down : (m : Mode) → is_over m ≡ false → epochs_of m true ≡ 3
epochs-down mode.Done o = absurd (let bad : true ≡ false = o in cc)
epochs-down mode.Lost o = absurd (let bad : true ≡ false = o in cc)
epochs-down _ o = refl

-- at least the commit of a rebuild
pub epochs-rebuild : (m : Mode) (b : Bool) → is_rebuild m ≡ true → 1 ≤ epochs_of m b
epochs-rebuild mode.Repairing true r = omega arith
epochs-rebuild mode.Repairing false r = omega arith
epochs-rebuild mode.Recovering true r = omega arith
epochs-rebuild mode.Recovering false r = omega arith
epochs-rebuild _ _ r = absurd (let bad : false ≡ true = r in cc)

some-of : {X Y : Type 0} (f : X → Y) (o : Option X) → is_some (option_map f o) ≡ is_some o
some-of f None = refl
some-of f (Some x) = refl

module _ {V A : Type 0} (c : Cluster V A) where
  pub few-epochs : epochs_left c ≤ 3
  few-epochs = few-of c.coordinator.mode (somebody_down c)

  pub nobody-down : ((p : ℕ) → has (looked_at c.coordinator) p ≡ true → is_up c p ≡ true) → somebody_down c ≡ false
  nobody-down up = list_any-none (λ p. not (is_up c p)) (looked_at c.coordinator) (Each-has _ (looked_at c.coordinator) (λ p m. ap not (up p m)))

  -- the epochs that an event brings, and those that it leaves, are no more than were left, beside those of the rounds that it commits
  pub record Spends (d : Cluster V A) : Type 0 where
    pub spent : d.coordinator.epoch + epochs_left d + c.coordinator.round ≤ c.coordinator.epoch + epochs_left c + d.coordinator.round

  pub same-spends : Spends c
  same-spends = record { spent = omega arith }

  -- the same places are up where the effective rows are the same
  pub up-same : (d : Cluster V A) (p : ℕ) → option_map (effective d.coordinator.commits) (host d p) ≡ option_map (effective c.coordinator.commits) (host c p) → is_up d p ≡ is_up c p
  up-same d p e = sym (some-of (effective d.coordinator.commits) (host d p)) ∙ (ap is_some e ∙ some-of (effective c.coordinator.commits) (host c p))

  pub kept-spends : (P : Program V A) (t : Truth V) (d : Cluster V A) → IsKept P t c d → IsUnruled c.coordinator d.coordinator → Spends d
  kept-spends P t d K R =
      let m = R.mode in let l = (K.0).live in let r = (K.0).reborn in let e = R.epoch in let n = R.round in
      let up : (p : ℕ) → is_up d p ≡ is_up c p = (λ p. up-same d p ((K.0).rows p)) in
      let same : epochs_left d ≡ epochs_left c = (λ i. epochs_of (m i) (list_any (λ p. not (up p i)) (if is_failed (m i) then l i else union (l i) (r i)))) in
      record { spent = omega (arith, same, e, n) }
