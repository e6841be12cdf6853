-- What each event keeps that opens a new epoch without a commit, and what these events keep where they open none.
use Rattle.std.specs.Prelude.{◌≡◌, ◌≢◌, Bool, true, false, ◌&&◌, IsTrue, List, ℕ}
use Rattle.gr_base.specs.Rising.{has}
use Rattle.gr_base.specs.Places.{IsPlaces}
use Rattle.gr_program.specs.Program.{Program}
use Rattle.gr_sched.specs.declared.event.Event.{Event}
use Rattle.gr_sched.specs.declared.event.Event.TheVariants as event
use Rattle.gr_view.specs.Modes.{is_recovery}
use Rattle.gr_cluster.specs.Tables.{Cluster, is_up}
use Rattle.gr_cluster.specs.Step.{step}
use Rattle.gr_cluster.specs.Runs.{is_commit}
use Rattle.gr_agree.specs.Truth.{Truth}
use Rattle.gr_agree.specs.Agree.{Agree}
use Rattle.gr_agree.specs.Laws.{IsLiveSame}
use Rattle.gr_law_rounds.specs.Network.{IsKept}

-- the cluster d agrees with the same committed state as c, and nothing that is committed has changed where a place is live
abbrev pub IsLater : {V A : Type 0} → Program V A → Truth V → Cluster V A → Cluster V A → Type 0
IsLater P t c d = IsLiveSame c d × Agree P t d

-- d is in another epoch than c
abbrev pub IsNewEpoch : {V A : Type 0} → Cluster V A → Cluster V A → Type 0
IsNewEpoch c d = d.coordinator.epoch ≢ c.coordinator.epoch

-- a repair that opens changes nothing that is committed at any place
abbrev pub RepairKeeps : (V A : Type 0) → Type 0
RepairKeeps V A =
    (P : Program V A) (t : Truth V) (c : Cluster V A) → Agree P t c → IsNewEpoch c (step P c event.Repair).0 → IsKept P t c (step P c event.Repair).0

-- nor does a discard of a round or of a repair
abbrev pub DiscardKeeps : (V A : Type 0) → Type 0
DiscardKeeps V A =
    (P : Program V A) (t : Truth V) (c : Cluster V A) → Agree P t c → is_recovery c.coordinator.mode ≡ false
    → IsNewEpoch c (step P c event.Discard).0 → IsKept P t c (step P c event.Discard).0

-- a discard of a recovery, whose hosts of reborn places go back to the spares, leaves the live places as they are
abbrev pub DiscardOfRecoveryKeeps : (V A : Type 0) → Type 0
DiscardOfRecoveryKeeps V A =
    (P : Program V A) (t : Truth V) (c : Cluster V A) → Agree P t c → IsTrue (is_recovery c.coordinator.mode)
    → let d = (step P c event.Discard).0 in (d.coordinator.live ≡ c.coordinator.live) × IsLater P t c d

-- after a barrier that finds crashed places those of the live places are live that are up
abbrev pub FailureKeeps : (V A : Type 0) → Type 0
FailureKeeps V A =
    (P : Program V A) (t : Truth V) (c : Cluster V A) → Agree P t c → is_commit (step P c event.Barrier).1 ≡ false → IsNewEpoch c (step P c event.Barrier).0
    → ((p : ℕ) → has (step P c event.Barrier).0.coordinator.live p ≡ has c.coordinator.live p && is_up c p) × IsLater P t c (step P c event.Barrier).0

-- a recovery that opens leaves the live places as they are
abbrev pub RecoveryKeeps : (V A : Type 0) → Type 0
RecoveryKeeps V A =
    (P : Program V A) (t : Truth V) (c : Cluster V A) (ps : List ℕ) → IsPlaces ps → Agree P t c → IsNewEpoch c (step P c (event.Recover ps)).0
    → let d = (step P c (event.Recover ps)).0 in (d.coordinator.live ≡ c.coordinator.live) × IsLater P t c d

-- the events that ask for a new epoch
abbrev pub is_order : Event → Bool
is_order (event.Recover ps) = true
is_order event.Repair = true
is_order event.Discard = true
is_order _ = false

-- where they open none, a recovery that finds a vertex lost among them, nothing that is committed changes
abbrev pub UnopenedKeeps : (V A : Type 0) → Type 0
UnopenedKeeps V A =
    (P : Program V A) (t : Truth V) (c : Cluster V A) (e : Event) → Agree P t c → IsTrue (is_order e)
    → (step P c e).0.coordinator.epoch ≡ c.coordinator.epoch → IsKept P t c (step P c e).0
