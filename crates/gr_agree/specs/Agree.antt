-- The invariant: a cluster agrees with a committed state.
use Rattle.std.specs.Prelude.{ℕ, ◌≡◌, IsTrue, Some, length}
use Rattle.gr_base.specs.Rising.{has}
use Rattle.gr_program.specs.Program.{Program}
use Rattle.gr_view.specs.Decisions.{parties}
use Rattle.gr_cluster.specs.Tables.{Host, Cluster, host, is_up, log, view_of, wanted_in}
use Rattle.gr_agree.specs.Truth.{Truth}
use Rattle.gr_agree.specs.Places.{Shaped, PlacesHold}
use Rattle.gr_agree.specs.Logs.{Sound, LogsHold}
use Rattle.gr_agree.specs.Hosts.{HostHolds, RebornHolds, HostOpen}
use Rattle.gr_agree.specs.Network.{NetworkHolds}
use Rattle.gr_agree.specs.Reports.{RoundHolds, EndHolds, ReportsHold}

module _ {V A : Type 0} (P : Program V A) (t : Truth V) (c : Cluster V A) where
  -- what is committed: no event inside an epoch changes what this speaks of
  pub record Committed : Type 0 where
    pub shaped : Shaped c.places (length c.hosts) (length c.logs) c.coordinator
    pub places : PlacesHold c.places (is_up c) c.coordinator
    pub sound : Sound P t
    pub logs : LogsHold t c.places c.theta c.coordinator (log c)
    -- the effective rows of each live place that is up
    pub hosts : (p : ℕ) (h : Host V A) → host c p ≡ Some h → IsTrue (has c.coordinator.live p) → HostHolds P t c.coordinator.commits p h
    pub round : RoundHolds P t c.coordinator

  -- the open work of the present epoch
  pub record Open : Type 0 where
    pub network : NetworkHolds P (view_of P c) (wanted_in P c) t c.coordinator (host c) c.flight
    -- the line, the pending layer and the log's tail of each party that is up
    pub hosts : (p : ℕ) (h : Host V A) → host c p ≡ Some h → IsTrue (has (parties c.coordinator) p) → HostOpen P (view_of P c) (wanted_in P c) t c.coordinator p h (log c p)
    -- the stable layer of each reborn place that is up
    pub reborn : (p : ℕ) (h : Host V A) → host c p ≡ Some h → IsTrue (has c.coordinator.reborn p) → RebornHolds c.coordinator.epoch h (log c p)
    pub end : EndHolds P t c.coordinator
    pub reports : ReportsHold P t c.coordinator (host c)

  pub record Agree : Type 0 where
    pub committed : Committed
    pub open_work : Open

-- what every cluster keeps: it agrees with some committed state
abbrev pub Invariant : {V A : Type 0} → Program V A → Cluster V A → Type 0
Invariant {V} P c = (t : Truth V) × Agree P t c
