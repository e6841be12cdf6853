-- A cluster in its next epoch, in another mode and with other places, hosts and logs.
use Rattle.std.proofs.Common.{◌≡◌, ◌≢◌, ℕ, ◌+◌, List, false, ap, Option, Some, length, ◌⊎◌}
use Rattle.std.specs.Prelude.{IsTrue, option_map}
use Rattle.gr_base.specs.Rising.{has, includes}
use Rattle.gr_log.specs.Log.{Log, cut_log}
use Rattle.gr_log.specs.Directory.{directory_in, edges_in}
use Rattle.gr_view.specs.declared.coordinator.Mode.{Mode}
use Rattle.gr_view.specs.declared.coordinator.Mode.TheVariants as mode
use Rattle.gr_view.specs.declared.coordinator.Coordinator.{Coordinator}
use Rattle.gr_view.specs.Decisions.{raised}
use Rattle.gr_cluster.specs.Tables.{Host, Cluster, host, is_up, log, effective, effective_arcs}
use Rattle.gr_cluster.specs.Step.{reborn_host}
use Rattle.gr_agree.specs.Truth.{Truth, entries_at, arcs_at}
use Rattle.gr_agree.specs.Places.{Shaped, PlacesHold}
use Rattle.gr_agree.specs.Laws.{IsLiveSame}

-- what is new besides the epoch
pub record Change (V A : Type 0) : Type 0 where
  pub mode : Mode
  pub live : List ℕ
  pub dead : List ℕ
  pub reborn : List ℕ
  pub spares : ℕ
  pub hosts : List (Option (Host V A))
  pub logs : List Log

module _ {V A : Type 0} (t : Truth V) (c : Cluster V A) (x : Change V A) where
  abbrev pub next_coordinator : Coordinator
  next_coordinator = record (raised c.coordinator) { mode = x.mode; live = x.live; dead = x.dead; reborn = x.reborn; spares = x.spares }

  abbrev pub opened : Cluster V A
  opened = record c { hosts = x.hosts; logs = x.logs; coordinator = next_coordinator }

  -- the host that was there, at a place that is not reborn
  pub record IsStaying (p : ℕ) (h : Host V A) : Type 0 where
    pub was : host c p ≡ Some h
    pub not_reborn : has x.reborn p ≡ false

  -- a spare that starts as the dead place p
  pub record IsReborn (p : ℕ) (h : Host V A) : Type 0 where
    pub is : h ≡ reborn_host (c.coordinator.epoch + 1) c.coordinator.commits (log c p).committed
    pub recovering : x.mode ≡ mode.Recovering
    pub reborn : IsTrue (has x.reborn p)
    pub cut : log opened p ≡ cut_log (log c p)
    pub entries : directory_in (log c p).committed ≡ entries_at t p
    pub arcs : edges_in (log c p).committed ≡ arcs_at t p

  -- what the next epoch needs to open
  pub record Opens : Type 0 where
    pub shaped : Shaped c.places (length x.hosts) (length x.logs) next_coordinator
    pub places : PlacesHold c.places (is_up opened) next_coordinator
    -- the run is not done, neither before nor after
    pub was_not_done : c.coordinator.mode ≢ mode.Done
    pub not_done : x.mode ≢ mode.Done
    -- a recovery finds no vertex lost
    pub alive : x.mode ≡ mode.Recovering → (v : ℕ) → IsTrue (has t.vertices v) → includes x.dead (t.holders v) ≡ false
    -- what is live was so, and has its host
    pub live : (p : ℕ) → IsTrue (has x.live p) → IsTrue (has c.coordinator.live p)
    pub stays : (p : ℕ) → IsTrue (has x.live p) → host opened p ≡ host c p
    -- the committed parts of the logs stay
    pub logs : (p : ℕ) → (log opened p).committed ≡ (log c p).committed
    -- each host stays, or is reborn
    pub hosts : (p : ℕ) (h : Host V A) → host opened p ≡ Some h → IsStaying p h ⊎ IsReborn p h

  pub live-same : Opens → IsLiveSame c opened
  live-same O = record {
    rows = λ p l. ap (λ o. option_map (effective c.coordinator.commits) o) (O.stays p l);
    arcs = λ p l. ap (λ o. option_map (effective_arcs c.coordinator.commits) o) (O.stays p l);
    logs = O.logs;
  }
