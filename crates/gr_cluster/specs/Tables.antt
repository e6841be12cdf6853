-- The cluster as tables of plain data.
use Rattle.std.specs.Prelude.{ℕ, ◌+◌, Bool, ◌==◌, List, [], Option, Some, None, get_or, is_some, set, map, if◌then◌else◌}
use Rattle.std.specs.List.{enumerate_from}
use Rattle.gr_base.specs.declared.records.NumberedEdge.{NumberedEdge}
use Rattle.gr_base.specs.Rising.{has}
use Rattle.gr_program.specs.declared.copy.VertexCopy.{VertexCopy}
use Rattle.gr_program.specs.Program.{Program}
use Rattle.gr_copies.specs.declared.view.RebuildView.{RebuildView}
use Rattle.gr_log.specs.Log.{Log}
use Rattle.gr_batch.specs.declared.batch.Batch.{Batch}
use Rattle.gr_batch.specs.declared.stage.Stage.{Stage}
use Rattle.gr_view.specs.declared.coordinator.Coordinator.{Coordinator}
use Rattle.gr_view.specs.Modes.{is_repair}
use Rattle.gr_rules.specs.Taken.{log_at}
use Rattle.gr_rules.specs.Grants.{wanted}

-- What the memory of a place holds: two layers of copies and of edges, an inbox, and how far its work is.
pub record Host (V A : Type 0) : Type 0 where
  pub stable : List (VertexCopy V)
  pub pending : List (VertexCopy V)
  pub arcs : List NumberedEdge
  pub pending_arcs : List NumberedEdge
  pub inbox : List (Batch V A)
  -- the adopted epoch, and the number of installed commits
  pub epoch : ℕ
  pub installed : ℕ
  -- the stage, whether it is computed, and the places that its batches were sent to
  pub stage : Stage
  pub computed : Bool
  pub sent : List ℕ
  -- whether it has appended to its log, and has reported, in this epoch
  pub appended : Bool
  pub reported : Bool

-- Hosts and logs have one entry for each place; a host is absent where the machine is down. The flight has the batches in order of sending.
pub record Cluster (V A : Type 0) : Type 0 where
  pub hosts : List (Option (Host V A))
  pub logs : List Log
  pub flight : List (Batch V A)
  pub serial : ℕ
  pub coordinator : Coordinator
  pub places : ℕ
  pub losses : ℕ
  pub theta : ℕ

-- a table with some places' entries changed
abbrev pub changed_at : {X : Type 0} → List ℕ → (ℕ → X → X) → List X → List X
changed_at ps f xs = map (λ x. if has ps x.0 then f x.0 x.1 else x.1) (enumerate_from 0 xs)

-- the inbox of a place, empty where it is down
abbrev pub inbox_of : {V A : Type 0} → Option (Host V A) → List (Batch V A)
inbox_of None = []
inbox_of (Some h) = h.inbox

-- the effective rows and edges of a host: the pending ones where one install is missing
abbrev pub effective : {V A : Type 0} → ℕ → Host V A → List (VertexCopy V)
effective commits h = if h.installed + 1 == commits then h.pending else h.stable

abbrev pub effective_arcs : {V A : Type 0} → ℕ → Host V A → List NumberedEdge
effective_arcs commits h = if h.installed + 1 == commits then h.pending_arcs else h.arcs

module _ {V A : Type 0} where
  -- the host of a place, none where its machine is down
  abbrev pub host : Cluster V A → ℕ → Option (Host V A)
  host c p = get_or c.hosts p None

  abbrev pub is_up : Cluster V A → ℕ → Bool
  is_up c p = is_some (host c p)

  abbrev pub log : Cluster V A → ℕ → Log
  log c p = log_at c.logs p

  -- the cluster with another host, or another log, at a place
  abbrev pub with_host : ℕ → Option (Host V A) → Cluster V A → Cluster V A
  with_host p h c = record c { hosts = set c.hosts p h }

  abbrev pub with_log : ℕ → Log → Cluster V A → Cluster V A
  with_log p l c = record c { logs = set c.logs p l }

  -- what a rebuild goes by, and how many holders it wants
  abbrev pub view_of : Program V A → Cluster V A → RebuildView
  view_of P c = record {
    live = c.coordinator.live;
    dead = c.coordinator.dead;
    reborn = c.coordinator.reborn;
    places = c.places;
    theta = c.theta;
    losses = c.losses;
    forgetful = P.forgetful;
  }

  abbrev pub wanted_in : Program V A → Cluster V A → ℕ
  wanted_in P c = wanted (is_repair c.coordinator.mode) (view_of P c)
