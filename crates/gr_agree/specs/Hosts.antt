-- What a place that is up has: its committed rows, and its work in the present epoch.
use Rattle.std.specs.Prelude.{ℕ, ◌+◌, ◌≡◌, ◌<◌, ◌≤◌, ◌⊎◌, Bool, false, not, nat_lt, cond, IsTrue, List, [], Option, Some, None, if◌then◌else◌, ⊤}
use Rattle.std.specs.List.{list_any}
use Rattle.gr_base.specs.declared.records.NumberedEdge.{NumberedEdge}
use Rattle.gr_base.specs.Rising.{has}
use Rattle.gr_program.specs.declared.copy.VertexCopy.{VertexCopy}
use Rattle.gr_program.specs.Program.{Program}
use Rattle.gr_copies.specs.declared.view.RebuildView.{RebuildView}
use Rattle.gr_log.specs.Log.{Log}
use Rattle.gr_log.specs.Directory.{edges_in, with_items}
use Rattle.gr_batch.specs.declared.batch.Batch.{Batch}
use Rattle.gr_batch.specs.declared.stage.Stage.{Stage}
use Rattle.gr_batch.specs.Stages.{is_end}
use Rattle.gr_batch.specs.Order.{place_in}
use Rattle.gr_batch.specs.Bodies.{is_of}
use Rattle.gr_view.specs.declared.coordinator.Coordinator.{Coordinator}
use Rattle.gr_view.specs.Modes.{is_open, is_failed, is_rebuild}
use Rattle.gr_rules.specs.Rows.{blank_rows}
use Rattle.gr_cluster.specs.Tables.{Host, effective, effective_arcs}
use Rattle.gr_rules.specs.Exchange.{needed}
use Rattle.gr_cluster.specs.Stages.{stages_of, has_stage}
use Rattle.gr_cluster.specs.Todo.{others}
use Rattle.gr_agree.specs.Truth.{Truth, rows_at, arcs_at}
use Rattle.gr_agree.specs.TrueRound.{staged}
use Rattle.gr_agree.specs.Rebuilt.{true_taken, true_granted, true_records, stable_at}

-- how many stages are computed at a host
abbrev pub progress : {V A : Type 0} → Host V A → ℕ
progress h = place_in h.stage + cond h.computed 1 0

-- the batch of a needed stage of each other party is in the inbox
abbrev pub HasNeeded : {V A : Type 0} → List ℕ → ℕ → List (Batch V A) → Option Stage → Type 0
HasNeeded others e inbox None = ⊤
HasNeeded others e inbox (Some s) = (q : ℕ) → IsTrue (has others q) → IsTrue (list_any (is_of q e s) inbox)

-- a live place: its effective rows and edges are those that it has in the committed state
pub record HostHolds {V A : Type 0} (P : Program V A) (t : Truth V) (commits p : ℕ) (h : Host V A) : Type 0 where
  pub rows : effective commits h ≡ rows_at P t p
  pub arcs : effective_arcs commits h ≡ arcs_at t p

-- a reborn place: it has adopted the epoch, and holds what its committed log says, without values
pub record RebornHolds {V A : Type 0} (e : ℕ) (h : Host V A) (l : Log) : Type 0 where
  pub epoch : h.epoch ≡ e
  pub rows : h.stable ≡ blank_rows l.committed
  pub arcs : h.arcs ≡ edges_in l.committed

module _ {V A : Type 0} (P : Program V A) (w : RebuildView) (want : ℕ) (t : Truth V) where
  -- the pending copies and edges once k stages are computed: a rebuild stages at its end alone
  abbrev pub pending_rows : ℕ → ℕ → Bool → List (VertexCopy V)
  pending_rows p k rebuild =
      if rebuild then (if nat_lt 4 k then with_items (λ r. r.vertex) (true_granted P w want t p) (stable_at P w want t p) else stable_at P w want t p)
      else staged P t p k

  abbrev pub pending_arcs : ℕ → ℕ → Bool → List NumberedEdge
  pending_arcs p k rebuild = if rebuild then (if nat_lt 4 k then with_items (λ a. a.number) (true_taken w t p) (arcs_at t p) else arcs_at t p) else arcs_at t p

  -- a party that is up and has adopted the epoch
  pub record AtEpoch (co : Coordinator) (p : ℕ) (h : Host V A) (l : Log) : Type 0 where
    -- nothing is left to install
    pub installed : h.installed ≡ co.commits
    -- its stage is one of the mode, and after a failure nothing is computed
    pub stage : IsTrue (is_open co.mode) → IsTrue (has_stage (stages_of co.mode) h.stage)
    pub idle : IsTrue (is_failed co.mode) → progress h ≡ 0
    -- it sends from a computed stage alone, and passes the stage with its last batch
    pub not_sent : h.computed ≡ false → h.sent ≡ []
    pub unsent_left : IsTrue h.computed → is_end h.stage ≡ false → IsTrue (list_any (λ q. not (has h.sent q)) (others co p))
    -- each batch that a computed stage needed is in the inbox
    pub needed : (s : Stage) → IsTrue (has_stage (stages_of co.mode) s) → place_in s < progress h → HasNeeded (others co p) h.epoch h.inbox (needed (is_rebuild co.mode) s)
    -- the pending layer is the stable one with what the computed stages stage
    pub rows : h.pending ≡ pending_rows p (progress h) (is_rebuild co.mode)
    pub arcs : h.pending_arcs ≡ pending_arcs p (progress h) (is_rebuild co.mode)
    -- the tail of its log is what the rebuild appends, once it has appended
    pub tail : l.appended ≡ (if h.appended then true_records P w want t p else [])
    pub not_torn : l.torn ≡ []
    -- it reports after all that
    pub reported : IsTrue h.reported → (progress h ≡ 5) × (IsTrue (is_rebuild co.mode) → IsTrue h.appended)

  -- the work of a party that is up
  pub record HostOpen (co : Coordinator) (p : ℕ) (h : Host V A) (l : Log) : Type 0 where
    -- no epoch is adopted before it is opened
    pub epoch : h.epoch ≤ co.epoch
    -- one install at most is missing, and only before it adopts
    pub installed : (h.installed ≡ co.commits) ⊎ ((h.installed + 1 ≡ co.commits) × (h.epoch < co.epoch))
    pub at_epoch : h.epoch ≡ co.epoch → AtEpoch co p h l
