-- The committed round, the last one, and the reports of the present epoch.
use Rattle.std.specs.Prelude.{ℕ, ◌*◌, ◌≡◌, ◌≢◌, ◌<◌, ◌≤◌, false, ◌&&◌, ◌==◌, IsTrue, [], Option, Some, count_by, length}
use Rattle.gr_base.specs.Rising.{has}
use Rattle.gr_program.specs.Program.{Program}
use Rattle.gr_program.specs.Rounds.{state_after, last_round}
use Rattle.gr_view.specs.declared.coordinator.Mode.TheVariants as mode
use Rattle.gr_view.specs.declared.coordinator.Coordinator.{Coordinator}
use Rattle.gr_view.specs.Modes.{is_open, is_round, is_rebuild}
use Rattle.gr_view.specs.Decisions.{parties}
use Rattle.gr_cluster.specs.Tables.{Host}
use Rattle.gr_agree.specs.Truth.{Truth, edge_list}
use Rattle.gr_agree.specs.TrueRound.{active_next}

module _ {V A : Type 0} (P : Program V A) (t : Truth V) (co : Coordinator) where
  -- the committed state is that of the committed round
  pub record RoundHolds : Type 0 where
    -- its values and active vertices are those after as many synchronous rounds of the graph
    pub state : t.state ≡ state_after P (edge_list t) co.round
    -- at the end no value is owed
    pub settled : co.mode ≡ mode.Done → (v : ℕ) → (t.due v ≡ t.state.active v) × IsTrue (t.kept v)

  -- the run is done at the last round, and not before
  pub record EndHolds : Type 0 where
    pub done : co.mode ≡ mode.Done → co.round ≡ last_round P (edge_list t) t.vertices co.limit
    pub not_done : co.mode ≢ mode.Done → co.round < last_round P (edge_list t) t.vertices co.limit

  pub record ReportsHold (host_of : ℕ → Option (Host V A)) : Type 0 where
    -- a party that is up is ready where it has adopted the epoch and its line says that it reported
    pub ready : (p : ℕ) (h : Host V A) → host_of p ≡ Some h → IsTrue (has (parties co) p) → has co.ready p ≡ (h.epoch == co.epoch) && h.reported
    -- outside rounds and rebuilds nobody has reported
    pub none : is_open co.mode ≡ false → (co.ready ≡ []) × (co.due ≡ 0)
    -- in a round the sum is that of the vertices due next whose masters have reported; in a rebuild it is bounded
    pub due : IsTrue (is_round co.mode) → co.due ≡ count_by (λ v. active_next P t v && has co.ready (t.master v)) t.vertices
    pub due_bounded : IsTrue (is_rebuild co.mode) → co.due ≤ length t.vertices * length co.ready
