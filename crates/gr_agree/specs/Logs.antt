-- The committed state in itself, and the committed logs that say it.
use Rattle.std.specs.Prelude.{ℕ, ◌≡◌, ◌<◌, ◌≤◌, ◌^◌, false, IsTrue, List, map, length}
use Rattle.std.specs.List.{AllByRecursion as Each}
use Rattle.gr_base.specs.declared.records.NumberedEdge.{NumberedEdge}
use Rattle.gr_base.specs.Rising.{RisesBy, has, includes}
use Rattle.gr_base.specs.Places.{IsPlaces, below}
use Rattle.gr_program.specs.Program.{Program}
use Rattle.gr_view.specs.declared.coordinator.Mode.TheVariants as mode
use Rattle.gr_view.specs.declared.coordinator.Coordinator.{Coordinator}
use Rattle.gr_log.specs.declared.record.LogRecord.{LogRecord}
use Rattle.gr_log.specs.Log.{Log}
use Rattle.gr_log.specs.Directory.{directory_in, edges_in, kept_edges}
use Rattle.gr_agree.specs.Truth.{Truth, held, place_of, arcs_at, entries_at, hidden}

-- the graph, the directory and the marks are sound
pub record Sound {V A : Type 0} (P : Program V A) (t : Truth V) : Type 0 where
  -- vertices rise, and are not too many
  pub rise : RisesBy (λ v. v) t.vertices
  pub few : length t.vertices ≤ 1048576
  pub ids : Each (λ v. v < 2 ^ 32) t.vertices
  -- edges are numbered from 0
  pub numbers : map (λ (a : NumberedEdge). a.number) t.edges ≡ below (length t.edges)
  -- their ends are vertices, and the place of an edge holds both
  pub sources : Each (λ a. IsTrue (has t.vertices a.edge.src)) t.edges
  pub targets : Each (λ a. IsTrue (has t.vertices a.edge.dst)) t.edges
  pub sources_held : Each (λ a. IsTrue (held t (place_of t a) a.edge.src)) t.edges
  pub targets_held : Each (λ a. IsTrue (held t (place_of t a) a.edge.dst)) t.edges
  -- a vertex has a set of holders, with its master among them
  pub holders : (v : ℕ) → IsTrue (has t.vertices v) → IsPlaces (t.holders v)
  pub master_holds : (v : ℕ) → IsTrue (has t.vertices v) → IsTrue (held t (t.master v) v)
  -- an active vertex is due, and one that is not active only where its value may be owed
  pub active_due : (v : ℕ) → IsTrue (t.state.active v) → IsTrue (t.due v)
  pub due_active : (v : ℕ) → hidden P t v ≡ false → t.due v ≡ t.state.active v
  -- a master lacks a value only of a vertex that is due, and so is applied again
  pub not_due_kept : (v : ℕ) → t.due v ≡ false → IsTrue (t.kept v)

-- no two records keep one edge
abbrev pub KeepsEachOnce : List LogRecord → Type 0
KeepsEachOnce rs = length (edges_in rs) ≡ length (kept_edges rs)

-- the committed logs say this graph and directory
pub record LogsHold {V : Type 0} (t : Truth V) (places threshold : ℕ) (co : Coordinator) (log_of : ℕ → Log) : Type 0 where
  -- high vertices are so by the threshold of the cluster
  pub theta : threshold ≡ t.theta
  -- each holder is a place that is not retired
  pub holders : (v p : ℕ) → IsTrue (has t.vertices v) → IsTrue (held t p v) → (p < places) × (has co.retired p ≡ false)
  -- during a recovery some holder of each vertex is not dead
  pub alive : co.mode ≡ mode.Recovering → (v : ℕ) → IsTrue (has t.vertices v) → includes co.dead (t.holders v) ≡ false
  -- the last Held records in the log of a place are those of the vertices that it holds, with their degrees, masters and holders
  pub entries : (p : ℕ) → p < places → has co.retired p ≡ false → directory_in (log_of p).committed ≡ entries_at t p
  -- its Kept records are those of the edges that stand there, each once
  pub edges : (p : ℕ) → p < places → has co.retired p ≡ false → edges_in (log_of p).committed ≡ arcs_at t p
  pub edges_once : (p : ℕ) → p < places → has co.retired p ≡ false → KeepsEachOnce (log_of p).committed
