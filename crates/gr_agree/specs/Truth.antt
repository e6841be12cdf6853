-- The committed state as one graph, one directory and one map of values, and what each place holds of it.
use Rattle.std.specs.Prelude.{ℕ, Bool, not, ◌&&◌, ◌==◌, List, Option, Some, None, map, if◌then◌else◌}
use Rattle.std.specs.List.{filter}
use Rattle.gr_base.specs.declared.records.Edge.{Edge}
use Rattle.gr_base.specs.declared.records.NumberedEdge.{NumberedEdge}
use Rattle.gr_base.specs.Degrees.{indegree, outdegree}
use Rattle.gr_base.specs.Rising.{has}
use Rattle.gr_program.specs.declared.copy.VertexCopy.{VertexCopy}
use Rattle.gr_program.specs.Program.{Program}
use Rattle.gr_program.specs.Rounds.{State}
use Rattle.gr_cut.specs.Cut.{is_high, edge_place}
use Rattle.gr_log.specs.Directory.{Entry}

-- No cluster stores it. The graph and the directory are what the committed logs say; the values and the active vertices are those of
-- the synchronous rounds of that graph. That a vertex is due, and that its master keeps its value, are facts beside them: both may
-- differ for a vertex without readers under a forgetful program, whose value is then owed.
pub record Truth (V : Type 0) : Type 0 where
  -- the vertices, rising, and the edges by number
  pub vertices : List ℕ
  pub edges : List NumberedEdge
  -- the threshold of high vertices
  pub theta : ℕ
  -- the master and the holders of each vertex
  pub master : ℕ → ℕ
  pub holders : ℕ → List ℕ
  -- the values, and the vertices that are active
  pub state : State V
  -- whether a vertex is due, and whether its master keeps its value
  pub due : ℕ → Bool
  pub kept : ℕ → Bool

module _ {V : Type 0} where
  abbrev pub edge_list : Truth V → List Edge
  edge_list t = map (λ a. a.edge) t.edges

  abbrev pub true_indegree : Truth V → ℕ → ℕ
  true_indegree t v = indegree (edge_list t) v

  abbrev pub true_outdegree : Truth V → ℕ → ℕ
  true_outdegree t v = outdegree (edge_list t) v

  abbrev pub high : Truth V → ℕ → Bool
  high t v = is_high t.theta (true_indegree t v)

  -- whether p holds v
  abbrev pub held : Truth V → ℕ → ℕ → Bool
  held t p v = has (t.holders v) p

  -- the vertices that p holds
  abbrev pub held_at : Truth V → ℕ → List ℕ
  held_at t p = filter (held t p) t.vertices

  -- the place of an edge
  abbrev pub place_of : Truth V → NumberedEdge → ℕ
  place_of t a = edge_place (t.master a.edge.src) (t.master a.edge.dst) (high t a.edge.dst)

  -- the edges that stand at p
  unfoldable pub arcs_at : Truth V → ℕ → List NumberedEdge
  arcs_at t p = filter (λ a. place_of t a == p) t.edges

  -- what a log says of a vertex
  abbrev pub true_entry : Truth V → ℕ → Entry
  true_entry t v = record { vertex = v; indeg = true_indegree t v; outdeg = true_outdegree t v; master = t.master v; holders = t.holders v }

  unfoldable pub entries_at : Truth V → ℕ → List Entry
  entries_at t p = map (true_entry t) (held_at t p)

module _ {V A : Type 0} (P : Program V A) where
  -- a vertex without readers under a forgetful program
  abbrev pub hidden : Truth V → ℕ → Bool
  hidden t v = P.forgetful && (true_outdegree t v == 0)

  -- the value of a copy at p: a hidden vertex has one at its master alone, and there only where it is kept
  abbrev pub value_at : Truth V → ℕ → ℕ → Option V
  value_at t p v = if hidden t v && not ((t.master v == p) && t.kept v) then None else Some (t.state.value v)

  abbrev pub copy_at : Truth V → ℕ → ℕ → VertexCopy V
  copy_at t p v = record {
    vertex = v;
    indeg = true_indegree t v;
    outdeg = true_outdegree t v;
    master = t.master v;
    holders = t.holders v;
    value = value_at t p v;
    due = t.due v;
  }

  -- the copies that p has
  unfoldable pub rows_at : Truth V → ℕ → List (VertexCopy V)
  rows_at t p = map (copy_at t p) (held_at t p)
