-- The next round of the committed state, and what a place has staged of it.
use Rattle.std.specs.Prelude.{ℕ, Bool, true, not, ◌&&◌, ◌||◌, ◌==◌, nat_lt, List, Option, Some, None, map, if◌then◌else◌}
use Rattle.std.specs.List.{filter, filter_map, list_any}
use Rattle.gr_program.specs.declared.copy.VertexCopy.{VertexCopy}
use Rattle.gr_program.specs.Program.{Program, total}
use Rattle.gr_program.specs.Rounds.{contribution, next_value, woke, after_round}
use Rattle.gr_batch.specs.declared.body.Part.{Part}
use Rattle.gr_batch.specs.declared.body.NewValue.{NewValue}
use Rattle.gr_rules.specs.Rows.{into}
use Rattle.gr_agree.specs.Truth.{Truth, edge_list, true_indegree, true_outdegree, high, held, held_at, place_of, arcs_at, hidden}

module _ {V A : Type 0} (P : Program V A) where
  abbrev pub value_next : Truth V → ℕ → V
  value_next t v = next_value P (edge_list t) t.state v

  abbrev pub wakes_at : Truth V → ℕ → Bool
  wakes_at t v = woke P (edge_list t) t.state v

  abbrev pub active_next : Truth V → ℕ → Bool
  active_next t v = (after_round P (edge_list t) t.state).active v

  -- the committed state after a round: its vertices are due where they are active, and no value is owed any more
  abbrev pub next : Truth V → Truth V
  next t = record t { state = after_round P (edge_list t) t.state; due = active_next t; kept = λ _. true }

  -- the value at p once k stages of a round are computed there: the master stages the new value with the second, a mirror with the third
  abbrev pub value_staged : Truth V → ℕ → ℕ → ℕ → Option V
  value_staged t p k v =
      let is_new = nat_lt 1 k && (t.master v == p) in
      if hidden P t v
      then (if is_new then Some (value_next t v) else if (t.master v == p) && t.kept v then Some (t.state.value v) else None)
      else Some (if is_new || nat_lt 2 k then value_next t v else t.state.value v)

  -- the marks are staged with the last of the five
  abbrev pub copy_staged : Truth V → ℕ → ℕ → ℕ → VertexCopy V
  copy_staged t p k v = record {
    vertex = v;
    indeg = true_indegree t v;
    outdeg = true_outdegree t v;
    master = t.master v;
    holders = t.holders v;
    value = value_staged t p k v;
    due = if nat_lt 4 k then active_next t v else t.due v;
  }

  unfoldable pub staged : Truth V → ℕ → ℕ → List (VertexCopy V)
  staged t p k = map (copy_staged t p k) (held_at t p)

  -- Gather: the join of what the edges at p bring, for each due high vertex that q masters
  unfoldable pub part_sum : Truth V → ℕ → ℕ → A
  part_sum t p v = total P (map (λ a. contribution P (edge_list t) t.state.value a.edge) (filter (into v) (arcs_at t p)))

  abbrev pub true_part : Truth V → ℕ → ℕ → ℕ → Option (Part A)
  true_part t p q v =
      if t.due v && (high t v && ((t.master v == q) && list_any (into v) (arcs_at t p)))
      then Some (record { vertex = v; acc = part_sum t p v }) else None

  unfoldable pub true_parts : Truth V → ℕ → ℕ → List (Part A)
  true_parts t p q = filter_map (true_part t p q) t.vertices

  -- Update: the new values of the due vertices that p masters and q holds, but for the hidden ones
  abbrev pub true_value : Truth V → ℕ → ℕ → ℕ → Option (NewValue V)
  true_value t p q v =
      if (t.due v && not (hidden P t v)) && ((t.master v == p) && held t q v)
      then Some (record { vertex = v; value = value_next t v; wake = wakes_at t v }) else None

  unfoldable pub true_values : Truth V → ℕ → ℕ → List (NewValue V)
  true_values t p q = filter_map (true_value t p q) t.vertices

  -- Signal: the targets that q masters of the edges at p from vertices that woke
  unfoldable pub true_signals : Truth V → ℕ → ℕ → List ℕ
  true_signals t p q =
      filter (λ v. (t.master v == q) && list_any (λ a. (a.edge.dst == v) && ((place_of t a == p) && wakes_at t a.edge.src)) t.edges) t.vertices

  -- Call: the vertices active next that p masters and q holds
  unfoldable pub true_calls : Truth V → ℕ → ℕ → List ℕ
  true_calls t p q = filter (λ v. active_next t v && ((t.master v == p) && held t q v)) t.vertices
