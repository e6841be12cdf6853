-- The degrees of a vertex in a list of edges.
use Rattle.std.specs.Prelude.{ℕ, List, ◌==◌}
use Rattle.std.specs.List.{count_by}
use Rattle.gr_base.specs.declared.records.Edge.{Edge}

-- how many edges end at v
abbrev pub indegree : List Edge → ℕ → ℕ
indegree es v = count_by (λ e. e.dst == v) es

-- how many edges begin at v
abbrev pub outdegree : List Edge → ℕ → ℕ
outdegree es v = count_by (λ e. e.src == v) es
