-- The synchronous rounds of a program over the list of edges of a graph. A map from vertices is a function, and so is a set of them.
use Rattle.std.specs.Prelude.{◌≡◌, ℕ, zero, suc, ◌<◌, ◌≤◌, ◌⊎◌, ◌==◌, ◌&&◌, Bool, true, false, List, map, filter, if◌then◌else◌}
use Rattle.std.specs.List.{list_any}
use Rattle.gr_base.specs.declared.records.Edge.{Edge}
use Rattle.gr_base.specs.Degrees.{indegree, outdegree}
use Rattle.gr_program.specs.Program.{Program, total}

-- a value for each vertex, and whether it is active
pub record State (V : Type 0) : Type 0 where
  pub value : ℕ → V
  pub active : ℕ → Bool

module _ {V A : Type 0} (p : Program V A) (es : List Edge) where
  -- what an edge brings to its target
  abbrev pub contribution : (ℕ → V) → Edge → A
  contribution x e = p.along (x e.src) e.weight (outdegree es e.src)

  -- the join, from the unit, of the contributions along the edges into v
  abbrev pub gathered : (ℕ → V) → ℕ → A
  gathered x v = total p (map (contribution x) (filter (λ e. e.dst == v) es))

  -- an active vertex is applied to what it gathered, and each other keeps its value
  abbrev pub next_value : State V → ℕ → V
  next_value s v = if s.active v then p.apply v (s.value v) (gathered s.value v) else s.value v

  -- the active vertices whose change wakes
  abbrev pub woke : State V → ℕ → Bool
  woke s v = s.active v && p.wakes (s.value v) (next_value s v)

  -- one round: active next are the targets of edges whose source woke
  unfoldable pub after_round : State V → State V
  after_round s = record { value = next_value s; active = λ v. list_any (λ e. (e.dst == v) && woke s e.src) es }

  -- before the first round every vertex is active
  unfoldable pub first_state : State V
  first_state = record { value = λ v. p.start v (indegree es v) (outdegree es v); active = λ _. true }

  unfoldable pub state_after : ℕ → State V
  state_after zero = first_state
  state_after (suc r) = after_round (state_after r)

  -- some vertex is active after r rounds
  abbrev pub is_on : List ℕ → ℕ → Bool
  is_on vs r = list_any (state_after r).active vs

  -- r is the last round: the least after which no vertex is active, or the limit where that comes first
  pub record IsLastRound (vs : List ℕ) (limit r : ℕ) : Type 0 where
    pub within : r ≤ limit
    pub ended : (r ≡ limit) ⊎ (is_on vs r ≡ false)
    pub least : (s : ℕ) → s < r → is_on vs s ≡ true

  -- the first round from r on, at most n later, after which no vertex is active, or r + n
  unfoldable pub last_from : List ℕ → ℕ → ℕ → ℕ
  last_from vs zero r = r
  last_from vs (suc n) r = if is_on vs r then last_from vs n (suc r) else r

  -- the last round of a run over the vertices vs
  abbrev pub last_round : List ℕ → ℕ → ℕ
  last_round vs limit = last_from vs limit 0
