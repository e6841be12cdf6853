-- A round over positions among the vertices.
use Rattle.std.specs.Prelude.{◌≡◌, ℕ, ◌<◌, ◌&&◌, IsTrue, Bool, List, map, length, slice_index, slice_index_or}
use Rattle.std.specs.List.{All, list_any}
use Rattle.gr_base.specs.Rising.{has}
use Rattle.gr_program.specs.Program.{Program, total}
use Rattle.gr_program.specs.Rounds.{State}
use Rattle.gr_uncut.specs.declared.index.Arc.{Arc}
use Rattle.gr_uncut.specs.declared.index.Index.{Index}
use Rattle.gr_uncut.specs.Index.{arcs_at, targets_at}

-- the list holds the value of f at each of its positions
abbrev pub Reads : {X : Type 0} → (ℕ → X) → List X → Type 0
Reads {X} f xs = (k : ℕ) (d : X) → k < length xs → slice_index_or xs k d ≡ f k

-- what an arc brings, where x is the value at each position
abbrev pub brought : {V A : Type 0} → Program V A → (ℕ → V) → Arc → A
brought p x a = p.along (x a.source) a.weight a.outdegree

-- the new value at a position, where x is the value at each
abbrev pub applied : {V A : Type 0} → Program V A → List ℕ → Index → (ℕ → V) → ℕ → V
applied p vs index x k = p.apply (slice_index vs k) (x k) (total p (map (brought p x) (arcs_at index k)))

-- whether position k is woken by one of the active positions, where values change from x to y
abbrev pub is_woken : {V A : Type 0} → Program V A → Index → (ℕ → V) → (ℕ → V) → List ℕ → ℕ → Bool
is_woken p index x y active k = list_any (λ j. p.wakes (x j) (y j) && has (targets_at index j) k) active

-- the values xs and the active positions ks are those of a state
pub record Holds {V A : Type 0} (p : Program V A) (vs : List ℕ) (s : State V) (xs : List V) (ks : List ℕ) : Type 0 where
  pub values : xs ≡ map s.value vs
  pub kept : All (λ x. IsTrue (p.is_value x)) xs
  pub within : All (λ k. k < length vs) ks
  pub active : (k : ℕ) → k < length vs → has ks k ≡ s.active (slice_index vs k)
