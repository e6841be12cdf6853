-- Where the two layers may differ.
use Rattle.std.specs.Prelude.{ℕ, ◌≡◌, ◌≢◌, ◌<◌, Bool, false, List, length, map, slice_index_or}
use Rattle.gr_base.specs.Rising.{has}
use Rattle.gr_program.specs.declared.copy.VertexCopy.{VertexCopy}
use Rattle.gr_rows.specs.Layers.{vertex_of}

-- the positions at which copies may differ, or the word that they may differ anywhere
pub record ChangedPositions : Type 0 where
  pub positions : List ℕ
  pub anywhere : Bool

-- xs has what ys has, except at these positions
abbrev pub SameBut : {X : Type 0} → List ℕ → List X → List X → Type 0
SameBut {X} positions xs ys = (i : ℕ) (d : X) → i < length ys → has positions i ≡ false → slice_index_or xs i d ≡ slice_index_or ys i d

-- two lists with the same vertices, whose copies differ at most at these positions
pub record AgreeBut {V : Type 0} (positions : List ℕ) (xs ys : List (VertexCopy V)) : Type 0 where
  pub vertices : map vertex_of xs ≡ map vertex_of ys
  pub same : SameBut positions xs ys

-- ys has what xs has, except at one position
abbrev pub KeepsBut : {X : Type 0} → ℕ → List X → List X → Type 0
KeepsBut {X} at xs ys = (i : ℕ) (d : X) → i ≢ at → slice_index_or ys i d ≡ slice_index_or xs i d
