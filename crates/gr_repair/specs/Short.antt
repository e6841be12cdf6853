-- Copies that are too few.
use Rattle.std.specs.Prelude.{ℕ, ◌≡◌, ◌+◌, Bool, true, ◌==◌, ◌&&◌, nat_lt, min, List, length}
use Rattle.gr_base.specs.Rising.{has, includes}
use Rattle.gr_program.specs.declared.copy.VertexCopy.{VertexCopy}

-- whether p masters the vertex of a copy, and it has fewer holders than outlast the losses, or than there are live places
abbrev pub is_short : {V : Type 0} → ℕ → ℕ → List ℕ → VertexCopy V → Bool
is_short p losses live c = (c.master == p) && nat_lt (length c.holders) (min (losses + 1) (length live))

-- the holders of a copy's vertex are live, and its master is one of them
pub record IsHeldLive {V : Type 0} (live : List ℕ) (c : VertexCopy V) : Type 0 where
  pub holders : includes live c.holders ≡ true
  pub master : has c.holders c.master ≡ true
