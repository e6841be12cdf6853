-- What a place grants in a recovery, for one copy of its own.
use Rattle.std.specs.Prelude.{ℕ, not, ◌&&◌, ◌||◌, nat_lt, List, Option, Some, None, length, if◌then◌else◌}
use Rattle.std.specs.List.{list_any, filter}
use Rattle.gr_base.specs.Rising.{has}
use Rattle.gr_base.specs.Places.{below}
use Rattle.gr_program.specs.declared.copy.VertexCopy.{VertexCopy}
use Rattle.gr_copies.specs.declared.view.RebuildView.{RebuildView}
use Rattle.gr_copies.specs.Granter.{is_retiring}
use Rattle.gr_rules.specs.Grants.{is_granted_to, granted_copy}

-- the old holders without the retiring ones, and those who ask
unfoldable pub holders_after : RebuildView → List ℕ → List ℕ → List ℕ
holders_after w holders asked = filter (λ q. (has holders q && not (is_retiring w q)) || has asked q) (below w.places)

-- they are granted where a holder died or some place asks, and to one of them
unfoldable pub holders_for : RebuildView → List ℕ → List ℕ → ℕ → Option (List ℕ)
holders_for w holders asked q =
    if (list_any (has w.dead) holders || nat_lt 0 (length asked)) && has (holders_after w holders asked) q then Some (holders_after w holders asked) else None

-- the new copy for q that p grants
abbrev pub grant_line : {V : Type 0} → RebuildView → ℕ → List ℕ → ℕ → VertexCopy V → Option (VertexCopy V)
grant_line w p asked q c = if is_granted_to w 0 p q c asked then Some (granted_copy w 0 c asked q) else None
