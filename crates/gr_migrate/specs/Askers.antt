-- Who asks for a vertex.
use Rattle.std.specs.Prelude.{ℕ, ◌≡◌, ◌==◌, ◌&&◌, Bool, List, map}
use Rattle.std.specs.List.{filter, list_any}
use Rattle.gr_base.specs.Rising.{RisesBy, has}
use Rattle.gr_log.specs.Directory.{rising}
use Rattle.gr_migrate.specs.declared.grant.AskFrom.{AskFrom}

-- whether a place asks for a vertex
abbrev pub asks_for : List AskFrom → ℕ → ℕ → Bool
asks_for asked v q = list_any (λ a. (a.vertex == v) && (a.asker == q)) asked

-- the places that ask for a vertex, rising, each once
unfoldable pub askers : List AskFrom → ℕ → List ℕ
askers asked v = rising (map (λ a. a.asker) (filter (λ a. a.vertex == v) asked))

-- for each vertex the places that ask for it, rising
pub record AreAskers (asked : List AskFrom) (asked_by : ℕ → List ℕ) : Type 0 where
  pub rise : (v : ℕ) → RisesBy (λ q. q) (asked_by v)
  pub members : (v q : ℕ) → has (asked_by v) q ≡ asks_for asked v q
