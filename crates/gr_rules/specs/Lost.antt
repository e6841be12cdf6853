-- The vertices that are lost.
use Rattle.std.specs.Prelude.{ℕ, List, map, flat_map}
use Rattle.std.specs.List.{filter}
use Rattle.gr_base.specs.Rising.{includes}
use Rattle.gr_log.specs.Log.{Log}
use Rattle.gr_log.specs.Directory.{directory_in, rising}
use Rattle.gr_rules.specs.Taken.{log_at}

-- those in committed records of dead places all of whose holders are dead, rising
unfoldable pub lost_of : List ℕ → List Log → List ℕ
lost_of dead logs =
    rising (map (λ e. e.vertex) (flat_map (λ p. filter (λ e. includes dead e.holders) (directory_in (log_at logs p).committed)) dead))
