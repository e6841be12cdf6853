-- The vertices that the log of a dead place knows to be lost.
use Rattle.std.proofs.Common.{◌≡◌, ℕ, List, map, flat_map, sym, ap, ◌∙◌}
use Rattle.std.specs.List.{filter}
use Rattle.gr_base.specs.Rising.{has, includes}
use Rattle.gr_base.specs.Places.{IsPlaces}
use Rattle.gr_log.specs.Log.{Log}
use Rattle.gr_log.specs.Directory.{Entry, directory_in, rising}
use Rattle.gr_rules.specs.Lost.{lost_of}
use Rattle.gr_rules.specs.Taken.{log_at}
use Rattle.gr_migrate.proofs.Placed.{parts, set-below, map-flat_map}

abbrev pub gone_at : List ℕ → List Log → ℕ → List ℕ
gone_at dead logs p = map (λ e. e.vertex) (filter (λ e. includes dead e.holders) (directory_in (log_at logs p).committed))

-- those of all dead places together
pub lost_of-parts : (dead : List ℕ) (logs : List Log) → IsPlaces dead → rising (parts (has dead) (gone_at dead logs) 64) ≡ lost_of dead logs
unfolding lost_of
lost_of-parts dead logs is =
    ap (λ ps. rising (flat_map (gone_at dead logs) ps)) (set-below dead is)
    ∙ ap rising (sym (map-flat_map (λ (e : Entry). e.vertex) (λ p. filter (λ e. includes dead e.holders) (directory_in (log_at logs p).committed)) dead))
