-- The directory that the committed logs of a cluster say.
use Rattle.std.specs.Prelude.{ℕ, not, List, [], flat_map}
use Rattle.std.specs.List.{filter}
use Rattle.gr_base.specs.Rising.{has}
use Rattle.gr_base.specs.Places.{below}
use Rattle.gr_log.specs.Directory.{Entry, directory_in, with_items}
use Rattle.gr_cluster.specs.Tables.{Cluster, log}

module _ {V A : Type 0} where
  abbrev pub unretired : Cluster V A → List ℕ
  unretired c = filter (λ p. not (has c.coordinator.retired p)) (below c.places)

  -- a Held record of each vertex there, by rising vertex
  unfoldable pub directory_of : Cluster V A → List Entry
  directory_of c = with_items (λ e. e.vertex) (flat_map (λ p. directory_in (log c p).committed) (unretired c)) []
