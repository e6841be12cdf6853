-- How far a run is from its end: a number that no fewer canonical events bring to nothing.
use Rattle.std.specs.Prelude.{ℕ, ◌+◌, ◌-◌, ◌*◌, Bool, not, cond}
use Rattle.std.specs.List.{list_any}
use Rattle.gr_view.specs.declared.coordinator.Mode.{Mode}
use Rattle.gr_view.specs.declared.coordinator.Mode.TheVariants as mode
use Rattle.gr_view.specs.Decisions.{looked_at}
use Rattle.gr_cluster.specs.Tables.{Cluster, is_up}
use Rattle.gr_cluster.specs.Left.{left}

-- what is left at most of an epoch that begins with no batch in flight: eight times the square of 64 places, and one
abbrev pub most_left : ℕ
most_left = 32769

-- what an event that nobody had to choose adds to the canonical events to come, at most: those of four epochs
abbrev pub most_added : ℕ
most_added = 4 * most_left

-- by the mode, and by whether somebody is down: the failure that is still to be found, the recovery after it, and the commit of a rebuild
abbrev pub epochs_of : Mode → Bool → ℕ
epochs_of mode.Running down = cond down 3 0
epochs_of mode.Repairing down = cond down 3 1
epochs_of mode.Recovering down = cond down 3 1
epochs_of mode.Failed down = cond down 3 2
epochs_of mode.Done down = 0
epochs_of mode.Lost down = 0

module _ {V A : Type 0} where
  -- whether a place is down that a barrier looks at
  abbrev pub somebody_down : Cluster V A → Bool
  somebody_down c = list_any (λ p. not (is_up c p)) (looked_at c.coordinator)

  -- how many epochs may still come beside those of the rounds
  abbrev pub epochs_left : Cluster V A → ℕ
  epochs_left c = epochs_of c.coordinator.mode (somebody_down c)

  -- and with one for each round below the limit
  abbrev pub epochs_due : Cluster V A → ℕ
  epochs_due c = epochs_left c + (c.coordinator.limit - c.coordinator.round)

  -- no fewer than the canonical events until the end: what is left of this epoch, and the most of each epoch that may still come
  abbrev pub to_go : Cluster V A → ℕ
  to_go c = left c + most_left * epochs_due c
