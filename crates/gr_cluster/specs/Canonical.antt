-- The event that comes next where nobody chooses.
use Rattle.std.specs.Prelude.{ℕ, Bool, not, ◌&&◌, List, [], ◌∷◌, Option, Some, None, take, if◌then◌else◌}
use Rattle.std.specs.List.{list_any, find}
use Rattle.gr_base.specs.Places.{below}
use Rattle.gr_batch.specs.declared.batch.Batch.{Batch}
use Rattle.gr_sched.specs.declared.event.Event.{Event}
use Rattle.gr_sched.specs.declared.event.Event.TheVariants as event
use Rattle.gr_view.specs.Modes.{is_failed, is_over}
use Rattle.gr_cluster.specs.Tables.{Cluster, host, is_up}
use Rattle.gr_cluster.specs.Todo.{can_work}

module _ {V A : Type 0} where
  -- a live place is down, which no barrier has seen yet
  abbrev pub is_crash_unseen : Cluster V A → Bool
  is_crash_unseen c = list_any (λ p. not (is_up c p)) c.coordinator.live

  -- after a failure a recovery with as many of the first dead places as there are spares, and else a barrier
  abbrev pub canonical_decision : Cluster V A → Event
  canonical_decision c =
      if is_failed c.coordinator.mode && not (is_crash_unseen c)
      then event.Recover (take c.coordinator.spares c.coordinator.dead) else event.Barrier

  -- the work of the least place that can work
  abbrev pub canonical_work : Cluster V A → Option ℕ → Event
  canonical_work c (Some p) = event.Work p
  canonical_work c None = canonical_decision c

  -- the first batch in flight is delivered before all else
  abbrev pub canonical_among : Cluster V A → List (Batch V A) → Event
  canonical_among c (b ∷ bs) = event.Deliver 0
  canonical_among c [] = canonical_work c (find (λ p. can_work c.coordinator p (host c p)) (below c.places))

  -- none once the run is over
  unfoldable pub next_canonical : Cluster V A → Option Event
  next_canonical c = if is_over c.coordinator.mode then None else Some (canonical_among c c.flight)
