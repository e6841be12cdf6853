-- How much is left of an epoch: each canonical event inside an epoch lowers this number.
use Rattle.std.specs.Prelude.{ℕ, ◌+◌, ◌*◌, Bool, not, ◌&&◌, ◌==◌, nat_lt, cond, Option, Some, None, sum_by, count_by, length, if◌then◌else◌}
use Rattle.gr_base.specs.Rising.{has}
use Rattle.gr_batch.specs.declared.stage.Stage.{Stage}
use Rattle.gr_batch.specs.Stages.{is_stage, is_end}
use Rattle.gr_batch.specs.Order.{place_in}
use Rattle.gr_view.specs.declared.coordinator.Coordinator.{Coordinator}
use Rattle.gr_view.specs.Modes.{is_open, is_over, is_rebuild}
use Rattle.gr_view.specs.Decisions.{parties}
use Rattle.gr_cluster.specs.Tables.{Host, Cluster, host}
use Rattle.gr_cluster.specs.Stages.{stages_of}
use Rattle.gr_cluster.specs.Todo.{others}

module _ {V A : Type 0} (co : Coordinator) (p : ℕ) (h : Host V A) where
  abbrev pub is_adopted : Bool
  is_adopted = h.epoch == co.epoch

  abbrev pub is_at : Stage → Bool
  is_at s = is_adopted && is_stage s h.stage

  abbrev pub is_passed : Stage → Bool
  is_passed s = is_adopted && nat_lt (place_in s) (place_in h.stage)

  -- the parties to which the batch of a stage is unsent; none for the end
  abbrev pub unsent_count : Stage → ℕ
  unsent_count s = if is_end s then 0 else count_by (λ q. not (is_at s && has h.sent q)) (others co p)

  -- of a stage that is not passed: one where it is not computed, and two for each unsent batch
  abbrev pub left_of_stage : Stage → ℕ
  left_of_stage s = if is_passed s then 0 else cond (is_at s && h.computed) 0 1 + 2 * unsent_count s

  -- what a place that is up has left: an install, an adoption, its stages, an append, a report
  abbrev pub left_at : ℕ
  left_at =
      cond (nat_lt h.installed co.commits) 1 0
      + cond (nat_lt h.epoch co.epoch) 1 0
      + sum_by left_of_stage (stages_of co.mode)
      + cond (is_rebuild co.mode && not (is_adopted && h.appended)) 1 0
      + cond (is_open co.mode && not (is_adopted && h.reported)) 1 0

abbrev pub left_where : {V A : Type 0} → Coordinator → ℕ → Option (Host V A) → ℕ
left_where co p None = 0
left_where co p (Some h) = left_at co p h

-- nothing once the run is over; else one, the batches in flight, and what the parties have left
unfoldable pub left : {V A : Type 0} → Cluster V A → ℕ
left c =
    if is_over c.coordinator.mode then 0
    else 1 + length c.flight + sum_by (λ p. left_where c.coordinator p (host c p)) (parties c.coordinator)
