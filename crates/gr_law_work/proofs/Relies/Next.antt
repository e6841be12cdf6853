-- What is known of a place in a rebuild by what it does next.
use Rattle.std.proofs.Common.{◌≡◌, ℕ, true, false, Some}
use Rattle.gr_batch.specs.Stages.{is_end}
use Rattle.gr_view.specs.declared.coordinator.Coordinator.{Coordinator}
use Rattle.gr_view.specs.Modes.{is_rebuild}
use Rattle.gr_rules.specs.Exchange.{unsent}
use Rattle.gr_rules.specs.Todo.{Todo}
use Rattle.gr_cluster.specs.Tables.{Host}
use Rattle.gr_cluster.specs.Todo.{others, todo}
use Rattle.gr_law_rebuilds.proofs.Rebuild.Todo.{todo-meets}
use Rattle.gr_law_rebuilds.proofs.Rebuild.Stages.{not-over}

module _ {V A : Type 0} (co : Coordinator) (p : ℕ) (h : Host V A) (rebuilding : is_rebuild co.mode ≡ true) where
  -- a stage is computed only once
  pub computes-fresh : todo co p h ≡ Todo.Compute → h.computed ≡ false
  computes-fresh = todo-meets co p h rebuilding (not-over co.mode rebuilding) Todo.Compute

  -- it sends the batch of a computed stage to the least party that lacks it
  pub record SendsTo (q : ℕ) : Type 0 where
    pub computed : h.computed ≡ true
    pub unfinished : is_end h.stage ≡ false
    pub left : unsent (others co p) h.sent ≡ Some q

  pub sends-to : (q : ℕ) → todo co p h ≡ Todo.Send q → SendsTo q
  sends-to q e = let m = todo-meets co p h rebuilding (not-over co.mode rebuilding) (Todo.Send q) e in record { computed = m.0; unfinished = m.1; left = m.2 }

  -- it reports at the computed end
  pub reports-end : todo co p h ≡ Todo.Report → (h.computed ≡ true) × (is_end h.stage ≡ true)
  reports-end e = let m = todo-meets co p h rebuilding (not-over co.mode rebuilding) Todo.Report e in (m.0, m.1)
