-- The batches, where one that binds nobody leaves the flight.
use Rattle.std.proofs.Common.{◌≡◌, ℕ, List, false, cond, ap, arith, Option, Some, slice_get, remove}
use Rattle.std.specs.Prelude.{is_some, IsTrue}
use Rattle.gr_program.specs.Program.{Program}
use Rattle.gr_copies.specs.declared.view.RebuildView.{RebuildView}
use Rattle.gr_batch.specs.declared.batch.Batch.{Batch}
use Rattle.gr_batch.specs.declared.stage.Stage.{Stage}
use Rattle.gr_batch.specs.Bodies.{is_from}
use Rattle.gr_view.specs.declared.coordinator.Coordinator.{Coordinator}
use Rattle.gr_cluster.specs.Tables.{Host}
use Rattle.gr_agree.specs.Truth.{Truth}
use Rattle.gr_agree.specs.Network.{NetworkHolds}
use Rattle.gr_lists.proofs.Counts.{count_by-remove}
use Rattle.gr_lists.proofs.Each.{Each-remove}

module _ {V A : Type 0} (P : Program V A) (w : RebuildView) (want : ℕ) (t : Truth V) (co : Coordinator) (host_of : ℕ → Option (Host V A)) (flight : List (Batch V A)) where
  -- it is not one of the present epoch whose ends are both up
  pub network-removed : NetworkHolds P w want t co host_of flight → (b : Batch V A) (i : ℕ) → slice_get flight i ≡ Some b
      → ((p q : ℕ) (s : Stage) → IsTrue (is_some (host_of p)) → IsTrue (is_some (host_of q)) → is_from p q co.epoch s b ≡ false)
      → NetworkHolds P w want t co host_of (remove flight i)
  network-removed N b i is free = record {
    in_flight = Each-remove _ flight i N.in_flight;
    in_inbox = N.in_inbox;
    at_most_one = λ p q e s. let less = count_by-remove (is_from p q e s) b flight i is in let was = N.at_most_one p q e s in omega (arith, less, was);
    only_sent = λ p q s up. let less = count_by-remove (is_from p q co.epoch s) b flight i is in let was = N.only_sent p q s up in omega (arith, less, was);
    all_sent = λ p q s up up' party party' apart.
        let less = count_by-remove (is_from p q co.epoch s) b flight i is in
        let none : cond {A = ℕ} (is_from p q co.epoch s b) 1 0 ≡ 0 = ap (λ x. cond x 1 0) (free p q s up up') in
        let was = N.all_sent p q s up up' party party' apart in omega (arith, less, was, none);
  }
