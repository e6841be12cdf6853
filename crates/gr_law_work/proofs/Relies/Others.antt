-- The other parties are a set of places.
use Rattle.std.proofs.Common.{ℕ}
use Rattle.gr_base.specs.Places.{IsPlaces}
use Rattle.gr_program.specs.Program.{Program}
use Rattle.gr_view.specs.Decisions.{parties}
use Rattle.gr_cluster.specs.Tables.{Cluster}
use Rattle.gr_cluster.specs.Todo.{others}
use Rattle.gr_agree.specs.Truth.{Truth}
use Rattle.gr_agree.specs.Agree.{Agree}
use Rattle.gr_law_rebuilds.proofs.Epoch.Places.{IsPlaces-union, IsPlaces-filter}

pub other-places : {V A : Type 0} (P : Program V A) (t : Truth V) (c : Cluster V A) (p : ℕ) → Agree P t c → IsPlaces (others c.coordinator p)
other-places P t c p AG = IsPlaces-filter _ (parties c.coordinator) (IsPlaces-union c.coordinator.live c.coordinator.reborn AG.committed.shaped.live AG.committed.shaped.reborn)
