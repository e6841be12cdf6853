use Rattle.std.proofs.Common.{◌≡◌, ap, arith, length}
use Rattle.gr_cluster.specs.Load.{load}
use Rattle.gr_stepped.proofs.tests.stepped.Stepped.load.Goals as goal

pub invariant_of-result-clause-serial : goal.invariant_of-result-clause-serial
unfolding load
invariant_of-result-clause-serial g c = let none : c.in_ok-cluster.cluster.cluster.serial ≡ 0 = ap (λ t. t.cluster.serial) c.in_ok-cluster.ensures.cluster in omega (arith, none)

pub invariant_of-result-clause-epoch : goal.invariant_of-result-clause-epoch
unfolding load
invariant_of-result-clause-epoch g c = let none : c.in_ok-cluster.cluster.cluster.coordinator.epoch ≡ 0 = ap (λ t. t.cluster.coordinator.epoch) c.in_ok-cluster.ensures.cluster in omega (arith, none)

pub invariant_of-result-clause-commits : goal.invariant_of-result-clause-commits
unfolding load
invariant_of-result-clause-commits g c = let none : c.in_ok-cluster.cluster.cluster.coordinator.commits ≡ 0 = ap (λ t. t.cluster.coordinator.commits) c.in_ok-cluster.ensures.cluster in omega (arith, none)

pub invariant_of-result-clause-flight : goal.invariant_of-result-clause-flight
unfolding load
invariant_of-result-clause-flight g c = let none : length c.in_ok-cluster.cluster.cluster.flight ≡ 0 = ap (λ t. length t.cluster.flight) c.in_ok-cluster.ensures.cluster in omega (arith, none)
