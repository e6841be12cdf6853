use Rattle.std.proofs.Common.{arith, ap, length}
use Rattle.gr_view.specs.declared.coordinator.Coordinator.{Coordinator}
use Rattle.gr_view.proofs.Decided.{without-shorter}
use Rattle.gr_view.proofs.coordinator.Coordinator.send_back.Goals as goal

pub overflow_cast-back : goal.overflow_cast-back
overflow_cast-back c = omega (arith, without-shorter c.args.self.now.reborn c.args.crashed, ap length c.difference.ensures.difference)

pub overflow_add-self : goal.overflow_add-self
overflow_add-self c = omega (arith, without-shorter c.args.self.now.reborn c.args.crashed, ap length c.difference.ensures.difference, ap (λ (co : Coordinator). co.spares) c.raise_epoch.ensures)
