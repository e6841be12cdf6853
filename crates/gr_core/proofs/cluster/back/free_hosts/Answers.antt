use Rattle.std.proofs.Common.{◌∙◌, None, refl, sym, ap, arith}
use Rattle.gr_core.proofs.Changed.{changed-start, changed-on, changed-off, changed-end}
use Rattle.gr_core.proofs.cluster.back.free_hosts.Goals as goal
use Rattle.gr_core.proofs.cluster.back.free_hosts.Goals.{then-has, else-has}

pub loop-p-init : goal.loop-p-init
loop-p-init g c = changed-start c.args.places (λ _ _. None) c.args.hosts.now.items None

pub loop-p-preserved : goal.loop-p-preserved
loop-p-preserved g c =
    let p = c.loop-p.p in
    let hosts = c.loop-p.hosts.items in
    elim c.if-has.branch [
      | then-has w ↦
          changed-on c.args.places (λ _ _. None) c.args.hosts.now.items None p hosts c.if-has.hosts.items None (omega arith) (sym c.has.ensures.test ∙ w.if-has.true) refl
          (ap (λ v. v.items) w.hosts-is ∙ w.lose.ensures.hosts) c.loop-p.invariant
      | else-has w ↦
          changed-off c.args.places (λ _ _. None) c.args.hosts.now.items None p hosts c.if-has.hosts.items (sym c.has.ensures.test ∙ w.if-has.false) (ap (λ v. v.items) w.hosts-is) c.loop-p.invariant
    ]

pub returns : goal.returns
returns g c = changed-end c.args.places (λ _ _. None) c.args.hosts.now.items None c.loop-p.p c.loop-p.hosts.items (omega arith) c.loop-p.invariant
