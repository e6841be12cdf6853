use Rattle.std.proofs.Common.{◌∙◌, ◌<◌, None, length, get_or, set, get_or-set_other, length-set, sym, ap, refl, arith}
use Rattle.std.proofs.lemmas.List.{get_or_default}
use Rattle.gr_core.proofs.Changed.{changed-start, changed-on, changed-off, changed-end}
use Rattle.gr_core.proofs.cluster.spares.place_spares.Goals as goal
use Rattle.gr_core.proofs.cluster.spares.place_spares.Goals.{then-has, else-has}

pub loop-p-init : goal.loop-p-init
loop-p-init g c = record {
  hosts = changed-start c.args.places (λ p _. get_or c.args.spares.now.items p None) c.args.hosts.now.items None;
  as_many = refl;
  rest = λ q le. refl;
}

pub loop-p-preserved : goal.loop-p-preserved
loop-p-preserved g c =
    let p = c.loop-p.p in
    let hosts = c.loop-p.hosts.items in
    let spares = c.loop-p.spares.items in
    let inv = c.loop-p.invariant in
    let many = inv.as_many in
    let as_many = c.requires.as_many in
    let within : p < length spares = omega (arith, many, as_many) in
    elim c.if-has.branch [
      | then-has w ↦
          let taken = w.index_mut-then-has.result.now in
          let is = w.swap.ensures.x_after
          ∙ (w.index_mut-then-has.ensures.value
          ∙ (ap (λ n. get_or spares n taken) w.from-then-has.ensures ∙ (get_or_default spares p taken None within ∙ inv.rest p (omega arith)))) in
          let put = ap (λ v. v.items) w.spares-is ∙ ap (λ n. set spares n w.swap.new.y) w.from-then-has.ensures in
          record {
            hosts = changed-on c.args.places (λ p _. get_or c.args.spares.now.items p None) c.args.hosts.now.items None p hosts c.if-has.hosts.items w.swap.new.x (omega arith) (sym c.has.ensures.test ∙ w.if-has.true) is
                (ap (λ v. v.items) w.hosts-is ∙ ap (λ n. set hosts n w.swap.new.x) w.from.ensures) inv.hosts;
            as_many = ap length put ∙ (length-set spares p w.swap.new.y ∙ many);
            rest = λ q le. ap (λ l. get_or l q None) put ∙ (get_or-set_other spares p q w.swap.new.y None (λ e. absurd (omega (arith, e, le))) ∙ inv.rest q (omega (arith, le)));
          }
      | else-has w ↦
          record {
            hosts = changed-off c.args.places (λ p _. get_or c.args.spares.now.items p None) c.args.hosts.now.items None p hosts c.if-has.hosts.items (sym c.has.ensures.test ∙ w.if-has.false) (ap (λ v. v.items) w.hosts-is) inv.hosts;
            as_many = ap (λ v. length v.items) w.spares-is ∙ many;
            rest = λ q le. ap (λ v. get_or v.items q None) w.spares-is ∙ inv.rest q (omega (arith, le));
          }
    ]

pub returns : goal.returns
returns g c = changed-end c.args.places (λ p _. get_or c.args.spares.now.items p None) c.args.hosts.now.items None c.loop-p.p c.loop-p.hosts.items (omega arith) c.loop-p.invariant.hosts
