use Rattle.std.proofs.Common.{◌≡◌, ◌∙◌, ◌<◌, length, None, get_or, ap, sym, arith}
use Rattle.std.specs.Prelude.{is_some}
use Rattle.std.proofs.lemmas.List.{get_or_default}
use Rattle.gr_base.specs.Places.{without_place}
use Rattle.gr_cluster.specs.Tables.{is_up, host}
use Rattle.gr_core.proofs.Down.{left-start, left-on, left-off}
use Rattle.gr_core.proofs.cluster.Cluster.down_among.Goals as goal
use Rattle.gr_core.proofs.cluster.Cluster.down_among.Goals.{then-is_some, else-is_some}

pub loop-p-init : goal.loop-p-init
loop-p-init g c = left-start (is_up c.args.self.now.cluster) c.args.places

pub loop-p-preserved : goal.loop-p-preserved
loop-p-preserved g c =
    let t = c.args.self.now.cluster in
    let p = c.loop-p.p in
    let items = c.self.inside.hosts.items in
    let slot = c.index.result.now in
    let tables : t.hosts ≡ items = sym (ap (λ x. x.cluster.hosts) c.self.view_is) in
    let lt : p < length items = omega (arith, ap length tables, c.places-p-end.ensures.hosts, c.places-p-end.ensures.count, c.loop-p-test.true) in
    let slot_is : slot ≡ host t p = c.index.ensures ∙ ap (λ k. get_or items k slot) c.from.ensures ∙ get_or_default items p slot None lt ∙ sym (ap (λ l. get_or l p None) tables) in
    let up_is : c.is_some.result ≡ is_up t p = c.is_some.ensures ∙ ap is_some slot_is in
    elim c.if-is_some.branch [
      | then-is_some w ↦
          w.down-is ∙ (w.without-down.ensures ∙ (ap (λ ps. without_place ps p) c.loop-p.invariant ∙ left-on (is_up t) c.args.places p (sym up_is ∙ w.if-is_some.true)))
      | else-is_some w ↦
          w.down-is ∙ (c.loop-p.invariant ∙ left-off (is_up t) c.args.places p (sym up_is ∙ w.if-is_some.false))
    ]
