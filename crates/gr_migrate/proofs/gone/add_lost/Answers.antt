use Rattle.std.proofs.Common.{◌∙◌, ap, sym, take}
use Rattle.gr_base.specs.Rising.{includes}
use Rattle.gr_base.specs.Places.{with_place}
use Rattle.gr_log.specs.Directory.{Entry}
use Rattle.gr_migrate.proofs.Fronts.{front-more}
use Rattle.gr_migrate.proofs.Keyed.{insert_key-place}
use Rattle.gr_migrate.proofs.Picked.{gathered, gathered-more, gathered-same}
use Rattle.gr_migrate.proofs.gone.add_lost.Goals as goal
use Rattle.gr_migrate.proofs.gone.add_lost.Goals.{then-all_in+in_ok-insert, else-all_in}

pub loop-entry-preserved : goal.loop-entry-preserved
loop-entry-preserved c =
    let xs = c.args.entries.now in
    let i = c.loop-entry.entry-index in
    let x = c.entry-item.result in
    let key = λ (e : Entry). e.vertex in
    let test = λ (e : Entry). includes c.args.dead e.holders in
    let old = c.args.vertices.now.keys in
    let ns = c.loop-entry.vertices.keys in
    let tested = sym (ap test c.entry.view_is) ∙ sym c.all_in.ensures in
    let more = ap (gathered test key old) (front-more xs i x c.loop-entry-test.true c.entry-item.is) in
    elim c.if-all_in.branch [
      | then-all_in+in_ok-insert w ↦
          ap (λ s. s.keys) w.vertices-is ∙ (w.in_ok-insert.ensures.keys ∙ (insert_key-place ns c.entry.inside.vertex ∙ (ap (with_place ns) (ap key c.entry.view_is)
          ∙ (ap (λ l. with_place l x.vertex) c.loop-entry.invariant ∙ (sym (gathered-more test key old (take i xs) x (tested ∙ w.if-all_in.true)) ∙ sym more)))))
      | else-all_in w ↦
          ap (λ s. s.keys) w.vertices-is ∙ (c.loop-entry.invariant ∙ (sym (gathered-same test key old (take i xs) x (tested ∙ w.if-all_in.false)) ∙ sym more))
    ]
