use Rattle.std.proofs.Common.{◌∙◌, [], ap, sym}
use Rattle.gr_base.specs.Places.{with_place}
use Rattle.gr_log.specs.Directory.{Entry}
use Rattle.gr_migrate.specs.Asks.{is_missing_from}
use Rattle.gr_migrate.proofs.Keyed.{insert_key-place}
use Rattle.gr_migrate.proofs.Picked.{gathered-more, gathered-same}
use Rattle.gr_migrate.proofs.ask.add_asked.Goals as goal

pub returns-in_ok-insert : goal.returns-in_ok-insert
returns-in_ok-insert g c =
    let key = λ (e : Entry). e.vertex in
    let test = is_missing_from c.args.view.now c.args.rows.now.stable c.args.to in
    let old = c.args.asked.now.keys in
    c.in_ok-insert.ensures.keys ∙ (insert_key-place old c.entry.inside.vertex ∙ (ap (with_place old) (ap key c.entry.view_is)
    ∙ sym (gathered-more test key old [] c.args.entry.now (sym c.is_asked.ensures ∙ c.if-is_asked.true))))

pub returns-else-is_asked : goal.returns-else-is_asked
returns-else-is_asked g c =
    let key = λ (e : Entry). e.vertex in
    let test = is_missing_from c.args.view.now c.args.rows.now.stable c.args.to in
    sym (gathered-same test key c.args.asked.now.keys [] c.args.entry.now (sym c.is_asked.ensures ∙ c.if-is_asked.false))
