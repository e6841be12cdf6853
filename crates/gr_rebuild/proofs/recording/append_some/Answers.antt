use Rattle.std.proofs.Common.{◌∙◌, map, ap, append_assoc}
use Rattle.std.proofs.lemmas.Result.{on_ok_weaker}
use Rattle.gr_log.specs.declared.record.LogRecord.TheVariants as item
use Rattle.gr_log.specs.Log.{with_records}
use Rattle.gr_rules.specs.Rows.{record_of}
use Rattle.gr_rules.specs.Grants.{records_after}
use Rattle.gr_rebuild.proofs.recording.append_some.Goals as goal

pub returns-clause-records : goal.returns-clause-records
unfolding records_after
returns-clause-records g c =
    let log = c.args.log.now in
    on_ok_weaker c.append_edges.result
    (λ e. e ∙ ap (with_records (map item.Kept c.args.taken.now)) c.in_ok-append_copies.ensures.records
    ∙ ap (λ l. record log { appended = l }) (append_assoc log.appended (map record_of c.args.granted.now) (map item.Kept c.args.taken.now)))
    c.append_edges.ensures.records
