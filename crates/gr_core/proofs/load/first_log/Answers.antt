use Rattle.std.proofs.Common.{◌≡◌, ◌∙◌, ◌∷◌, [], ◌++◌, map, take, sym, ap, arith}
use Rattle.std.proofs.lemmas.List.{take_all, take_more, map-append, append-nil}
use Rattle.gr_base.proofs.Nth.{get-some, get-none}
use Rattle.gr_log.specs.declared.record.LogRecord.TheVariants as item
use Rattle.gr_log.specs.Log.{Log, with_records, committed_log, log_of}
use Rattle.gr_rules.specs.Rows.{record_of}
use Rattle.gr_core.proofs.Loaded.{records-are}
use Rattle.gr_core.proofs.load.first_log.Goals as goal

pub loop-copy-preserved : goal.loop-copy-preserved
loop-copy-preserved g c =
    let rows = c.args.rows.now.stable in
    let i = c.loop-copy.i in
    let x = c.in-Some.copy in
    let at = get-some rows i x c.in-Some.ensures.copy in
    let r = c.held.result in
    let torn = ap (λ (l : Log). l.torn) c.loop-copy.invariant.log in
    let is : r ≡ record_of x = c.held.ensures in
    record {
      within = omega (arith, at.0);
      log = c.in_ok-append.ensures.ok.whole torn ∙ ap (with_records (r ∷ [])) c.loop-copy.invariant.log
          ∙ ap (λ l. record { committed = []; appended = l; torn = [] }) (ap (λ y. map record_of (take i rows) ++ y ∷ []) (is ∙ ap record_of at.1)
          ∙ sym (ap (map record_of) (take_more rows i x at.0) ∙ map-append record_of (take i rows) _));
    }

pub loop-edge-init : goal.loop-edge-init
loop-edge-init g c =
    let rows = c.args.rows.now.stable in
    let i = c.loop-copy.i in
    c.loop-copy.invariant.log
    ∙ ap (λ l. record { committed = []; appended = l; torn = [] }) (ap (map record_of) (take_all i rows (get-none rows i c.in_default.ensures.copy)) ∙ sym (append-nil (map record_of rows)))

pub returns : goal.returns
returns g c =
    let rows = c.args.rows.now.stable in
    let edges = c.args.edges.now in
    c.commit.ensures ∙ ap committed_log c.loop-edge.invariant
    ∙ ap (λ l. log_of (map record_of rows ++ map item.Kept l)) (take_all c.loop-edge.edge-index edges (omega (arith, c.loop-edge-test.false)))
    ∙ ap log_of (records-are rows edges)
