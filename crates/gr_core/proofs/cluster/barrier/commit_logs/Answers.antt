use Rattle.std.proofs.Common.{◌∙◌, ◌<◌, length, get_or, set, sym, ap, arith}
use Rattle.std.proofs.lemmas.List.{get_or_default}
use Rattle.gr_log.specs.Log.{empty_log, committed_log}
use Rattle.gr_core.proofs.Changed.{changed-start, changed-on, changed-off, changed-end}
use Rattle.gr_core.proofs.cluster.barrier.commit_logs.Goals as goal
use Rattle.gr_core.proofs.cluster.barrier.commit_logs.Goals.{then-has, else-has}

pub loop-p-init : goal.loop-p-init
loop-p-init c = changed-start c.args.places (λ _. committed_log) c.args.logs.now.items empty_log

pub loop-p-preserved : goal.loop-p-preserved
loop-p-preserved c =
    let p = c.loop-p.p in
    let logs = c.loop-p.logs.items in
    let many = c.loop-p.invariant.same_length in
    let within : p < length logs = omega (arith, many) in
    elim c.if-has.branch [
      | then-has w ↦
          let new = w.commit.new.self in
          let old = w.index_mut.result.now in
          changed-on c.args.places (λ _. committed_log) c.args.logs.now.items empty_log p logs c.if-has.logs.items new (omega (arith, many)) (sym c.has.ensures.test ∙ w.if-has.true)
          (w.commit.ensures ∙ ap committed_log (w.index_mut.ensures.value ∙ (ap (λ n. get_or logs n old) w.from.ensures ∙ get_or_default logs p old empty_log within)))
          (ap (λ v. v.items) w.logs-is ∙ ap (λ n. set logs n new) w.from.ensures) c.loop-p.invariant
      | else-has w ↦
          changed-off c.args.places (λ _. committed_log) c.args.logs.now.items empty_log p logs c.if-has.logs.items (sym c.has.ensures.test ∙ w.if-has.false) (ap (λ v. v.items) w.logs-is) c.loop-p.invariant
    ]

pub returns : goal.returns
returns c = changed-end c.args.places (λ _. committed_log) c.args.logs.now.items empty_log c.loop-p.p c.loop-p.logs.items (omega arith) c.loop-p.invariant
