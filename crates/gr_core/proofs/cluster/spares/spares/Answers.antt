use Rattle.std.proofs.Common.{◌≡◌, ◌∙◌, ◌+◌, ◌<◌, ◌∷◌, [], ◌++◌, Option, Some, None, length, map, get_or, if◌then◌else◌, ap, sym, arith}
use Rattle.std.proofs.lemmas.List.{get_or_default}
use Rattle.std.proofs.lemmas.List.FromFn.{map-range_with_len_more}
use Rattle.gr_base.specs.Places.{below}
use Rattle.gr_log.specs.Log.{empty_log}
use Rattle.gr_rules.specs.Taken.{log_at}
use Rattle.gr_cluster.specs.Tables.{Host}
use Rattle.gr_cluster.specs.Step.{reborn_host}
use Rattle.gr_core.specs.Decided.{spare_at}
use Rattle.gr_core.proofs.cluster.spares.spares.Goals as goal
use Rattle.gr_core.proofs.cluster.spares.spares.Goals.{then-has+in_ok-spare+in_ok-push, else-has+in_ok-push-2}

pub loop-p-preserved : goal.loop-p-preserved
loop-p-preserved g c =
    let p = c.loop-p.p in
    let logs = c.args.logs.now in
    let e = c.args.epoch in
    let commits = c.args.commits in
    let spare : Option (Host g.row.P-Value.Denot g.row.P-Acc.Denot) = Some (reborn_host e commits (log_at logs p).committed) in
    let start : 0 + p ≡ p = omega arith in
    let within : p < length logs = omega arith in
    let more = map-range_with_len_more (spare_at {V = g.row.P-Value.Denot} {A = g.row.P-Acc.Denot} c.args.reborn e commits logs) 0 p p start in
    elim c.if-has.branch [
      | then-has+in_ok-spare+in_ok-push w ↦
          let log = w.index-logs-from.result in
          let log_is = w.index-logs-from.is ∙ (ap (λ n. get_or logs n log) w.from.ensures ∙ get_or_default logs p log empty_log within) in
          let host = ap Some (w.in_ok-spare.ensures ∙ ap (λ l. reborn_host {V = g.row.P-Value.Denot} {A = g.row.P-Acc.Denot} e commits l.committed) log_is)
          ∙ sym (ap (λ b. if b then spare else None) (sym c.has.ensures.test ∙ w.if-has.true)) in
          ap (λ v. v.items) w.spares-is ∙ (w.in_ok-push.ensures.items ∙ (ap (λ l. l ++ Some w.in_ok-spare.field-0 ∷ []) c.loop-p.invariant
          ∙ (ap (λ h. map (spare_at c.args.reborn e commits logs) (below p) ++ h ∷ []) host ∙ sym more)))
      | else-has+in_ok-push-2 w ↦
          let none = sym (ap (λ b. if b then spare else None) (sym c.has.ensures.test ∙ w.if-has.false)) in
          ap (λ v. v.items) w.spares-is ∙ (w.in_ok-push-2.ensures.items ∙ (ap (λ l. l ++ None ∷ []) c.loop-p.invariant
          ∙ (ap (λ h. map (spare_at c.args.reborn e commits logs) (below p) ++ h ∷ []) none ∙ sym more)))
    ]
