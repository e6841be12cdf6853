use Rattle.std.proofs.Common.{ℕ, List, ◌≡◌, ◌∙◌, true, false, ap, ◌<◌, arith, sym, subst, [], get_or, length, None}
use Rattle.gr_round.specs.declared.act.Act.TheVariants as act
use Rattle.gr_core.specs.Works.{cluster_of}
use Rattle.std.specs.Prelude.{IsOk}
use Rattle.gr_round.specs.declared.view.RoundView.{RoundView}
use Rattle.gr_round.specs.Kept.{takes_targets}
use Rattle.gr_cluster.specs.Todo.{todo}
use Rattle.gr_core.specs.Steps.{next_of}
use Rattle.gr_core.proofs.Standing.{stand-trans, told-takes}
use Rattle.gr_core.proofs.Acting.{next-is, IfSome-each, up-is, OnErr-then, needs-here, answer-seen, hosts-seen, report-fits, line-fits, sent-ok, sent-same, done-computed, done-waiting, done-rest, done-ready}
use Rattle.gr_core.proofs.cluster.work.act_in_round.Goals as goal

pub keep_targets-requires-clause-needs : goal.keep_targets-requires-clause-needs
keep_targets-requires-clause-needs g c = IfSome-each (get_or c.as_slice.result.now c.args.p None) (λ h at.
    needs-here (g.P.VertexProgram.program_of c.args.program.now) c.args.coordinator.now c.args.p h c.args.serial.now c.args.theta c.parties.result c.parties.ensures
    (c.requires.may h (ap (λ l. get_or l c.args.p None) (sym c.as_slice.ensures.value) ∙ at)))

-- what only tells something takes no targets, and so no memory
pub returns-in_err-keep_targets-clause-told : goal.returns-in_err-keep_targets-clause-told
returns-in_err-keep_targets-clause-told g c = λ h at light.
    let P = g.P.VertexProgram.program_of c.args.program.now in
    let co = c.args.coordinator.now in
    let p = c.args.p in
    let view : List ℕ → RoundView = λ ps. record { epoch = co.epoch; round = co.round; parties = ps; serial = c.args.serial.now; theta = c.args.theta } in
    let next = ap (λ ps. next_of p (view ps) h) c.parties.ensures ∙ next-is P co p h (c.requires.may h at) c.args.serial.now c.args.theta in
    let takes = ap (takes_targets h.stage) next ∙ told-takes h.stage (todo co p h) light in
    let ok = c.keep_targets.ensures.ok h (ap (λ l. get_or l p None) c.as_slice.ensures.value ∙ at) takes in
    absurd (let bad : false ≡ true = subst IsOk c.in_err-keep_targets.was ok in cc)

pub returns-in-Sent-clause-stand : goal.returns-in-Sent-clause-stand
returns-in-Sent-clause-stand g c = stand-trans c.args.hosts.now.items c.act.new.hosts.items c.send.new.hosts.items c.act.ensures.stand c.send.ensures.stand

pub act-requires-clause-needs : goal.act-requires-clause-needs
act-requires-clause-needs g c = IfSome-each (get_or c.args.hosts.now.items c.args.p None) (λ h at.
    needs-here (g.P.VertexProgram.program_of c.args.program.now) c.args.coordinator.now c.args.p h c.args.serial.now c.args.theta c.parties.result c.parties.ensures (c.requires.may h at))

pub send-requires-clause-place : goal.send-requires-clause-place
send-requires-clause-place g c =
    let P = g.P.VertexProgram.program_of c.args.program.now in
    let items = c.args.hosts.now.items in
    let p = c.args.p in
    let u = up-is (get_or items p None) c.requires.up in
    let h = u.it in
    let at = u.is in
    let k = cluster_of {V = g.row.P-Value.Denot} {A = g.row.P-Acc.Denot} items [] c.args.flight.now c.args.serial.now c.args.coordinator.now 0 0 c.args.theta in
    let M = c.requires.may h at in
    let answer = answer-seen P k p h M at c.parties.result c.parties.ensures (act.Sent c.in-Sent.batch) c.in_ok-stage.field-0 c.in-Sent.is (c.in_ok-stage.ensures.answer h at) in
    let hosts = hosts-seen P k p h M at c.parties.result c.parties.ensures c.act.new.hosts.items (c.in_ok-stage.ensures.hosts h at) in
    subst (λ l. p < length l) (sym (sent-same P k p h M at c.act.new.hosts.items c.in-Sent.batch answer hosts)) c.requires.place

pub send-requires-clause-line : goal.send-requires-clause-line
send-requires-clause-line g c =
    let P = g.P.VertexProgram.program_of c.args.program.now in
    let items = c.args.hosts.now.items in
    let p = c.args.p in
    let u = up-is (get_or items p None) c.requires.up in
    let h = u.it in
    let at = u.is in
    let k = cluster_of {V = g.row.P-Value.Denot} {A = g.row.P-Acc.Denot} items [] c.args.flight.now c.args.serial.now c.args.coordinator.now 0 0 c.args.theta in
    let M = c.requires.may h at in
    let answer = answer-seen P k p h M at c.parties.result c.parties.ensures (act.Sent c.in-Sent.batch) c.in_ok-stage.field-0 c.in-Sent.is (c.in_ok-stage.ensures.answer h at) in
    let hosts = hosts-seen P k p h M at c.parties.result c.parties.ensures c.act.new.hosts.items (c.in_ok-stage.ensures.hosts h at) in
    line-fits P k p h M at c.parties.result c.parties.ensures c.act.new.hosts.items c.in-Sent.batch answer (sent-same P k p h M at c.act.new.hosts.items c.in-Sent.batch answer hosts)

pub report-requires-clause-party : goal.report-requires-clause-party
report-requires-clause-party g c =
    let P = g.P.VertexProgram.program_of c.args.program.now in
    let items = c.args.hosts.now.items in
    let p = c.args.p in
    let u = up-is (get_or items p None) c.requires.up in
    let h = u.it in
    let at = u.is in
    let k = cluster_of {V = g.row.P-Value.Denot} {A = g.row.P-Acc.Denot} items [] c.args.flight.now c.args.serial.now c.args.coordinator.now 0 0 c.args.theta in
    let M = c.requires.may h at in
    let answer = answer-seen P k p h M at c.parties.result c.parties.ensures (act.Ready c.in-Ready.due) c.in_ok-stage.field-0 c.in-Ready.is (c.in_ok-stage.ensures.answer h at) in
    let hosts = hosts-seen P k p h M at c.parties.result c.parties.ensures c.act.new.hosts.items (c.in_ok-stage.ensures.hosts h at) in
    (report-fits P k p h M at c.parties.result c.parties.ensures c.in-Ready.due answer).party

pub report-requires-clause-first : goal.report-requires-clause-first
report-requires-clause-first g c =
    let P = g.P.VertexProgram.program_of c.args.program.now in
    let items = c.args.hosts.now.items in
    let p = c.args.p in
    let u = up-is (get_or items p None) c.requires.up in
    let h = u.it in
    let at = u.is in
    let k = cluster_of {V = g.row.P-Value.Denot} {A = g.row.P-Acc.Denot} items [] c.args.flight.now c.args.serial.now c.args.coordinator.now 0 0 c.args.theta in
    let M = c.requires.may h at in
    let answer = answer-seen P k p h M at c.parties.result c.parties.ensures (act.Ready c.in-Ready.due) c.in_ok-stage.field-0 c.in-Ready.is (c.in_ok-stage.ensures.answer h at) in
    let hosts = hosts-seen P k p h M at c.parties.result c.parties.ensures c.act.new.hosts.items (c.in_ok-stage.ensures.hosts h at) in
    (report-fits P k p h M at c.parties.result c.parties.ensures c.in-Ready.due answer).first

pub report-requires-clause-sum : goal.report-requires-clause-sum
report-requires-clause-sum g c =
    let P = g.P.VertexProgram.program_of c.args.program.now in
    let items = c.args.hosts.now.items in
    let p = c.args.p in
    let u = up-is (get_or items p None) c.requires.up in
    let h = u.it in
    let at = u.is in
    let k = cluster_of {V = g.row.P-Value.Denot} {A = g.row.P-Acc.Denot} items [] c.args.flight.now c.args.serial.now c.args.coordinator.now 0 0 c.args.theta in
    let M = c.requires.may h at in
    let answer = answer-seen P k p h M at c.parties.result c.parties.ensures (act.Ready c.in-Ready.due) c.in_ok-stage.field-0 c.in-Ready.is (c.in_ok-stage.ensures.answer h at) in
    let hosts = hosts-seen P k p h M at c.parties.result c.parties.ensures c.act.new.hosts.items (c.in_ok-stage.ensures.hosts h at) in
    let sum = (report-fits P k p h M at c.parties.result c.parties.ensures c.in-Ready.due answer).sum in omega (arith, sum)

pub returns-in-Computed-clause-ok : goal.returns-in-Computed-clause-ok
returns-in-Computed-clause-ok g c = λ logs places losses h at.
    let P = g.P.VertexProgram.program_of c.args.program.now in
    let items = c.args.hosts.now.items in
    let p = c.args.p in
    let k = cluster_of {V = g.row.P-Value.Denot} {A = g.row.P-Acc.Denot} items logs c.args.flight.now c.args.serial.now c.args.coordinator.now places losses c.args.theta in
    let M = c.requires.may h at in
    let answer = answer-seen P k p h M at c.parties.result c.parties.ensures (act.Computed c.in-Computed.stage) c.in_ok-stage.field-0 c.in-Computed.is (c.in_ok-stage.ensures.answer h at) in
    let hosts = hosts-seen P k p h M at c.parties.result c.parties.ensures c.act.new.hosts.items (c.in_ok-stage.ensures.hosts h at) in
    done-computed P k p h M at c.act.new.hosts.items c.in-Computed.stage answer hosts

pub returns-in-Waiting-clause-ok : goal.returns-in-Waiting-clause-ok
returns-in-Waiting-clause-ok g c = λ logs places losses h at.
    let P = g.P.VertexProgram.program_of c.args.program.now in
    let items = c.args.hosts.now.items in
    let p = c.args.p in
    let k = cluster_of {V = g.row.P-Value.Denot} {A = g.row.P-Acc.Denot} items logs c.args.flight.now c.args.serial.now c.args.coordinator.now places losses c.args.theta in
    let M = c.requires.may h at in
    let answer = answer-seen P k p h M at c.parties.result c.parties.ensures (act.Waiting c.in-Waiting.stage c.in-Waiting.from) c.in_ok-stage.field-0 c.in-Waiting.is (c.in_ok-stage.ensures.answer h at) in
    let hosts = hosts-seen P k p h M at c.parties.result c.parties.ensures c.act.new.hosts.items (c.in_ok-stage.ensures.hosts h at) in
    done-waiting P k p h M at c.act.new.hosts.items c.in-Waiting.stage c.in-Waiting.from answer hosts

pub returns-in-Rest-clause-ok : goal.returns-in-Rest-clause-ok
returns-in-Rest-clause-ok g c = λ logs places losses h at.
    let P = g.P.VertexProgram.program_of c.args.program.now in
    let items = c.args.hosts.now.items in
    let p = c.args.p in
    let k = cluster_of {V = g.row.P-Value.Denot} {A = g.row.P-Acc.Denot} items logs c.args.flight.now c.args.serial.now c.args.coordinator.now places losses c.args.theta in
    let M = c.requires.may h at in
    let answer = answer-seen P k p h M at c.parties.result c.parties.ensures (act.Rest) c.in_ok-stage.field-0 c.in-Rest.is (c.in_ok-stage.ensures.answer h at) in
    let hosts = hosts-seen P k p h M at c.parties.result c.parties.ensures c.act.new.hosts.items (c.in_ok-stage.ensures.hosts h at) in
    done-rest P k p h M at c.act.new.hosts.items answer hosts

pub returns-in-Ready-clause-ok : goal.returns-in-Ready-clause-ok
returns-in-Ready-clause-ok g c = λ logs places losses h at.
    let P = g.P.VertexProgram.program_of c.args.program.now in
    let items = c.args.hosts.now.items in
    let p = c.args.p in
    let k = cluster_of {V = g.row.P-Value.Denot} {A = g.row.P-Acc.Denot} items logs c.args.flight.now c.args.serial.now c.args.coordinator.now places losses c.args.theta in
    let M = c.requires.may h at in
    let answer = answer-seen P k p h M at c.parties.result c.parties.ensures (act.Ready c.in-Ready.due) c.in_ok-stage.field-0 c.in-Ready.is (c.in_ok-stage.ensures.answer h at) in
    let hosts = hosts-seen P k p h M at c.parties.result c.parties.ensures c.act.new.hosts.items (c.in_ok-stage.ensures.hosts h at) in
    done-ready P k p h M at c.act.new.hosts.items c.report.new.self c.in-Ready.due answer hosts c.report.ensures

pub returns-in-Sent-clause-ok : goal.returns-in-Sent-clause-ok
returns-in-Sent-clause-ok g c = λ logs places losses h at.
    let P = g.P.VertexProgram.program_of c.args.program.now in
    let items = c.args.hosts.now.items in
    let p = c.args.p in
    let k = cluster_of {V = g.row.P-Value.Denot} {A = g.row.P-Acc.Denot} items logs c.args.flight.now c.args.serial.now c.args.coordinator.now places losses c.args.theta in
    let M = c.requires.may h at in
    let answer = answer-seen P k p h M at c.parties.result c.parties.ensures (act.Sent c.in-Sent.batch) c.in_ok-stage.field-0 c.in-Sent.is (c.in_ok-stage.ensures.answer h at) in
    let hosts = hosts-seen P k p h M at c.parties.result c.parties.ensures c.act.new.hosts.items (c.in_ok-stage.ensures.hosts h at) in
    sent-ok P k p h M at c.parties.result c.parties.ensures c.act.new.hosts.items c.in-Sent.batch answer (sent-same P k p h M at c.act.new.hosts.items c.in-Sent.batch answer hosts)
    c.send.result c.send.new.hosts.items c.send.new.flight c.send.new.serial c.send.ensures.ok c.send.ensures.hosts c.send.ensures.flight c.send.ensures.serial

pub returns-in-Sent-clause-hosts_kept : goal.returns-in-Sent-clause-hosts_kept
returns-in-Sent-clause-hosts_kept g c =
    let P = g.P.VertexProgram.program_of c.args.program.now in
    let items = c.args.hosts.now.items in
    let p = c.args.p in
    let u = up-is (get_or items p None) c.requires.up in
    let h = u.it in
    let at = u.is in
    let k = cluster_of {V = g.row.P-Value.Denot} {A = g.row.P-Acc.Denot} items [] c.args.flight.now c.args.serial.now c.args.coordinator.now 0 0 c.args.theta in
    let M = c.requires.may h at in
    let answer = answer-seen P k p h M at c.parties.result c.parties.ensures (act.Sent c.in-Sent.batch) c.in_ok-stage.field-0 c.in-Sent.is (c.in_ok-stage.ensures.answer h at) in
    let hosts = hosts-seen P k p h M at c.parties.result c.parties.ensures c.act.new.hosts.items (c.in_ok-stage.ensures.hosts h at) in
    OnErr-then c.send.result c.send.new.hosts.items c.act.new.hosts.items items (sent-same P k p h M at c.act.new.hosts.items c.in-Sent.batch answer hosts) c.send.ensures.hosts_kept
