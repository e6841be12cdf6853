use Rattle.gr_sched.specs.declared.event.Event.TheVariants as event
use Rattle.gr_core.proofs.Kept.{keeps-step}
use Rattle.gr_core.proofs.Rebuilds.{next-inside, computed-here, end-here, report-fits, reported-step, reported-fits}
use Rattle.gr_core.proofs.Standing.{no-targets}
use Rattle.gr_core.proofs.Resting.{nobody}
use Rattle.gr_core.proofs.cluster.Cluster.report_at.Goals as goal

pub report-due-requires-clause-computed : goal.report-due-requires-clause-computed
report-due-requires-clause-computed g c =
    let K = c.self.invariant.agrees in
    let N = next-inside c.self.view_is c.requires.next in
    computed-here K N

pub report-due-requires-clause-end : goal.report-due-requires-clause-end
report-due-requires-clause-end g c =
    let K = c.self.invariant.agrees in
    let N = next-inside c.self.view_is c.requires.next in
    end-here K N

pub report-requires-clause-party : goal.report-requires-clause-party
report-requires-clause-party g c =
    let K = c.self.invariant.agrees in
    let N = next-inside c.self.view_is c.requires.next in
    (report-fits K N c.report-due.result c.report-due.ensures.due).party

pub report-requires-clause-first : goal.report-requires-clause-first
report-requires-clause-first g c =
    let K = c.self.invariant.agrees in
    let N = next-inside c.self.view_is c.requires.next in
    (report-fits K N c.report-due.result c.report-due.ensures.due).first

pub report-requires-clause-sum : goal.report-requires-clause-sum
report-requires-clause-sum g c =
    let K = c.self.invariant.agrees in
    let N = next-inside c.self.view_is c.requires.next in
    (report-fits K N c.report-due.result c.report-due.ensures.due).sum

pub invariant_of-self : goal.invariant_of-self
invariant_of-self g c =
    let K = c.self.invariant.agrees in
    let N = next-inside c.self.view_is c.requires.next in
    let is = reported-step K N c.report-due.new.hosts.items c.report.new.self c.report-due.result c.report-due.ensures.hosts c.report-due.ensures.due c.report.ensures in
    record {
      agrees = keeps-step K (g.met.P.VertexProgram.laws c.self.inside.program) (event.Work c.args.p) tt is;
      targets = λ q ts h here at. absurd (no-targets _ c.forget_all.ensures q ts here);
      resting = λ q here. absurd (nobody _ c.none-self-inside.ensures q here);
      retired = reported-fits K N c.report.new.self c.report-due.result c.report.ensures c.self.inside.retired c.self.invariant.retired;
    }

pub returns-clause-step : goal.returns-clause-step
returns-clause-step g c =
    let K = c.self.invariant.agrees in
    let N = next-inside c.self.view_is c.requires.next in
    let is = reported-step K N c.report-due.new.hosts.items c.report.new.self c.report-due.result c.report-due.ensures.hosts c.report-due.ensures.due c.report.ensures in
    rw (← c.self.view_is) is
