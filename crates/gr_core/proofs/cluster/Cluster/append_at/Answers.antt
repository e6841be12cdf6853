use Rattle.gr_sched.specs.declared.event.Event.TheVariants as event
use Rattle.gr_core.proofs.Kept.{keeps-step}
use Rattle.gr_core.proofs.Rebuilds.{next-inside, place-inside, place-within, log-within, few-here, masters-here, fits-here, fits-kept, retired-here, ready-here, committed-here, appended-step, appended-fits}
use Rattle.gr_core.proofs.Standing.{no-targets}
use Rattle.gr_core.proofs.Resting.{nobody}
use Rattle.gr_core.proofs.cluster.Cluster.append_at.Goals as goal

pub keep_retired-requires-clause-places : goal.keep_retired-requires-clause-places
keep_retired-requires-clause-places g c =
    let K = c.self.invariant.agrees in
    let N = next-inside c.self.view_is c.requires.next in
    let W = place-inside c.self.view_is g.P.VertexProgram.program_of c.place_in_rebuild-place.ensures in
    few-here K N W

pub keep_retired-requires-clause-masters : goal.keep_retired-requires-clause-masters
keep_retired-requires-clause-masters g c =
    let K = c.self.invariant.agrees in
    let N = next-inside c.self.view_is c.requires.next in
    let W = place-inside c.self.view_is g.P.VertexProgram.program_of c.place_in_rebuild-place.ensures in
    masters-here K N W c.as_slice-logs.ensures.value

pub keep_retired-requires-clause-kept : goal.keep_retired-requires-clause-kept
keep_retired-requires-clause-kept g c =
    let K = c.self.invariant.agrees in
    let N = next-inside c.self.view_is c.requires.next in
    let W = place-inside c.self.view_is g.P.VertexProgram.program_of c.place_in_rebuild-place.ensures in
    fits-here K N W c.as_slice-logs.ensures.value c.self.inside.retired c.self.invariant.retired

pub append-requires-clause-place : goal.append-requires-clause-place
append-requires-clause-place g c =
    let K = c.self.invariant.agrees in
    let N = next-inside c.self.view_is c.requires.next in
    let W = place-inside c.self.view_is g.P.VertexProgram.program_of c.place_in_rebuild-place.ensures in
    place-within K N W

pub append-requires-clause-logged : goal.append-requires-clause-logged
append-requires-clause-logged g c =
    let K = c.self.invariant.agrees in
    let N = next-inside c.self.view_is c.requires.next in
    let W = place-inside c.self.view_is g.P.VertexProgram.program_of c.place_in_rebuild-place.ensures in
    log-within K N W

pub append-requires-clause-ready : goal.append-requires-clause-ready
append-requires-clause-ready g c =
    let K = c.self.invariant.agrees in
    let N = next-inside c.self.view_is c.requires.next in
    let W = place-inside c.self.view_is g.P.VertexProgram.program_of c.place_in_rebuild-place.ensures in
    let R = retired-here K N W c.as_slice-logs.ensures.value c.in_ok-keep_retired.ensures.ok c.edges_of-retired.ensures in
    ready-here K N W R

pub append-requires-clause-committed : goal.append-requires-clause-committed
append-requires-clause-committed g c =
    let K = c.self.invariant.agrees in
    let N = next-inside c.self.view_is c.requires.next in
    let W = place-inside c.self.view_is g.P.VertexProgram.program_of c.place_in_rebuild-place.ensures in
    committed-here K N W

pub invariant_of-self-2 : goal.invariant_of-self-2
invariant_of-self-2 g c =
    let K = c.self.invariant.agrees in
    let N = next-inside c.self.view_is c.requires.next in
    let W = place-inside c.self.view_is g.P.VertexProgram.program_of c.place_in_rebuild-place.ensures in
    let R = retired-here K N W c.as_slice-logs.ensures.value c.in_ok-keep_retired.ensures.ok c.edges_of-retired.ensures in
    let is = appended-step K N W R c.append.new.logs.items c.in_ok-bytes.ensures.logs c.append.new.hosts.items c.in_ok-bytes.bytes c.in_ok-bytes.ensures.bytes c.in_ok-bytes.ensures.hosts in
    record {
      agrees = keeps-step K (g.met.P.VertexProgram.laws c.self.inside.program) (event.Work c.args.p) tt is;
      targets = λ q ts h here at. absurd (no-targets _ c.forget_all.ensures q ts here);
      resting = λ q here. absurd (nobody _ c.none-self-inside.ensures q here);
      retired = appended-fits K N W R c.append.new.logs.items c.in_ok-bytes.ensures.logs c.keep_retired.new.kept (fits-kept K N W c.as_slice-logs.ensures.value c.in_ok-keep_retired.ensures.ok);
    }

pub returns-clause-ok : goal.returns-clause-ok
returns-clause-ok g c =
    let K = c.self.invariant.agrees in
    let N = next-inside c.self.view_is c.requires.next in
    let W = place-inside c.self.view_is g.P.VertexProgram.program_of c.place_in_rebuild-place.ensures in
    let R = retired-here K N W c.as_slice-logs.ensures.value c.in_ok-keep_retired.ensures.ok c.edges_of-retired.ensures in
    let is = appended-step K N W R c.append.new.logs.items c.in_ok-bytes.ensures.logs c.append.new.hosts.items c.in_ok-bytes.bytes c.in_ok-bytes.ensures.bytes c.in_ok-bytes.ensures.hosts in
    rw (← c.self.view_is) is
