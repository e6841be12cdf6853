use Rattle.std.proofs.Common.{◌∙◌, ℕ, sym, ap, subst, get_or, None}
use Rattle.std.specs.Prelude.{IfSome}
use Rattle.std.proofs.lemmas.List.{get_or_default}
use Rattle.gr_law_work.specs.AtPlace.{ReadyToRebuild}
use Rattle.gr_core.proofs.Rebuilds.{next-inside, place-inside, up-within, few-here, masters-here, fits-here, fits-kept, retired-here, ready-at, line-here, sent-step, sent-agrees}
use Rattle.gr_core.proofs.Standing.{no-targets}
use Rattle.gr_core.proofs.Resting.{nobody}
use Rattle.gr_core.proofs.cluster.Cluster.send_at.Goals as goal

pub keep_retired-requires-clause-places : goal.keep_retired-requires-clause-places
keep_retired-requires-clause-places g c =
    let K = c.self.invariant.agrees in
    let N = next-inside c.self.view_is c.requires.next in
    let W = place-inside c.self.view_is g.P.VertexProgram.program_of c.place_in_rebuild-place.ensures in
    few-here K N W

pub keep_retired-requires-clause-masters : goal.keep_retired-requires-clause-masters
keep_retired-requires-clause-masters g c =
    let K = c.self.invariant.agrees in
    let N = next-inside c.self.view_is c.requires.next in
    let W = place-inside c.self.view_is g.P.VertexProgram.program_of c.place_in_rebuild-place.ensures in
    masters-here K N W c.as_slice-logs.ensures.value

pub keep_retired-requires-clause-kept : goal.keep_retired-requires-clause-kept
keep_retired-requires-clause-kept g c =
    let K = c.self.invariant.agrees in
    let N = next-inside c.self.view_is c.requires.next in
    let W = place-inside c.self.view_is g.P.VertexProgram.program_of c.place_in_rebuild-place.ensures in
    fits-here K N W c.as_slice-logs.ensures.value c.self.inside.retired c.self.invariant.retired

pub body_to-requires : goal.body_to-requires
body_to-requires g c =
    let K = c.self.invariant.agrees in
    let N = next-inside c.self.view_is c.requires.next in
    let W = place-inside c.self.view_is g.P.VertexProgram.program_of c.place_in_rebuild-place.ensures in
    let R = retired-here K N W c.as_slice-logs.ensures.value c.in_ok-keep_retired.ensures.ok c.edges_of-retired.ensures in
    let slot = c.index-host.result.now in
    let S = c.index-host.ensures ∙ ap (λ (n : ℕ). get_or c.self.inside.hosts.items n slot) c.from.ensures ∙ get_or_default c.self.inside.hosts.items c.args.p slot None (up-within K N) in
    subst (λ o. IfSome o (λ h. ReadyToRebuild c.place_in_rebuild-place.result c.edges_of-retired.result.now h)) (sym (S ∙ N.is)) (ready-at K N W R)

pub send-requires-clause-line : goal.send-requires-clause-line
send-requires-clause-line g c =
    let K = c.self.invariant.agrees in
    let N = next-inside c.self.view_is c.requires.next in
    line-here K N c.parties-parties.result c.parties-parties.ensures

pub invariant_of-self-2 : goal.invariant_of-self-2
invariant_of-self-2 g c =
    let K = c.self.invariant.agrees in
    let N = next-inside c.self.view_is c.requires.next in
    let W = place-inside c.self.view_is g.P.VertexProgram.program_of c.place_in_rebuild-place.ensures in
    let R = retired-here K N W c.as_slice-logs.ensures.value c.in_ok-keep_retired.ensures.ok c.edges_of-retired.ensures in
    let slot = c.index-host.result.now in
    let S = c.index-host.ensures ∙ ap (λ (n : ℕ). get_or c.self.inside.hosts.items n slot) c.from.ensures ∙ get_or_default c.self.inside.hosts.items c.args.p slot None (up-within K N) in
    let ok = sent-step K N W R c.parties-parties.result c.parties-parties.ensures c.in_ok-body.body slot S c.in_ok-body.ensures
    c.send.result c.send.new.hosts.items c.send.new.flight c.send.new.serial c.send.ensures.ok c.send.ensures.hosts c.send.ensures.flight c.send.ensures.serial in
    record {
      agrees = sent-agrees K N (g.met.P.VertexProgram.laws c.self.inside.program) c.send.result c.send.new.hosts.items c.send.new.flight c.send.new.serial ok c.send.ensures.hosts_kept c.send.ensures.flight_kept c.send.ensures.serial_kept;
      targets = λ q ts h here at. absurd (no-targets _ c.forget_all.ensures q ts here);
      resting = λ q here. absurd (nobody _ c.none-self-inside.ensures q here);
      retired = fits-kept K N W c.as_slice-logs.ensures.value c.in_ok-keep_retired.ensures.ok;
    }

pub returns-clause-ok : goal.returns-clause-ok
returns-clause-ok g c =
    let K = c.self.invariant.agrees in
    let N = next-inside c.self.view_is c.requires.next in
    let W = place-inside c.self.view_is g.P.VertexProgram.program_of c.place_in_rebuild-place.ensures in
    let R = retired-here K N W c.as_slice-logs.ensures.value c.in_ok-keep_retired.ensures.ok c.edges_of-retired.ensures in
    let slot = c.index-host.result.now in
    let S = c.index-host.ensures ∙ ap (λ (n : ℕ). get_or c.self.inside.hosts.items n slot) c.from.ensures ∙ get_or_default c.self.inside.hosts.items c.args.p slot None (up-within K N) in
    let ok = sent-step K N W R c.parties-parties.result c.parties-parties.ensures c.in_ok-body.body slot S c.in_ok-body.ensures
    c.send.result c.send.new.hosts.items c.send.new.flight c.send.new.serial c.send.ensures.ok c.send.ensures.hosts c.send.ensures.flight c.send.ensures.serial in
    rw (← c.self.view_is) ok
