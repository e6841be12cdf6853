use Rattle.std.proofs.Common.{◌≡◌, ◌∙◌, ◌<◌, length, None, Some, get_or, ap, sym, subst, arith}
use Rattle.std.proofs.lemmas.List.{get_or_default}
use Rattle.gr_base.specs.Places.{without_place}
use Rattle.gr_round.specs.Todo.{todo_of, todo_in_rebuild}
use Rattle.gr_cluster.specs.Tables.{Host, Cluster, host}
use Rattle.gr_cluster.specs.Todo.{others}
use Rattle.gr_cluster.specs.Work.{exchange_of}
use Rattle.gr_core.specs.Rebuilds.{HasToDo}
use Rattle.gr_core.specs.Turns.{turn_of}
use Rattle.gr_core.specs.declared.turn.Turn.TheVariants as turn
use Rattle.gr_core.proofs.Rebuilds.{has-to-do}
use Rattle.gr_core.proofs.cluster.Cluster.next_in_rebuild.Goals as goal

pub returns-clause-next : goal.returns-clause-next
returns-clause-next g c =
    let s = c.self.inside in
    let P = g.P.VertexProgram.program_of s.program in
    let k : Cluster g.row.P-Value.Denot g.row.P-Acc.Denot = record { hosts = s.hosts.items; logs = s.logs.items; flight = s.flight; serial = s.serial; coordinator = s.coordinator; places = s.places; losses = s.losses; theta = s.theta } in
    let p = c.args.p in
    let x = todo_of c.next_in_rebuild.result in
    let slot = c.index.result.now in
    let next : turn_of k.coordinator (host k p) ≡ turn.Rebuild = ap (λ x. turn_of x.cluster.coordinator (host x.cluster p)) c.self.view_is ∙ c.requires.turn in
    let fits : p < k.places = subst (λ x. p < x.cluster.places) (sym c.self.view_is) c.requires.place in
    let whole : length k.hosts ≡ k.places = c.self.invariant.agrees.holds.committed.shaped.hosts in
    let lt : p < length k.hosts = omega (arith, fits, whole) in
    let slot_is : slot ≡ host k p = c.index.ensures ∙ ap (λ n. get_or k.hosts n slot) c.from.ensures ∙ get_or_default k.hosts p slot None lt in
    let has : (h : Host g.row.P-Value.Denot g.row.P-Acc.Denot) → host k p ≡ Some h → x ≡ todo_in_rebuild h.inbox h.epoch (others k.coordinator p) (exchange_of h) h.appended h.reported
    = λ h at. subst (λ ps. x ≡ todo_in_rebuild h.inbox h.epoch (without_place ps p) (exchange_of h) h.appended h.reported) c.parties-parties.ensures (c.next_in_rebuild.ensures.next h (slot_is ∙ at)) in
    subst (λ t. HasToDo t.cluster p x) c.self.view_is (has-to-do P k c.self.invariant.agrees p next x has)
