use Rattle.std.proofs.Common.{◌≡◌, ◌∙◌, ◌<◌, ℕ, List, length, None, Some, get_or, ap, sym, subst, arith, false, inl, inr}
use Rattle.std.proofs.lemmas.List.{get_or_default}
use Rattle.gr_view.specs.Modes.{is_over}
use Rattle.gr_view.specs.Decisions.{parties}
use Rattle.gr_rules.specs.Todo.{is_act}
use Rattle.gr_round.specs.declared.view.RoundView.{RoundView}
use Rattle.gr_round.specs.Todo.{todo_of}
use Rattle.gr_cluster.specs.Tables.{Host, Cluster, host}
use Rattle.gr_cluster.specs.Todo.{can_work}
use Rattle.gr_core.specs.Tables.{Agrees}
use Rattle.gr_core.specs.declared.turn.Turn.TheVariants as turn
use Rattle.gr_core.specs.Steps.{next_of}
use Rattle.gr_core.specs.Turns.{turn_of}
use Rattle.gr_core.proofs.CanWork.{can_work-over, can_work-rest, can_work-install, can_work-adopt, can_work-act, can_work-rebuild}
use Rattle.gr_core.proofs.cluster.Cluster.can_work.Goals as goal

pub returns-then-is_over : goal.returns-then-is_over
returns-then-is_over g c =
    let P = g.P.VertexProgram.program_of c.args.self.now.program in
    let over = ap (λ x. is_over x.cluster.coordinator.mode) (sym c.self.view_is) ∙ sym c.is_over.ensures ∙ c.if-is_over.true in
    sym (can_work-over P c.args.self.now.cluster c.args.p over)

pub returns-in-Rest : goal.returns-in-Rest
returns-in-Rest g c =
    let P = g.P.VertexProgram.program_of c.args.self.now.program in
    let laws = g.met.P.VertexProgram.laws c.args.self.now.program in
    let U = subst (λ x. Agrees (g.P.VertexProgram.program_of x.program) x.cluster) c.self.view_is c.self.invariant.agrees in
    let over = ap (λ x. is_over x.cluster.coordinator.mode) (sym c.self.view_is) ∙ sym c.is_over.ensures ∙ c.if-is_over.false in
    sym (can_work-rest P c.args.self.now.cluster c.args.p laws U over (sym c.turn_at.ensures ∙ c.in-Rest.is))

pub returns-in-Install : goal.returns-in-Install
returns-in-Install g c =
    let P = g.P.VertexProgram.program_of c.args.self.now.program in
    let laws = g.met.P.VertexProgram.laws c.args.self.now.program in
    let U = subst (λ x. Agrees (g.P.VertexProgram.program_of x.program) x.cluster) c.self.view_is c.self.invariant.agrees in
    let over = ap (λ x. is_over x.cluster.coordinator.mode) (sym c.self.view_is) ∙ sym c.is_over.ensures ∙ c.if-is_over.false in
    elim c.in-Install.is [
      | inl e ↦ sym (can_work-install P c.args.self.now.cluster c.args.p laws U over (sym c.turn_at.ensures ∙ e))
      | inr e ↦ sym (can_work-adopt P c.args.self.now.cluster c.args.p laws U over (sym c.turn_at.ensures ∙ e))
    ]

pub returns-in-Act : goal.returns-in-Act
returns-in-Act g c =
    let s = c.self.inside in
    let P = g.P.VertexProgram.program_of s.program in
    let k : Cluster g.row.P-Value.Denot g.row.P-Acc.Denot = record { hosts = s.hosts.items; logs = s.logs.items; flight = s.flight; serial = s.serial; coordinator = s.coordinator; places = s.places; losses = s.losses; theta = s.theta } in
    let p = c.args.p in
    let b = c.can_act.result in
    let slot = c.index.result.now in
    let over : is_over k.coordinator.mode ≡ false = sym c.is_over.ensures ∙ c.if-is_over.false in
    let next : turn_of k.coordinator (host k p) ≡ turn.Act = ap (λ x. turn_of x.cluster.coordinator (host x.cluster p)) c.self.view_is ∙ (sym c.turn_at.ensures ∙ c.in-Act.is) in
    let fits : p < k.places = subst (λ x. p < x.cluster.places) (sym c.self.view_is) c.requires.place in
    let whole : length k.hosts ≡ k.places = c.self.invariant.agrees.holds.committed.shaped.hosts in
    let lt : p < length k.hosts = omega (arith, fits, whole) in
    let slot_is : slot ≡ host k p = c.index.ensures ∙ ap (λ n. get_or k.hosts n slot) c.from.ensures ∙ get_or_default k.hosts p slot None lt in
    let view : List ℕ → RoundView = λ ps. record { epoch = k.coordinator.epoch; round = k.coordinator.round; parties = ps; serial = k.serial; theta = k.theta } in
    let acts : (h : Host g.row.P-Value.Denot g.row.P-Acc.Denot) → host k p ≡ Some h → b ≡ is_act (next_of p (view (parties k.coordinator)) h)
    = λ h at. subst (λ ps. b ≡ is_act (next_of p (view ps) h)) c.parties.ensures (c.can_act.ensures h (slot_is ∙ at)) in
    subst (λ x. b ≡ can_work x.cluster.coordinator p (host x.cluster p)) c.self.view_is
    (can_work-act P k p (g.met.P.VertexProgram.laws s.program) c.self.invariant.agrees over k.serial k.theta b next acts)

pub returns-in-Rebuild : goal.returns-in-Rebuild
returns-in-Rebuild g c =
    let P = g.P.VertexProgram.program_of c.args.self.now.program in
    let laws = g.met.P.VertexProgram.laws c.args.self.now.program in
    let U = subst (λ x. Agrees (g.P.VertexProgram.program_of x.program) x.cluster) c.self.view_is c.self.invariant.agrees in
    let over = ap (λ x. is_over x.cluster.coordinator.mode) (sym c.self.view_is) ∙ sym c.is_over.ensures ∙ c.if-is_over.false in
    c.is_act.ensures ∙ can_work-rebuild P c.args.self.now.cluster c.args.p laws U over (todo_of c.next_in_rebuild.result) c.next_in_rebuild.ensures.next
