use Rattle.std.proofs.Common.{◌≡◌, ◌∙◌, false, sym, ap, subst, arith, length}
use Rattle.gr_sched.specs.declared.event.Event.TheVariants as event
use Rattle.gr_view.specs.declared.coordinator.Coordinator.{Coordinator}
use Rattle.gr_view.specs.declared.coordinator.Opening.{Opening}
use Rattle.gr_view.specs.Modes.{is_over, is_failed}
use Rattle.gr_cluster.specs.Tables.{Cluster}
use Rattle.gr_cluster.specs.Step.{lost_list}
use Rattle.gr_core.specs.Tables.{Agrees}
use Rattle.gr_core.proofs.Kept.{keeps}
use Rattle.gr_core.proofs.Orders.{recover-step, recover-idle}
use Rattle.gr_core.proofs.Standing.{no-targets}
use Rattle.gr_core.proofs.Resting.{nobody}
use Rattle.gr_core.proofs.cluster.Cluster.recover.Goals as goal

pub returns-then-not-is_failed-clause-ok : goal.returns-then-not-is_failed-clause-ok
returns-then-not-is_failed-clause-ok g c =
    let t = c.args.self.now in
    let well : is_failed t.cluster.coordinator.mode ≡ false = ap (λ x. is_failed x.cluster.coordinator.mode) (sym c.self.view_is) ∙ (sym c.is_failed.ensures ∙ c.if-not-is_failed.true) in
    recover-idle (g.P.VertexProgram.program_of t.program) t.cluster c.requires.going well c.args.rebirth

pub start_spares-requires-clause-as_many : goal.start_spares-requires-clause-as_many
start_spares-requires-clause-as_many g c = let S = c.self.invariant.agrees.holds.committed.shaped in S.logs ∙ sym S.hosts

pub start_spares-requires-clause-few : goal.start_spares-requires-clause-few
start_spares-requires-clause-few g c = let S = c.self.invariant.agrees.holds.committed.shaped in let many = S.hosts in let few = S.few in omega (arith, many, few)

pub invariant_of-self-2 : goal.invariant_of-self-2
invariant_of-self-2 g c =
    let s = c.self.inside in
    let P = g.P.VertexProgram.program_of s.program in
    let k : Cluster g.row.P-Value.Denot g.row.P-Acc.Denot = record { hosts = s.hosts.items; logs = s.logs.items; flight = s.flight; serial = s.serial; coordinator = s.coordinator; places = s.places; losses = s.losses; theta = s.theta } in
    let over : is_over k.coordinator.mode ≡ false = ap (λ x. is_over x.cluster.coordinator.mode) c.self.view_is ∙ c.requires.going in
    let n = c.len-lost.result in
    let x : Coordinator × Opening = (c.open_recovery-opening.new.self, c.open_recovery-opening.result) in
    let many : n ≡ length (lost_list k) = c.len-lost.ensures ∙ (ap length c.in_ok-lost.ensures.list ∙ ap (λ x. length (lost_list x.cluster)) (sym c.self.view_is)) in
    let is = recover-step P k over c.args.rebirth n x c.start_spares.new.hosts.items c.start_spares.new.logs.items many c.open_recovery-opening.ensures.decision c.in_ok-start_spares.ensures.hosts c.in_ok-start_spares.ensures.logs in
    let told = ap (λ o. (record k { hosts = c.start_spares.new.hosts.items; logs = c.start_spares.new.logs.items; coordinator = c.open_recovery-opening.new.self }, o)) c.opened.ensures ∙ is in
    record { agrees = subst (λ y. Agrees P y.0) (sym told) (keeps P (g.met.P.VertexProgram.laws s.program) k c.self.invariant.agrees (event.Recover c.args.rebirth) c.has-first.ensures.places); targets = λ q ts h here at. absurd (no-targets _ c.forget_all.ensures q ts here); resting = λ q here. absurd (nobody _ c.none-self-inside.ensures q here); retired = tt }

pub returns-clause-ok : goal.returns-clause-ok
returns-clause-ok g c =
    let s = c.self.inside in
    let P = g.P.VertexProgram.program_of s.program in
    let k : Cluster g.row.P-Value.Denot g.row.P-Acc.Denot = record { hosts = s.hosts.items; logs = s.logs.items; flight = s.flight; serial = s.serial; coordinator = s.coordinator; places = s.places; losses = s.losses; theta = s.theta } in
    let over : is_over k.coordinator.mode ≡ false = ap (λ x. is_over x.cluster.coordinator.mode) c.self.view_is ∙ c.requires.going in
    let n = c.len-lost.result in
    let x : Coordinator × Opening = (c.open_recovery-opening.new.self, c.open_recovery-opening.result) in
    let many : n ≡ length (lost_list k) = c.len-lost.ensures ∙ (ap length c.in_ok-lost.ensures.list ∙ ap (λ x. length (lost_list x.cluster)) (sym c.self.view_is)) in
    let is = recover-step P k over c.args.rebirth n x c.start_spares.new.hosts.items c.start_spares.new.logs.items many c.open_recovery-opening.ensures.decision c.in_ok-start_spares.ensures.hosts c.in_ok-start_spares.ensures.logs in
    let told = ap (λ o. (record k { hosts = c.start_spares.new.hosts.items; logs = c.start_spares.new.logs.items; coordinator = c.open_recovery-opening.new.self }, o)) c.opened.ensures ∙ is in
    rw (← c.self.view_is) told
