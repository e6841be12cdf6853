use Rattle.std.proofs.Common.{◌≡◌, ◌∙◌, ℕ, false, sym, ap, subst, arith, Option, None}
use Rattle.gr_base.specs.Rising.{includes}
use Rattle.gr_sched.specs.declared.event.Event.TheVariants as event
use Rattle.gr_view.specs.declared.coordinator.Coordinator.{Coordinator}
use Rattle.gr_view.specs.Modes.{is_over}
use Rattle.gr_view.specs.Decisions.{parties}
use Rattle.gr_log.specs.Log.{cut_log}
use Rattle.gr_cluster.specs.Tables.{Cluster, changed_at}
use Rattle.gr_cluster.specs.Step.{down_among}
use Rattle.gr_core.specs.Tables.{Agrees}
use Rattle.gr_core.proofs.Down.{includes-down}
use Rattle.gr_core.proofs.Kept.{keeps}
use Rattle.gr_core.proofs.Orders.{discard-step}
use Rattle.gr_core.proofs.Standing.{no-targets}
use Rattle.gr_core.proofs.Resting.{nobody}
use Rattle.gr_core.proofs.cluster.Cluster.discard.Goals as goal

pub discard-epoch-requires-clause-crashed : goal.discard-epoch-requires-clause-crashed
discard-epoch-requires-clause-crashed g c =
    let co = c.self.inside.coordinator in
    let t = c.args.self.now.cluster in
    let seen : c.down_among-down.result ≡ down_among t (parties co) = c.down_among-down.ensures ∙ ap (down_among t) c.parties.ensures in
    ap (includes (parties co)) seen ∙ includes-down t (parties co)

pub send_back-requires-clause-few_hosts : goal.send_back-requires-clause-few_hosts
send_back-requires-clause-few_hosts g c = let S = c.self.invariant.agrees.holds.committed.shaped in let many = S.hosts in let few = S.few in omega (arith, many, few)

pub send_back-requires-clause-few_logs : goal.send_back-requires-clause-few_logs
send_back-requires-clause-few_logs g c = let S = c.self.invariant.agrees.holds.committed.shaped in let many = S.logs in let few = S.few in omega (arith, many, few)

pub invariant_of-self : goal.invariant_of-self
invariant_of-self g c =
    let s = c.self.inside in
    let P = g.P.VertexProgram.program_of s.program in
    let k : Cluster g.row.P-Value.Denot g.row.P-Acc.Denot = record { hosts = s.hosts.items; logs = s.logs.items; flight = s.flight; serial = s.serial; coordinator = s.coordinator; places = s.places; losses = s.losses; theta = s.theta } in
    let over : is_over k.coordinator.mode ≡ false = ap (λ x. is_over x.cluster.coordinator.mode) c.self.view_is ∙ c.requires.going in
    let ps = c.down_among-down.result in
    let x : Coordinator × Option ℕ = (c.discard-epoch.new.self, c.discard-epoch.result) in
    let seen : ps ≡ down_among k (parties k.coordinator) = c.down_among-down.ensures ∙ ((λ i. down_among (sym c.self.view_is i).cluster c.parties.result) ∙ ap (down_among k) c.parties.ensures) in
    let back = c.difference-back.ensures.difference in
    let hosts = c.send_back.ensures.hosts ∙ ap (λ qs. changed_at qs (λ _ _. None) k.hosts) back in
    let logs = c.send_back.ensures.logs ∙ ap (λ qs. changed_at qs (λ _. cut_log) k.logs) back in
    let is = discard-step P k over c.self.invariant.agrees.holds.committed.places.none_reborn ps x c.send_back.new.hosts.items c.send_back.new.logs.items seen c.discard-epoch.ensures.decision hosts logs in
    let told = ap (λ o. (record k { hosts = c.send_back.new.hosts.items; logs = c.send_back.new.logs.items; coordinator = c.discard-epoch.new.self }, o)) c.discarded.ensures ∙ is in
    record { agrees = subst (λ y. Agrees P y.0) (sym told) (keeps P (g.met.P.VertexProgram.laws s.program) k c.self.invariant.agrees event.Discard tt); targets = λ q ts h here at. absurd (no-targets _ c.forget_all.ensures q ts here); resting = λ q here. absurd (nobody _ c.none-self-inside.ensures q here); retired = tt }

pub returns-clause-step : goal.returns-clause-step
returns-clause-step g c =
    let s = c.self.inside in
    let P = g.P.VertexProgram.program_of s.program in
    let k : Cluster g.row.P-Value.Denot g.row.P-Acc.Denot = record { hosts = s.hosts.items; logs = s.logs.items; flight = s.flight; serial = s.serial; coordinator = s.coordinator; places = s.places; losses = s.losses; theta = s.theta } in
    let over : is_over k.coordinator.mode ≡ false = ap (λ x. is_over x.cluster.coordinator.mode) c.self.view_is ∙ c.requires.going in
    let ps = c.down_among-down.result in
    let x : Coordinator × Option ℕ = (c.discard-epoch.new.self, c.discard-epoch.result) in
    let seen : ps ≡ down_among k (parties k.coordinator) = c.down_among-down.ensures ∙ ((λ i. down_among (sym c.self.view_is i).cluster c.parties.result) ∙ ap (down_among k) c.parties.ensures) in
    let back = c.difference-back.ensures.difference in
    let hosts = c.send_back.ensures.hosts ∙ ap (λ qs. changed_at qs (λ _ _. None) k.hosts) back in
    let logs = c.send_back.ensures.logs ∙ ap (λ qs. changed_at qs (λ _. cut_log) k.logs) back in
    let is = discard-step P k over c.self.invariant.agrees.holds.committed.places.none_reborn ps x c.send_back.new.hosts.items c.send_back.new.logs.items seen c.discard-epoch.ensures.decision hosts logs in
    rw (← c.self.view_is) (ap (λ o. (record k { hosts = c.send_back.new.hosts.items; logs = c.send_back.new.logs.items; coordinator = c.discard-epoch.new.self }, o)) c.discarded.ensures ∙ is)
