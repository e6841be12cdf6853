use Rattle.std.proofs.Common.{◌≡◌, ◌∙◌, ◌<◌, ◌-◌, ◌^◌, sym, ap, subst, false, arith}
use Rattle.gr_base.specs.Rising.{includes}
use Rattle.gr_sched.specs.declared.event.Event.TheVariants as event
use Rattle.gr_view.specs.declared.coordinator.Coordinator.{Coordinator}
use Rattle.gr_view.specs.declared.coordinator.Verdict.{Verdict}
use Rattle.gr_view.specs.Modes.{is_over}
use Rattle.gr_view.specs.Decisions.{looked_at}
use Rattle.gr_cluster.specs.Tables.{Cluster}
use Rattle.gr_cluster.specs.Step.{down_among}
use Rattle.gr_core.specs.Tables.{Agrees}
use Rattle.gr_core.proofs.Barrier.{barrier-step, whole-logs}
use Rattle.gr_core.proofs.Down.{includes-down}
use Rattle.gr_core.proofs.Kept.{keeps, rounds-below}
use Rattle.gr_core.proofs.Standing.{no-targets}
use Rattle.gr_core.proofs.Resting.{nobody}
use Rattle.gr_core.proofs.cluster.Cluster.barrier.Goals as goal

pub barrier-verdict-requires-clause-crashed : goal.barrier-verdict-requires-clause-crashed
barrier-verdict-requires-clause-crashed g c =
    let co = c.self.inside.coordinator in
    let t = c.args.self.now.cluster in
    let seen : c.down_among-down.result ≡ down_among t (looked_at co) = c.down_among-down.ensures ∙ ap (down_among t) c.looked_at.ensures in
    ap (includes (looked_at co)) seen ∙ includes-down t (looked_at co)

pub barrier-verdict-requires-clause-room : goal.barrier-verdict-requires-clause-room
barrier-verdict-requires-clause-room g c =
    let s = c.self.inside in
    let P = g.P.VertexProgram.program_of s.program in
    let k : Cluster g.row.P-Value.Denot g.row.P-Acc.Denot = record { hosts = s.hosts.items; logs = s.logs.items; flight = s.flight; serial = s.serial; coordinator = s.coordinator; places = s.places; losses = s.losses; theta = s.theta } in
    let over : is_over k.coordinator.mode ≡ false = ap (λ x. is_over x.cluster.coordinator.mode) c.self.view_is ∙ c.requires.going in
    record {
      epoch = subst (λ x. x.cluster.coordinator.epoch < 2 ^ 64 - 1) (sym c.self.view_is) c.requires.epoch;
      commits = subst (λ x. x.cluster.coordinator.commits < 2 ^ 64 - 1) (sym c.self.view_is) c.requires.commits;
      rounds = let below = rounds-below P (g.met.P.VertexProgram.laws s.program) k c.self.invariant.agrees over in omega (arith, below);
      spares = c.self.invariant.agrees.holds.committed.places.spares;
    }

pub carry_out-requires-clause-few_hosts : goal.carry_out-requires-clause-few_hosts
carry_out-requires-clause-few_hosts g c = let S = c.self.invariant.agrees.holds.committed.shaped in let many = S.hosts in let few = S.few in omega (arith, many, few)

pub carry_out-requires-clause-few_logs : goal.carry_out-requires-clause-few_logs
carry_out-requires-clause-few_logs g c = let S = c.self.invariant.agrees.holds.committed.shaped in let many = S.logs in let few = S.few in omega (arith, many, few)

pub carry_out-requires-clause-whole : goal.carry_out-requires-clause-whole
carry_out-requires-clause-whole g c =
    let s = c.self.inside in
    let P = g.P.VertexProgram.program_of s.program in
    let k : Cluster g.row.P-Value.Denot g.row.P-Acc.Denot = record { hosts = s.hosts.items; logs = s.logs.items; flight = s.flight; serial = s.serial; coordinator = s.coordinator; places = s.places; losses = s.losses; theta = s.theta } in
    let over : is_over k.coordinator.mode ≡ false = ap (λ x. is_over x.cluster.coordinator.mode) c.self.view_is ∙ c.requires.going in
    let ps = c.down_among-down.result in
    let x : Coordinator × Verdict = (c.barrier-verdict.new.self, c.barrier-verdict.result) in
    let seen : ps ≡ down_among k (looked_at k.coordinator) = c.down_among-down.ensures ∙ ((λ i. down_among (sym c.self.view_is i).cluster c.looked_at.result) ∙ ap (down_among k) c.looked_at.ensures) in
    whole-logs P k over ps x seen c.barrier-verdict.ensures.decision c.self.invariant.agrees.state c.self.invariant.agrees.holds

pub invariant_of-self : goal.invariant_of-self
invariant_of-self g c =
    let s = c.self.inside in
    let P = g.P.VertexProgram.program_of s.program in
    let k : Cluster g.row.P-Value.Denot g.row.P-Acc.Denot = record { hosts = s.hosts.items; logs = s.logs.items; flight = s.flight; serial = s.serial; coordinator = s.coordinator; places = s.places; losses = s.losses; theta = s.theta } in
    let over : is_over k.coordinator.mode ≡ false = ap (λ x. is_over x.cluster.coordinator.mode) c.self.view_is ∙ c.requires.going in
    let ps = c.down_among-down.result in
    let x : Coordinator × Verdict = (c.barrier-verdict.new.self, c.barrier-verdict.result) in
    let seen : ps ≡ down_among k (looked_at k.coordinator) = c.down_among-down.ensures ∙ ((λ i. down_among (sym c.self.view_is i).cluster c.looked_at.result) ∙ ap (down_among k) c.looked_at.ensures) in
    let is = barrier-step P k over ps x seen c.barrier-verdict.ensures.decision c.carry_out.new.hosts.items c.carry_out.new.logs.items c.carry_out.ensures.hosts c.carry_out.ensures.logs in
    let told = ap (λ o. (record k { hosts = c.carry_out.new.hosts.items; logs = c.carry_out.new.logs.items; coordinator = c.barrier-verdict.new.self }, o)) c.carry_out.ensures.outcome ∙ is in
    record { agrees = subst (λ y. Agrees P y.0) (sym told) (keeps P (g.met.P.VertexProgram.laws s.program) k c.self.invariant.agrees event.Barrier tt); targets = λ q ts h here at. absurd (no-targets _ c.forget_all.ensures q ts here); resting = λ q here. absurd (nobody _ c.none-self-inside.ensures q here); retired = tt }

pub returns-clause-step : goal.returns-clause-step
returns-clause-step g c =
    let s = c.self.inside in
    let P = g.P.VertexProgram.program_of s.program in
    let k : Cluster g.row.P-Value.Denot g.row.P-Acc.Denot = record { hosts = s.hosts.items; logs = s.logs.items; flight = s.flight; serial = s.serial; coordinator = s.coordinator; places = s.places; losses = s.losses; theta = s.theta } in
    let over : is_over k.coordinator.mode ≡ false = ap (λ x. is_over x.cluster.coordinator.mode) c.self.view_is ∙ c.requires.going in
    let ps = c.down_among-down.result in
    let x : Coordinator × Verdict = (c.barrier-verdict.new.self, c.barrier-verdict.result) in
    let seen : ps ≡ down_among k (looked_at k.coordinator) = c.down_among-down.ensures ∙ ((λ i. down_among (sym c.self.view_is i).cluster c.looked_at.result) ∙ ap (down_among k) c.looked_at.ensures) in
    let is = barrier-step P k over ps x seen c.barrier-verdict.ensures.decision c.carry_out.new.hosts.items c.carry_out.new.logs.items c.carry_out.ensures.hosts c.carry_out.ensures.logs in
    rw (← c.self.view_is) (ap (λ o. (record k { hosts = c.carry_out.new.hosts.items; logs = c.carry_out.new.logs.items; coordinator = c.barrier-verdict.new.self }, o)) c.carry_out.ensures.outcome ∙ is)
