use Rattle.std.proofs.Common.{◌≡◌, ◌∙◌, true, false, sym, ap, subst}
use Rattle.std.specs.Prelude.{is_some}
use Rattle.gr_sched.specs.declared.event.Event.TheVariants as event
use Rattle.gr_view.specs.Modes.{is_over}
use Rattle.gr_cluster.specs.Tables.{Cluster, host}
use Rattle.gr_core.specs.Tables.{Agrees}
use Rattle.gr_core.proofs.Crash.{crash-up, crash-down}
use Rattle.gr_core.proofs.Kept.{keeps}
use Rattle.gr_core.proofs.Standing.{no-targets}
use Rattle.gr_core.proofs.Resting.{nobody}
use Rattle.gr_core.proofs.cluster.Cluster.crash.Goals as goal

pub invariant_of-self : goal.invariant_of-self
invariant_of-self g c =
    let s = c.self.inside in
    let P = g.P.VertexProgram.program_of s.program in
    let k : Cluster g.row.P-Value.Denot g.row.P-Acc.Denot = record { hosts = s.hosts.items; logs = s.logs.items; flight = s.flight; serial = s.serial; coordinator = s.coordinator; places = s.places; losses = s.losses; theta = s.theta } in
    let over : is_over k.coordinator.mode ≡ false = ap (λ x. is_over x.cluster.coordinator.mode) c.self.view_is ∙ c.requires.going in
    let up : is_some (host k c.args.p) ≡ true = sym c.lose.ensures.was_up ∙ c.if-lose.true in
    let is = crash-up P k over c.args.p c.args.keep c.lose.new.hosts.items c.tear.new.logs.items c.tear.result up c.lose.ensures.hosts c.tear.ensures.logs c.tear.ensures.kept in
    record { agrees = subst (λ x. Agrees P x.0) (sym is) (keeps P (g.met.P.VertexProgram.laws s.program) k c.self.invariant.agrees (event.Crash c.args.p c.args.keep) tt); targets = λ q ts h here at. absurd (no-targets _ c.forget_all.ensures q ts here); resting = λ q here. absurd (nobody _ c.none-self-inside.ensures q here); retired = tt }

pub invariant_of-self-else-lose : goal.invariant_of-self-else-lose
invariant_of-self-else-lose g c =
    let s = c.self.inside in
    let P = g.P.VertexProgram.program_of s.program in
    let k : Cluster g.row.P-Value.Denot g.row.P-Acc.Denot = record { hosts = s.hosts.items; logs = s.logs.items; flight = s.flight; serial = s.serial; coordinator = s.coordinator; places = s.places; losses = s.losses; theta = s.theta } in
    let over : is_over k.coordinator.mode ≡ false = ap (λ x. is_over x.cluster.coordinator.mode) c.self.view_is ∙ c.requires.going in
    let down : is_some (host k c.args.p) ≡ false = sym c.lose.ensures.was_up ∙ c.if-lose.false in
    let is = crash-down P k over c.args.p c.args.keep c.lose.new.hosts.items down c.lose.ensures.hosts in
    record { agrees = subst (λ x. Agrees P x.0) (sym is) (keeps P (g.met.P.VertexProgram.laws s.program) k c.self.invariant.agrees (event.Crash c.args.p c.args.keep) tt); targets = λ q ts h here at. absurd (no-targets _ c.forget_all.ensures q ts here); resting = λ q here. absurd (nobody _ c.none-self-inside.ensures q here); retired = tt }

pub returns-then-lose-clause-step : goal.returns-then-lose-clause-step
returns-then-lose-clause-step g c =
    let s = c.self.inside in
    let P = g.P.VertexProgram.program_of s.program in
    let k : Cluster g.row.P-Value.Denot g.row.P-Acc.Denot = record { hosts = s.hosts.items; logs = s.logs.items; flight = s.flight; serial = s.serial; coordinator = s.coordinator; places = s.places; losses = s.losses; theta = s.theta } in
    let over : is_over k.coordinator.mode ≡ false = ap (λ x. is_over x.cluster.coordinator.mode) c.self.view_is ∙ c.requires.going in
    let up : is_some (host k c.args.p) ≡ true = sym c.lose.ensures.was_up ∙ c.if-lose.true in
    let is = crash-up P k over c.args.p c.args.keep c.lose.new.hosts.items c.tear.new.logs.items c.tear.result up c.lose.ensures.hosts c.tear.ensures.logs c.tear.ensures.kept in
    rw (← c.self.view_is) is

pub returns-else-lose-clause-step : goal.returns-else-lose-clause-step
returns-else-lose-clause-step g c =
    let s = c.self.inside in
    let P = g.P.VertexProgram.program_of s.program in
    let k : Cluster g.row.P-Value.Denot g.row.P-Acc.Denot = record { hosts = s.hosts.items; logs = s.logs.items; flight = s.flight; serial = s.serial; coordinator = s.coordinator; places = s.places; losses = s.losses; theta = s.theta } in
    let over : is_over k.coordinator.mode ≡ false = ap (λ x. is_over x.cluster.coordinator.mode) c.self.view_is ∙ c.requires.going in
    let down : is_some (host k c.args.p) ≡ false = sym c.lose.ensures.was_up ∙ c.if-lose.false in
    let is = crash-down P k over c.args.p c.args.keep c.lose.new.hosts.items down c.lose.ensures.hosts in
    rw (← c.self.view_is) is
