use Rattle.std.proofs.Common.{◌≡◌, ◌∙◌, sym, ap, refl, subst, false}
use Rattle.gr_sched.specs.declared.event.Event.TheVariants as event
use Rattle.gr_view.specs.Modes.{is_over}
use Rattle.gr_cluster.specs.Tables.{Cluster, host}
use Rattle.gr_cluster.specs.Todo.{todo}
use Rattle.gr_cluster.specs.Work.{worked}
use Rattle.gr_cluster.specs.Step.{step}
use Rattle.gr_core.specs.declared.turn.Turn.TheVariants as turn
use Rattle.gr_core.specs.Steps.{takes_memory}
use Rattle.gr_core.specs.Turns.{turn_of}
use Rattle.gr_core.proofs.Acting.{IfOk-same, OnErr-all, told-next}
use Rattle.gr_core.proofs.Needs.{may-work}
use Rattle.gr_view.specs.Decisions.{parties}
use Rattle.gr_core.specs.Targets.{TargetsFit}
use Rattle.gr_core.proofs.Standing.{fit-stand}
use Rattle.gr_core.proofs.Resting.{nobody}
use Rattle.gr_core.proofs.Kept.{keeps, keeps-stepped}
use Rattle.gr_core.proofs.Turns.{turn-act, work-step}
use Rattle.gr_core.proofs.cluster.Cluster.act_at.Goals as goal

pub act_in_round-requires-clause-may : goal.act_in_round-requires-clause-may
act_in_round-requires-clause-may g c = λ h at.
    let s = c.self.inside in
    let P = g.P.VertexProgram.program_of s.program in
    let k : Cluster g.row.P-Value.Denot g.row.P-Acc.Denot = record { hosts = s.hosts.items; logs = s.logs.items; flight = s.flight; serial = s.serial; coordinator = s.coordinator; places = s.places; losses = s.losses; theta = s.theta } in
    let p = c.args.p in
    let over : is_over k.coordinator.mode ≡ false = ap (λ x. is_over x.cluster.coordinator.mode) c.self.view_is ∙ c.requires.going in
    let next : turn_of k.coordinator (host k p) ≡ turn.Act = ap (λ x. turn_of x.cluster.coordinator (host x.cluster p)) c.self.view_is ∙ c.requires.turn in
    may-work P (g.met.P.VertexProgram.laws s.program) c.self.invariant.agrees.state k c.self.invariant.agrees.holds over p h at (ap (turn_of k.coordinator) (sym at) ∙ next)

pub invariant_of-self : goal.invariant_of-self
invariant_of-self g c =
    let s = c.self.inside in
    let P = g.P.VertexProgram.program_of s.program in
    let k : Cluster g.row.P-Value.Denot g.row.P-Acc.Denot = record { hosts = s.hosts.items; logs = s.logs.items; flight = s.flight; serial = s.serial; coordinator = s.coordinator; places = s.places; losses = s.losses; theta = s.theta } in
    let p = c.args.p in
    let over : is_over k.coordinator.mode ≡ false = ap (λ x. is_over x.cluster.coordinator.mode) c.self.view_is ∙ c.requires.going in
    let next : turn_of k.coordinator (host k p) ≡ turn.Act = ap (λ x. turn_of x.cluster.coordinator (host x.cluster p)) c.self.view_is ∙ c.requires.turn in
    let T = (turn-act k.coordinator (host k p) next).0 in
    let a = c.act_in_round in
    let ok = IfOk-same (record k { hosts = a.new.hosts.items; flight = a.new.flight; serial = a.new.serial; coordinator = a.new.coordinator }) (worked P k p T.at (todo k.coordinator p T.at)) (step P k (event.Work p)) a.result
    (sym (work-step P k p over T.at (todo k.coordinator p T.at) T.is refl)) (a.ensures.ok s.logs.items s.places s.losses T.at T.is) in
    let fit = fit-stand P s.coordinator.epoch (parties s.coordinator) s.hosts.items a.new.hosts.items a.new.kept a.ensures.stand a.ensures.targets in
    record {
      retired = tt;
      resting = λ q here. absurd (nobody _ c.none-self-inside.ensures q here);
      targets = subst (λ n. TargetsFit P n (parties a.new.coordinator) a.new.hosts.items a.new.kept) (sym a.ensures.epoch)
          (subst (λ ps. TargetsFit P s.coordinator.epoch ps a.new.hosts.items a.new.kept) (sym a.ensures.parties) fit);
      agrees = keeps-stepped P k (record k { hosts = a.new.hosts.items; flight = a.new.flight; serial = a.new.serial; coordinator = a.new.coordinator }) (step P k (event.Work p)) a.result ok
          (OnErr-all k a.new.hosts.items a.new.flight a.new.serial a.new.coordinator a.result a.ensures.hosts_kept a.ensures.flight_kept a.ensures.serial_kept a.ensures.coordinator_kept)
          c.self.invariant.agrees (keeps P (g.met.P.VertexProgram.laws s.program) k c.self.invariant.agrees (event.Work p) tt);
    }

pub returns-clause-ok : goal.returns-clause-ok
returns-clause-ok g c =
    let s = c.self.inside in
    let P = g.P.VertexProgram.program_of s.program in
    let k : Cluster g.row.P-Value.Denot g.row.P-Acc.Denot = record { hosts = s.hosts.items; logs = s.logs.items; flight = s.flight; serial = s.serial; coordinator = s.coordinator; places = s.places; losses = s.losses; theta = s.theta } in
    let p = c.args.p in
    let over : is_over k.coordinator.mode ≡ false = ap (λ x. is_over x.cluster.coordinator.mode) c.self.view_is ∙ c.requires.going in
    let next : turn_of k.coordinator (host k p) ≡ turn.Act = ap (λ x. turn_of x.cluster.coordinator (host x.cluster p)) c.self.view_is ∙ c.requires.turn in
    let T = (turn-act k.coordinator (host k p) next).0 in
    let a = c.act_in_round in
    let ok = IfOk-same (record k { hosts = a.new.hosts.items; flight = a.new.flight; serial = a.new.serial; coordinator = a.new.coordinator }) (worked P k p T.at (todo k.coordinator p T.at)) (step P k (event.Work p)) a.result
    (sym (work-step P k p over T.at (todo k.coordinator p T.at) T.is refl)) (a.ensures.ok s.logs.items s.places s.losses T.at T.is) in
    rw (← c.self.view_is) ok

pub returns-clause-told : goal.returns-clause-told
returns-clause-told g c = λ light.
    let s = c.self.inside in
    let P = g.P.VertexProgram.program_of s.program in
    let k : Cluster g.row.P-Value.Denot g.row.P-Acc.Denot = record { hosts = s.hosts.items; logs = s.logs.items; flight = s.flight; serial = s.serial; coordinator = s.coordinator; places = s.places; losses = s.losses; theta = s.theta } in
    let p = c.args.p in
    let over : is_over k.coordinator.mode ≡ false = ap (λ x. is_over x.cluster.coordinator.mode) c.self.view_is ∙ c.requires.going in
    let next : turn_of k.coordinator (host k p) ≡ turn.Act = ap (λ x. turn_of x.cluster.coordinator (host x.cluster p)) c.self.view_is ∙ c.requires.turn in
    let T = (turn-act k.coordinator (host k p) next).0 in
    let M = may-work P (g.met.P.VertexProgram.laws s.program) c.self.invariant.agrees.state k c.self.invariant.agrees.holds over p T.at T.is (ap (turn_of k.coordinator) (sym T.is) ∙ next) in
    let step_is = work-step P k p over T.at (todo k.coordinator p T.at) T.is refl in
    let light' : takes_memory (event.Work p) (worked P k p T.at (todo k.coordinator p T.at)).1 ≡ false
    = sym (ap (λ x. takes_memory (event.Work p) x.1) step_is) ∙ (ap (λ x. takes_memory (event.Work p) (step (g.P.VertexProgram.program_of x.program) x.cluster (event.Work p)).1) c.self.view_is ∙ light) in
    c.act_in_round.ensures.told T.at T.is (told-next P k p T.at M light')
