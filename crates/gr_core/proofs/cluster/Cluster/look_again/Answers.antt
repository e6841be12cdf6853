use Rattle.std.proofs.Common.{◌≡◌, ◌≢◌, ◌∙◌, ℕ, true, false, ap, sym}
use Rattle.gr_base.specs.Rising.{has}
use Rattle.gr_cluster.specs.Tables.{Cluster, host}
use Rattle.gr_cluster.specs.Todo.{can_work}
use Rattle.gr_core.proofs.Resting.{rest-with, rest-without}
use Rattle.gr_core.proofs.cluster.Cluster.look_again.Goals as goal
use Rattle.gr_core.proofs.cluster.Cluster.look_again.Goals.{then-can_work, else-can_work}

pub invariant_of-self : goal.invariant_of-self
invariant_of-self g c =
    let s = c.self.inside in
    let k : Cluster g.row.P-Value.Denot g.row.P-Acc.Denot = record { hosts = s.hosts.items; logs = s.logs.items; flight = s.flight; serial = s.serial; coordinator = s.coordinator; places = s.places; losses = s.losses; theta = s.theta } in
    let others : (q : ℕ) → q ≢ c.args.p → has c.args.resting q ≡ true → can_work k.coordinator q (host k q) ≡ false
    = λ q ne here. ap (λ x. can_work x.cluster.coordinator q (host x.cluster q)) c.self.view_is ∙ c.requires.others q ne here in
    record {
      agrees = c.self.invariant.agrees;
      targets = c.self.invariant.targets;
      retired = c.self.invariant.retired;
      resting = elim c.if-can_work.branch [
        | then-can_work w ↦ rest-without k c.args.resting c.if-can_work.self c.args.p others (w.self-is ∙ w.without-self-inside.ensures)
        | else-can_work w ↦ rest-with k c.args.resting c.if-can_work.self c.args.p others
            (ap (λ x. can_work x.cluster.coordinator c.args.p (host x.cluster c.args.p)) c.self.view_is ∙ sym c.can_work.ensures ∙ w.if-can_work.false) (w.self-is ∙ w.with-self-inside.ensures)
      ];
    }
