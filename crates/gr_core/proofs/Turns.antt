-- What the parts of a place's work make of a cluster.
use Rattle.std.proofs.Common.{◌≡◌, ℕ, ◌+◌, List, true, false, refl, sym, ap, ◌∙◌, Option, Some, None, set, nat_lt}
use Rattle.std.specs.Prelude.{option_map}
use Rattle.gr_program.specs.Program.{Program}
use Rattle.gr_log.specs.Log.{Log, cut_log}
use Rattle.gr_batch.specs.declared.outcome.Outcome.TheVariants as outcome
use Rattle.gr_sched.specs.declared.event.Event.TheVariants as event
use Rattle.gr_view.specs.declared.coordinator.Coordinator.{Coordinator}
use Rattle.gr_view.specs.declared.coordinator.Mode.{Mode}
use Rattle.gr_view.specs.declared.coordinator.Mode.TheVariants as mode
use Rattle.gr_view.specs.Modes.{is_over, is_rebuild}
use Rattle.gr_rules.specs.Todo.{Todo}
use Rattle.gr_rules.specs.Taken.{log_at}
use Rattle.gr_cluster.specs.Tables.{Host, Cluster, host}
use Rattle.gr_cluster.specs.Todo.{todo}
use Rattle.gr_cluster.specs.Work.{installed_host, adopted_host, worked, worked_at}
use Rattle.gr_cluster.specs.Step.{step}
use Rattle.gr_lists.proofs.Tests.{by_test}
use Rattle.gr_core.specs.declared.turn.Turn.TheVariants as turn
use Rattle.gr_core.specs.Turns.{turn_in, turn_of}
use Rattle.gr_core.proofs.Network.{step-taken}

no-install : (m : Mode) → turn_in m ≡ turn.Install → ⊥
no-install mode.Running e = cc
no-install mode.Failed e = cc
no-install mode.Recovering e = cc
no-install mode.Repairing e = cc
no-install mode.Done e = cc
no-install mode.Lost e = cc

no-adopt : (m : Mode) → turn_in m ≡ turn.Adopt → ⊥
no-adopt mode.Running e = cc
no-adopt mode.Failed e = cc
no-adopt mode.Recovering e = cc
no-adopt mode.Repairing e = cc
no-adopt mode.Done e = cc
no-adopt mode.Lost e = cc

acts-running : (m : Mode) → turn_in m ≡ turn.Act → m ≡ mode.Running
acts-running mode.Running e = refl
acts-running mode.Failed e = absurd (cc)
acts-running mode.Recovering e = absurd (cc)
acts-running mode.Repairing e = absurd (cc)
acts-running mode.Done e = absurd (cc)
acts-running mode.Lost e = absurd (cc)

rebuilds-rebuilding : (m : Mode) → turn_in m ≡ turn.Rebuild → is_rebuild m ≡ true
rebuilds-rebuilding mode.Recovering e = refl
rebuilds-rebuilding mode.Repairing e = refl
rebuilds-rebuilding mode.Running e = absurd (cc)
rebuilds-rebuilding mode.Failed e = absurd (cc)
rebuilds-rebuilding mode.Done e = absurd (cc)
rebuilds-rebuilding mode.Lost e = absurd (cc)

pub rests-failed : (m : Mode) → is_over m ≡ false → turn_in m ≡ turn.Rest → m ≡ mode.Failed
rests-failed mode.Failed o e = refl
rests-failed mode.Running o e = absurd (cc)
rests-failed mode.Recovering o e = absurd (cc)
rests-failed mode.Repairing o e = absurd (cc)
rests-failed mode.Done o e = absurd (let bad : true ≡ false = o in cc)
rests-failed mode.Lost o e = absurd (let bad : true ≡ false = o in cc)

module _ {V A : Type 0} (co : Coordinator) where
  pub record Installs (o : Option (Host V A)) : Type 0 where
    pub at : Host V A
    pub is : o ≡ Some at
    pub less : nat_lt at.installed co.commits ≡ true

  pub record Adopts (o : Option (Host V A)) : Type 0 where
    pub at : Host V A
    pub is : o ≡ Some at
    pub installed : nat_lt at.installed co.commits ≡ false
    pub less : nat_lt at.epoch co.epoch ≡ true

  -- it has installed and adopted, and the mode has work for it
  pub record Works (o : Option (Host V A)) : Type 0 where
    pub at : Host V A
    pub is : o ≡ Some at
    pub installed : nat_lt at.installed co.commits ≡ false
    pub adopted : nat_lt at.epoch co.epoch ≡ false

  pub turn-install : (o : Option (Host V A)) → turn_of co o ≡ turn.Install → Installs o
  turn-install None e = absurd (cc)
  turn-install (Some h) e = by_test (nat_lt h.installed co.commits)
      (λ i. record { at = h; is = refl; less = i })
      (λ i. absurd (by_test (nat_lt h.epoch co.epoch)
      (λ n. let e' = rw (i, n) at e in cc)
      (λ n. no-install co.mode (rw (i, n) at e))))

  pub turn-adopt : (o : Option (Host V A)) → turn_of co o ≡ turn.Adopt → Adopts o
  turn-adopt None e = absurd (cc)
  turn-adopt (Some h) e = by_test (nat_lt h.installed co.commits)
      (λ i. absurd (let e' = rw i at e in cc))
      (λ i. by_test (nat_lt h.epoch co.epoch)
      (λ n. record { at = h; is = refl; installed = i; less = n })
      (λ n. absurd (no-adopt co.mode (rw (i, n) at e))))

  pub turn-act : (o : Option (Host V A)) → turn_of co o ≡ turn.Act → Works o × (co.mode ≡ mode.Running)
  turn-act None e = absurd (cc)
  turn-act (Some h) e = by_test (nat_lt h.installed co.commits)
      (λ i. absurd (let e' = rw i at e in cc))
      (λ i. by_test (nat_lt h.epoch co.epoch)
      (λ n. absurd (let e' = rw (i, n) at e in cc))
      (λ n. (record { at = h; is = refl; installed = i; adopted = n }, acts-running co.mode (rw (i, n) at e))))

  pub turn-rebuild : (o : Option (Host V A)) → turn_of co o ≡ turn.Rebuild → Works o × (is_rebuild co.mode ≡ true)
  turn-rebuild None e = absurd (cc)
  turn-rebuild (Some h) e = by_test (nat_lt h.installed co.commits)
      (λ i. absurd (let e' = rw i at e in cc))
      (λ i. by_test (nat_lt h.epoch co.epoch)
      (λ n. absurd (let e' = rw (i, n) at e in cc))
      (λ n. (record { at = h; is = refl; installed = i; adopted = n }, rebuilds-rebuilding co.mode (rw (i, n) at e))))

module _ {V A : Type 0} (P : Program V A) (c : Cluster V A) (p : ℕ) (over : is_over c.coordinator.mode ≡ false) where
  pub work-step : (h : Host V A) (x : Todo) → host c p ≡ Some h → todo c.coordinator p h ≡ x → step P c (event.Work p) ≡ worked P c p h x
  work-step h x at next = step-taken P c (event.Work p) over ∙ (ap (worked_at P c p) at ∙ ap (worked P c p h) next)

  pub todo-install : (h : Host V A) → nat_lt h.installed c.coordinator.commits ≡ true → todo c.coordinator p h ≡ Todo.Install
  unfolding todo
  todo-install h less = rw (over, less) refl

  pub todo-adopt : (h : Host V A) → nat_lt h.installed c.coordinator.commits ≡ false → nat_lt h.epoch c.coordinator.epoch ≡ true → todo c.coordinator p h ≡ Todo.Adopt
  unfolding todo
  todo-adopt h installed less = rw (over, installed, less) refl

  pub install-step : (hs : List (Option (Host V A))) (n : ℕ) → turn_of c.coordinator (host c p) ≡ turn.Install
      → hs ≡ set c.hosts p (option_map installed_host (host c p)) → ((h : Host V A) → host c p ≡ Some h → n ≡ h.installed + 1)
      → (record c { hosts = hs }, outcome.Installed n) ≡ step P c (event.Work p)
  unfolding worked
  install-step hs n t is count =
      let I = turn-install c.coordinator (host c p) t in
      let is' : hs ≡ set c.hosts p (Some (installed_host I.at)) = is ∙ ap (λ o. set c.hosts p (option_map installed_host o)) I.is in
      let count' = count I.at I.is in
      (λ j. (record c { hosts = is' j }, outcome.Installed (count' j))) ∙ sym (work-step I.at Todo.Install I.is (todo-install I.at I.less))

  pub adopt-step : (hs : List (Option (Host V A))) (ls : List Log) → turn_of c.coordinator (host c p) ≡ turn.Adopt
      → hs ≡ set c.hosts p (option_map (adopted_host c.coordinator.epoch c.coordinator.mode) (host c p)) → ls ≡ set c.logs p (cut_log (log_at c.logs p))
      → (record c { hosts = hs; logs = ls }, outcome.Adopted c.coordinator.epoch) ≡ step P c (event.Work p)
  unfolding worked
  adopt-step hs ls t is logs =
      let I = turn-adopt c.coordinator (host c p) t in
      let is' : hs ≡ set c.hosts p (Some (adopted_host c.coordinator.epoch c.coordinator.mode I.at)) = is ∙ ap (λ o. set c.hosts p (option_map (adopted_host c.coordinator.epoch c.coordinator.mode) o)) I.is in
      (λ j. (record c { hosts = is' j; logs = logs j }, outcome.Adopted c.coordinator.epoch)) ∙ sym (work-step I.at Todo.Adopt I.is (todo-adopt I.at I.installed I.less))
