-- What a recovery, a repair and a discard make of a cluster.
use Rattle.std.proofs.Common.{◌≡◌, ◌≢◌, ◌+◌, ℕ, List, [], Bool, true, false, refl, sym, ap, ◌∙◌, Option, nat_lt, length, if◌then◌else◌}
use Rattle.gr_program.specs.Program.{Program}
use Rattle.gr_log.specs.Log.{Log}
use Rattle.gr_batch.specs.declared.outcome.Outcome.{Outcome}
use Rattle.gr_batch.specs.declared.outcome.Outcome.TheVariants as outcome
use Rattle.gr_sched.specs.declared.event.Event.TheVariants as event
use Rattle.gr_view.specs.declared.coordinator.Coordinator.{Coordinator}
use Rattle.gr_view.specs.declared.coordinator.Opening.{Opening}
use Rattle.gr_view.specs.declared.coordinator.Mode.{Mode}
use Rattle.gr_view.specs.declared.coordinator.Mode.TheVariants as mode
use Rattle.gr_view.specs.Modes.{is_over, is_failed, is_recovery}
use Rattle.gr_view.specs.Decisions.{parties, going_back, may_recover, at_recovery, at_repair, at_discard}
use Rattle.gr_cluster.specs.Tables.{Host, Cluster}
use Rattle.gr_cluster.specs.Step.{step, down_among, without_hosts, with_coordinator, lost_list, after_opening, recovered, opened_or_idle, repaired, discarded_or_idle, discarded}
use Rattle.gr_lists.proofs.Tests.{by_test}
use Rattle.gr_core.specs.Decided.{opened_of, opened_in, discarded_in, hosts_opened, logs_opened}
use Rattle.gr_core.proofs.Network.{step-taken}
use Rattle.gr_core.proofs.Unchanged.{nobody-back}

module _ {V A : Type 0} (P : Program V A) (c : Cluster V A) (over : is_over c.coordinator.mode ≡ false) where
  -- a discard, by the mode
  abbrev dropped : List ℕ → Mode → Coordinator × Option ℕ
  dropped ps m = at_discard c.coordinator ps m

  -- the hosts of reborn places that are not down go back
  abbrev sent : List ℕ → Cluster V A
  sent ps = without_hosts (going_back c.coordinator ps) c

  module _ (lone : c.coordinator.mode ≢ mode.Recovering → c.coordinator.reborn ≡ []) where
    nobody : (m : Mode) → c.coordinator.mode ≡ m → is_recovery m ≡ false → (ps : List ℕ) → sent ps ≡ c
    nobody m at other ps = nobody-back c (lone (λ e. let bad : true ≡ false = ap is_recovery (sym e ∙ at) ∙ other in cc)) ps

    told-discard : (ps : List ℕ) (m : Mode) → c.coordinator.mode ≡ m
        → (with_coordinator (dropped ps m).0 (sent ps), discarded_in (dropped ps m).1) ≡ discarded_or_idle c (dropped ps m).1 (with_coordinator (dropped ps m).0 (if is_recovery m then sent ps else c))
    unfolding at_discard
    told-discard ps mode.Running at = ap (λ d. (with_coordinator (dropped ps mode.Running).0 d, outcome.Discarded (c.coordinator.epoch + 1))) (nobody mode.Running at refl ps)
    told-discard ps mode.Repairing at = ap (λ d. (with_coordinator (dropped ps mode.Repairing).0 d, outcome.Discarded (c.coordinator.epoch + 1))) (nobody mode.Repairing at refl ps)
    told-discard ps mode.Recovering at = refl
    told-discard ps mode.Failed at = ap (λ d. (with_coordinator c.coordinator d, outcome.Idle)) (nobody mode.Failed at refl ps)
    told-discard ps mode.Done at = ap (λ d. (with_coordinator c.coordinator d, outcome.Idle)) (nobody mode.Done at refl ps)
    told-discard ps mode.Lost at = ap (λ d. (with_coordinator c.coordinator d, outcome.Idle)) (nobody mode.Lost at refl ps)

    pub discard-step : (ps : List ℕ) (x : Coordinator × Option ℕ) (hs : List (Option (Host V A))) (ls : List Log) → ps ≡ down_among c (parties c.coordinator) → x ≡ dropped ps c.coordinator.mode
        → hs ≡ (sent ps).hosts → ls ≡ (sent ps).logs → (record c { hosts = hs; logs = ls; coordinator = x.0 }, discarded_in x.1) ≡ step P c event.Discard
    unfolding discarded
    discard-step ps x hs ls is decision hosts logs =
        (λ i. (record c { hosts = hosts i; logs = logs i; coordinator = x.0 }, discarded_in x.1))
        ∙ (ap (λ (y : Coordinator × Option ℕ). (with_coordinator y.0 (sent ps), discarded_in y.1)) decision
        ∙ (told-discard ps c.coordinator.mode refl
        ∙ (ap (λ qs. discarded_or_idle c (dropped qs c.coordinator.mode).1 (with_coordinator (dropped qs c.coordinator.mode).0 (if is_recovery c.coordinator.mode then sent qs else c))) is
        ∙ sym (step-taken P c event.Discard over))))

  -- a repair, by the mode
  told-repair : (m : Mode) → (record c { coordinator = (at_repair c.coordinator m).0 }, opened_in (at_repair c.coordinator m).1) ≡ opened_or_idle c (at_repair c.coordinator m).1 (with_coordinator (at_repair c.coordinator m).0 c)
  unfolding at_repair
  told-repair mode.Running = refl
  told-repair mode.Repairing = refl
  told-repair mode.Recovering = refl
  told-repair mode.Failed = refl
  told-repair mode.Done = refl
  told-repair mode.Lost = refl

  pub repair-step : (x : Coordinator × Option ℕ) → x ≡ at_repair c.coordinator c.coordinator.mode → (record c { coordinator = x.0 }, opened_in x.1) ≡ step P c event.Repair
  unfolding repaired
  repair-step x decision =
      ap (λ (y : Coordinator × Option ℕ). (record c { coordinator = y.0 }, opened_in y.1)) decision
      ∙ (told-repair c.coordinator.mode ∙ sym (step-taken P c event.Repair over))

  -- a recovery with a spare for each of some places
  module _ (ps : List ℕ) where
    abbrev opens : Bool → Coordinator × Opening
    opens some = at_recovery c.coordinator ps some

    -- what it makes of the cluster, and tells
    abbrev begun : ℕ → Coordinator × Opening → Cluster V A × Outcome V A
    begun n x = (record c { hosts = hosts_opened ps c.coordinator.commits x.1 c.logs c.hosts; logs = logs_opened ps x.1 c.logs; coordinator = x.0 }, opened_of n x.1)

    told-recovery : (some : Bool) → begun (length (lost_list c)) (opens some) ≡ after_opening c ps (opens some).0 (opens some).1
    unfolding at_recovery
    told-recovery some = by_test (may_recover c.coordinator ps)
        (λ may. by_test some (λ y. rw (may, y) refl) (λ n. rw (may, n) refl))
        (λ may. rw may refl)

    pub recover-step : (n : ℕ) (x : Coordinator × Opening) (hs : List (Option (Host V A))) (ls : List Log) → n ≡ length (lost_list c) → x ≡ opens (nat_lt 0 n)
        → hs ≡ hosts_opened ps c.coordinator.commits x.1 c.logs c.hosts → ls ≡ logs_opened ps x.1 c.logs → (record c { hosts = hs; logs = ls; coordinator = x.0 }, opened_of n x.1) ≡ step P c (event.Recover ps)
    unfolding recovered
    recover-step n x hs ls many decision hosts logs =
        (λ i. (record c { hosts = hosts i; logs = logs i; coordinator = x.0 }, opened_of n x.1))
        ∙ (ap (begun n) decision
        ∙ (ap (λ k. begun k (opens (nat_lt 0 k))) many
        ∙ (told-recovery (nat_lt 0 (length (lost_list c))) ∙ sym (step-taken P c (event.Recover ps) over))))

  -- where nothing has failed none opens
  pub recover-idle : is_failed c.coordinator.mode ≡ false → (ps : List ℕ) → (c, outcome.Idle) ≡ step P c (event.Recover ps)
  unfolding recovered at_recovery
  recover-idle well ps = rw well refl ∙ sym (step-taken P c (event.Recover ps) over)
