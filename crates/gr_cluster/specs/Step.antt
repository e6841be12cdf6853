-- The step of a cluster by an event, with its outcome, for every cluster and event.
use Rattle.std.specs.Prelude.{ℕ, ◌+◌, not, nat_lt, List, [], Option, Some, None, length, slice_get, if◌then◌else◌}
use Rattle.std.specs.List.{filter}
use Rattle.gr_program.specs.Program.{Program}
use Rattle.gr_log.specs.declared.record.LogRecord.{LogRecord}
use Rattle.gr_log.specs.Log.{cut_log, committed_log}
use Rattle.gr_log.specs.Directory.{edges_in}
use Rattle.gr_batch.specs.declared.stage.Stage.TheVariants as stage
use Rattle.gr_batch.specs.declared.outcome.Outcome.{Outcome}
use Rattle.gr_batch.specs.declared.outcome.Outcome.TheVariants as outcome
use Rattle.gr_sched.specs.declared.event.Event.{Event}
use Rattle.gr_sched.specs.declared.event.Event.TheVariants as event
use Rattle.gr_view.specs.declared.coordinator.Coordinator.{Coordinator}
use Rattle.gr_view.specs.declared.coordinator.Verdict.{Verdict}
use Rattle.gr_view.specs.declared.coordinator.Verdict.TheVariants as verdict
use Rattle.gr_view.specs.declared.coordinator.Opening.{Opening}
use Rattle.gr_view.specs.declared.coordinator.Opening.TheVariants as opening
use Rattle.gr_view.specs.Modes.{is_over, is_rebuild, is_recovery}
use Rattle.gr_view.specs.Decisions.{parties, going_back, looked_at, at_barrier, at_recovery, at_repair, at_discard}
use Rattle.gr_rules.specs.Rows.{blank_rows}
use Rattle.gr_rules.specs.Lost.{lost_of}
use Rattle.gr_cluster.specs.Tables.{Host, Cluster, changed_at, host, log, is_up}
use Rattle.gr_cluster.specs.Load.{fresh_host}
use Rattle.gr_cluster.specs.Work.{worked_at}
use Rattle.gr_cluster.specs.Network.{delivered, dropped, crashed}

module _ {V A : Type 0} where
  -- those of some places whose machines are down
  abbrev pub down_among : Cluster V A → List ℕ → List ℕ
  down_among c ps = filter (λ p. not (is_up c p)) ps

  -- hosts of reborn places go back to the spares: their places are down again, and only the committed logs stay
  abbrev pub without_hosts : List ℕ → Cluster V A → Cluster V A
  without_hosts ps c = record c { hosts = changed_at ps (λ _ _. None) c.hosts; logs = changed_at ps (λ _. cut_log) c.logs }

  abbrev pub with_coordinator : Coordinator → Cluster V A → Cluster V A
  with_coordinator co c = record c { coordinator = co }

  -- a rebuild's commit commits the logs of the parties
  abbrev pub with_logs_committed : Cluster V A → Cluster V A
  with_logs_committed c =
      if is_rebuild c.coordinator.mode then record c { logs = changed_at (parties c.coordinator) (λ _. committed_log) c.logs } else c

  abbrev pub after_verdict : Cluster V A → List ℕ → Coordinator → Verdict → Cluster V A × Outcome V A
  after_verdict c ps co (verdict.Failed qs) = (with_coordinator co (without_hosts (going_back c.coordinator ps) c), outcome.Failed qs)
  after_verdict c ps co (verdict.Committed n r d) = (with_coordinator co (with_logs_committed c), outcome.Committed n r d)
  after_verdict c ps co (verdict.NotReady p) = (c, outcome.NotReady p)
  after_verdict c ps co verdict.Idle = (c, outcome.Idle)

  -- the coordinator looks at the places, and decides
  unfoldable pub barred : Cluster V A → Cluster V A × Outcome V A
  barred c =
      let ps = down_among c (looked_at c.coordinator) in
      let decision = at_barrier c.coordinator ps in after_verdict c ps decision.0 decision.1

  abbrev pub lost_list : Cluster V A → List ℕ
  lost_list c = lost_of c.coordinator.dead c.logs

  -- a spare starts as a dead place: with what the committed log says, without values
  abbrev pub reborn_host : ℕ → ℕ → List LogRecord → Host V A
  reborn_host e commits records = fresh_host (blank_rows records) (edges_in records) e commits stage.Ask

  abbrev pub with_reborn : List ℕ → Cluster V A → Cluster V A
  with_reborn ps c = record c {
    hosts = changed_at ps (λ p _. Some (reborn_host (c.coordinator.epoch + 1) c.coordinator.commits (log c p).committed)) c.hosts;
    logs = changed_at ps (λ _. cut_log) c.logs;
  }

  abbrev pub after_opening : Cluster V A → List ℕ → Coordinator → Opening → Cluster V A × Outcome V A
  after_opening c ps co (opening.Opened e) = (with_coordinator co (with_reborn ps c), outcome.Opened e)
  after_opening c ps co opening.Lost = (with_coordinator co c, outcome.LostFound (length (lost_list c)))
  after_opening c ps co opening.Idle = (c, outcome.Idle)

  -- a recovery, with a spare for each named place
  unfoldable pub recovered : Cluster V A → List ℕ → Cluster V A × Outcome V A
  recovered c ps =
      let decision = at_recovery c.coordinator ps (nat_lt 0 (length (lost_list c))) in after_opening c ps decision.0 decision.1

  abbrev pub opened_or_idle : Cluster V A → Option ℕ → Cluster V A → Cluster V A × Outcome V A
  opened_or_idle c None d = (c, outcome.Idle)
  opened_or_idle c (Some e) d = (d, outcome.Opened e)

  unfoldable pub repaired : Cluster V A → Cluster V A × Outcome V A
  repaired c = let decision = at_repair c.coordinator c.coordinator.mode in opened_or_idle c decision.1 (with_coordinator decision.0 c)

  abbrev pub discarded_or_idle : Cluster V A → Option ℕ → Cluster V A → Cluster V A × Outcome V A
  discarded_or_idle c None d = (c, outcome.Idle)
  discarded_or_idle c (Some e) d = (d, outcome.Discarded e)

  -- the open round or rebuild is dropped; from a recovery the hosts of reborn places go back
  unfoldable pub discarded : Cluster V A → Cluster V A × Outcome V A
  discarded c =
      let ps = down_among c (parties c.coordinator) in
      let decision = at_discard c.coordinator ps c.coordinator.mode in
      let d = if is_recovery c.coordinator.mode then without_hosts (going_back c.coordinator ps) c else c in
      discarded_or_idle c decision.1 (with_coordinator decision.0 d)

module _ {V A : Type 0} (P : Program V A) where
  abbrev pub taken_step : Cluster V A → Event → Cluster V A × Outcome V A
  taken_step c (event.Work p) = worked_at P c p (host c p)
  taken_step c (event.Deliver i) = delivered c i (slice_get c.flight i)
  taken_step c (event.Discarded i) = dropped c i (slice_get c.flight i)
  taken_step c (event.Crash p n) = crashed c p n (host c p)
  taken_step c event.Barrier = barred c
  taken_step c (event.Recover ps) = recovered c ps
  taken_step c event.Repair = repaired c
  taken_step c event.Discard = discarded c

  -- nothing happens once the run is over
  unfoldable pub step : Cluster V A → Event → Cluster V A × Outcome V A
  step c e = if is_over c.coordinator.mode then (c, outcome.Idle) else taken_step c e
