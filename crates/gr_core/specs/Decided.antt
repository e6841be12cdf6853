-- What the decisions of the coordinator make of the hosts and the logs, and what they tell.
use Rattle.std.specs.Prelude.{ℕ, List, Option, Some, None, if◌then◌else◌}
use Rattle.gr_base.specs.Rising.{has}
use Rattle.gr_log.specs.Log.{Log, cut_log, committed_log}
use Rattle.gr_batch.specs.declared.outcome.Outcome.{Outcome}
use Rattle.gr_batch.specs.declared.outcome.Outcome.TheVariants as outcome
use Rattle.gr_view.specs.declared.coordinator.Coordinator.{Coordinator}
use Rattle.gr_view.specs.declared.coordinator.Verdict.{Verdict}
use Rattle.gr_view.specs.declared.coordinator.Verdict.TheVariants as verdict
use Rattle.gr_view.specs.declared.coordinator.Opening.{Opening}
use Rattle.gr_view.specs.declared.coordinator.Opening.TheVariants as opening
use Rattle.gr_view.specs.Modes.{is_rebuild}
use Rattle.gr_view.specs.Decisions.{parties, going_back}
use Rattle.gr_rules.specs.Taken.{log_at}
use Rattle.gr_cluster.specs.Tables.{Host, changed_at}
use Rattle.gr_cluster.specs.Step.{reborn_host}

-- the outcome of a barrier, by the verdict of the coordinator
abbrev pub told_of : {V A : Type 0} → Verdict → Outcome V A
told_of (verdict.Failed ps) = outcome.Failed ps
told_of (verdict.Committed n r d) = outcome.Committed n r d
told_of (verdict.NotReady p) = outcome.NotReady p
told_of verdict.Idle = outcome.Idle

-- what a verdict makes of the hosts, by the coordinator before it and the places that are down: after a failure those of reborn places go back
abbrev pub hosts_after : {V A : Type 0} → Coordinator → List ℕ → Verdict → List (Option (Host V A)) → List (Option (Host V A))
hosts_after co ps (verdict.Failed qs) hosts = changed_at (going_back co ps) (λ _ _. None) hosts
hosts_after co ps _ hosts = hosts

-- and of the logs: after a failure only what is committed stays of theirs, and a rebuild's commit commits those of the parties
abbrev pub logs_after : Coordinator → List ℕ → Verdict → List Log → List Log
logs_after co ps (verdict.Failed qs) logs = changed_at (going_back co ps) (λ _. cut_log) logs
logs_after co ps (verdict.Committed n r d) logs = if is_rebuild co.mode then changed_at (parties co) (λ _. committed_log) logs else logs
logs_after co ps _ logs = logs

-- the host that starts in a place, where it is one of those that are reborn
abbrev pub spare_at : {V A : Type 0} → List ℕ → ℕ → ℕ → List Log → ℕ → Option (Host V A)
spare_at ps e commits logs p = if has ps p then Some (reborn_host e commits (log_at logs p).committed) else None

-- what the opening of a recovery makes of the hosts, after so many commits: each reborn place starts as its log says
abbrev pub hosts_opened : {V A : Type 0} → List ℕ → ℕ → Opening → List Log → List (Option (Host V A)) → List (Option (Host V A))
hosts_opened ps commits (opening.Opened e) logs hosts = changed_at ps (λ p _. Some (reborn_host e commits (log_at logs p).committed)) hosts
hosts_opened ps commits _ logs hosts = hosts

-- and of the logs: theirs lose what is not committed
abbrev pub logs_opened : List ℕ → Opening → List Log → List Log
logs_opened ps (opening.Opened e) logs = changed_at ps (λ _. cut_log) logs
logs_opened ps _ logs = logs

-- the outcome of a recovery, with the number of lost vertices
abbrev pub opened_of : {V A : Type 0} → ℕ → Opening → Outcome V A
opened_of n (opening.Opened e) = outcome.Opened e
opened_of n opening.Lost = outcome.LostFound n
opened_of n opening.Idle = outcome.Idle

-- the outcome of a repair, and of a discard, by the new epoch
abbrev pub opened_in : {V A : Type 0} → Option ℕ → Outcome V A
opened_in None = outcome.Idle
opened_in (Some e) = outcome.Opened e

abbrev pub discarded_in : {V A : Type 0} → Option ℕ → Outcome V A
discarded_in None = outcome.Idle
discarded_in (Some e) = outcome.Discarded e
