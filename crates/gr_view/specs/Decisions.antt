-- What the coordinator decides. A decision gives the coordinator after it and what is answered.
use Rattle.std.specs.Prelude.{ℕ, ◌+◌, ◌-◌, Bool, not, ◌&&◌, ◌||◌, ◌==◌, nat_le, List, [], ◌∷◌, Option, Some, None, length, if◌then◌else◌}
use Rattle.std.specs.List.{find}
use Rattle.gr_base.specs.Rising.{has, union, without, includes}
use Rattle.gr_base.specs.Places.{below, with_place}
use Rattle.gr_view.specs.declared.coordinator.Mode.{Mode}
use Rattle.gr_view.specs.declared.coordinator.Mode.TheVariants as mode
use Rattle.gr_view.specs.declared.coordinator.Coordinator.{Coordinator}
use Rattle.gr_view.specs.declared.coordinator.Verdict.{Verdict}
use Rattle.gr_view.specs.declared.coordinator.Verdict.TheVariants as verdict
use Rattle.gr_view.specs.declared.coordinator.Opening.{Opening}
use Rattle.gr_view.specs.declared.coordinator.Opening.TheVariants as opening
use Rattle.gr_view.specs.Modes.{is_rebuild, is_failed, is_over}

-- the coordinator at load; a graph without a vertex is done at once
abbrev pub first_coordinator : ℕ → ℕ → ℕ → Bool → Coordinator
first_coordinator places spares limit any_vertex = record {
  mode = if any_vertex then mode.Running else mode.Done;
  epoch = 0;
  commits = 0;
  round = 0;
  limit = limit;
  live = below places;
  dead = [];
  retired = [];
  reborn = [];
  spares = spares;
  ready = [];
  due = 0;
}

-- the places that take part: the live and the reborn ones
abbrev pub parties : Coordinator → List ℕ
parties co = union co.live co.reborn

-- a party reports that it is ready, with the number of its vertices that are due next
abbrev pub reported : Coordinator → ℕ → ℕ → Coordinator
reported co p due = record co { ready = with_place co.ready p; due = co.due + due }

-- a new epoch, in which nobody has reported
abbrev pub raised : Coordinator → Coordinator
raised co = record co { epoch = co.epoch + 1; ready = []; due = 0 }

-- the reborn places whose hosts are up, and so go back to the spares where a recovery ends early
abbrev pub going_back : Coordinator → List ℕ → List ℕ
going_back co crashed = without co.reborn crashed

abbrev pub sent_back : Coordinator → List ℕ → Coordinator
sent_back co crashed = record (raised co) { mode = mode.Failed; spares = co.spares + length (going_back co crashed); reborn = [] }

-- places crashed: they are dead, and a recovery that was open ends
abbrev pub failed : Coordinator → List ℕ → Coordinator
failed co crashed = sent_back (record co { live = without co.live crashed; dead = union co.dead crashed }) crashed

-- a round is committed; it is the last where no vertex is due next, or where the limit is reached
abbrev pub round_committed : Coordinator → Coordinator
round_committed co = record (raised co) {
  commits = co.commits + 1;
  round = co.round + 1;
  mode = if (co.due == 0) || (co.round + 1 == co.limit) then mode.Done else mode.Running;
}

-- a rebuild is committed: the reborn places are live, and each other dead place is retired
abbrev pub rebuild_committed : Coordinator → Coordinator
rebuild_committed co = record (raised co) {
  commits = co.commits + 1;
  mode = mode.Running;
  live = union co.live co.reborn;
  retired = union co.retired (without co.dead co.reborn);
  dead = [];
  reborn = [];
}

abbrev pub committed : Coordinator → Coordinator
committed co = if is_rebuild co.mode then rebuild_committed co else round_committed co

-- the least party that has not reported
abbrev pub unready : Coordinator → Option ℕ
unready co = find (λ p. not (has co.ready p)) (parties co)

abbrev pub commit_unless : Coordinator → Option ℕ → Coordinator × Verdict
commit_unless co None = (committed co, verdict.Committed (committed co).commits (committed co).round co.due)
commit_unless co (Some p) = (co, verdict.NotReady p)

abbrev pub verdict_on : Coordinator → List ℕ → Coordinator × Verdict
verdict_on co [] = if is_failed co.mode then (co, verdict.Idle) else commit_unless co (unready co)
verdict_on co (p ∷ ps) = (failed co (p ∷ ps), verdict.Failed (p ∷ ps))

-- the places that a barrier looks at
abbrev pub looked_at : Coordinator → List ℕ
looked_at co = if is_failed co.mode then co.live else parties co

-- a barrier, by the places among these that crashed
unfoldable pub at_barrier : Coordinator → List ℕ → Coordinator × Verdict
at_barrier co crashed = if is_over co.mode then (co, verdict.Idle) else verdict_on co crashed

-- a recovery may open: after a failure, with dead places and enough spares for the named ones
abbrev pub may_recover : Coordinator → List ℕ → Bool
may_recover co rebirth = is_failed co.mode && (includes co.dead rebirth && nat_le (length rebirth) co.spares)

abbrev pub recovering : Coordinator → List ℕ → Coordinator
recovering co rebirth = record (raised co) { mode = mode.Recovering; reborn = rebirth; spares = co.spares - length rebirth }

-- a recovery with a spare for each named place; where some vertex is lost it changes the mode alone
unfoldable pub at_recovery : Coordinator → List ℕ → Bool → Coordinator × Opening
at_recovery co rebirth any_lost =
    if may_recover co rebirth
    then (if any_lost then (record co { mode = mode.Lost }, opening.Lost) else (recovering co rebirth, opening.Opened (co.epoch + 1)))
    else (co, opening.Idle)

-- a repair opens in the place of a round
unfoldable pub at_repair : Coordinator → Mode → Coordinator × Option ℕ
at_repair co mode.Running = (record (raised co) { mode = mode.Repairing }, Some (co.epoch + 1))
at_repair co _ = (co, None)

abbrev pub begun_anew : Coordinator → Coordinator × Option ℕ
begun_anew co = (record (raised co) { mode = mode.Running }, Some (co.epoch + 1))

-- the open round or rebuild is dropped, by the parties that crashed
unfoldable pub at_discard : Coordinator → List ℕ → Mode → Coordinator × Option ℕ
at_discard co crashed mode.Running = begun_anew co
at_discard co crashed mode.Repairing = begun_anew co
at_discard co crashed mode.Recovering = (sent_back co crashed, Some (co.epoch + 1))
at_discard co crashed _ = (co, None)
