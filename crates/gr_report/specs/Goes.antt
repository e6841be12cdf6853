-- Which outcomes come of which events.
use Rattle.std.specs.Prelude.{Bool, true, false}
use Rattle.gr_batch.specs.declared.outcome.Outcome.{Outcome}
use Rattle.gr_batch.specs.declared.outcome.Outcome.TheVariants as outcome
use Rattle.gr_sched.specs.declared.event.Event.{Event}
use Rattle.gr_sched.specs.declared.event.Event.TheVariants as event

-- an outcome goes with its event: Idle with every one
abbrev pub goes_with : {V A : Type 0} → Event → Outcome V A → Bool
goes_with _ outcome.Idle = true
goes_with (event.Work p) (outcome.Installed c) = true
goes_with (event.Work p) (outcome.Adopted n) = true
goes_with (event.Work p) (outcome.Computed s) = true
goes_with (event.Work p) (outcome.Sent n s q) = true
goes_with (event.Work p) (outcome.Appended b) = true
goes_with (event.Work p) (outcome.Ready d) = true
goes_with (event.Work p) (outcome.Waiting s q) = true
goes_with (event.Deliver i) (outcome.Delivered b f) = true
goes_with (event.Discarded i) (outcome.Dropped n) = true
goes_with (event.Crash p k) (outcome.Crashed n) = true
goes_with event.Barrier (outcome.Failed ps) = true
goes_with event.Barrier (outcome.Committed c r d) = true
goes_with event.Barrier (outcome.NotReady p) = true
goes_with (event.Recover ps) (outcome.Opened n) = true
goes_with (event.Recover ps) (outcome.LostFound n) = true
goes_with event.Repair (outcome.Opened n) = true
goes_with event.Discard (outcome.Discarded n) = true
goes_with _ _ = false
