-- A line of a trace for each outcome, by computation. Values and sums are told by two numbers.
use Rattle.std.proofs.Common.{◌≡◌, ℕ, true, false, List, [], ◌∷◌, None, Some, refl}
use Rattle.std.specs.Prelude.{codes}
use Rattle.std.specs.Fmt.{digits}
use Rattle.gr_batch.specs.declared.stage.Stage.TheVariants as stage
use Rattle.gr_batch.specs.declared.body.Body.{Body}
use Rattle.gr_batch.specs.declared.body.Body.TheVariants as body
use Rattle.gr_batch.specs.declared.outcome.Fate.{Fate}
use Rattle.gr_batch.specs.declared.outcome.Fate.TheVariants as fate
use Rattle.gr_batch.specs.declared.outcome.Outcome.{Outcome}
use Rattle.gr_batch.specs.declared.outcome.Outcome.TheVariants as outcome
use Rattle.gr_batch.specs.Telling.{Telling}
use Rattle.gr_sched.specs.declared.event.Event.{Event}
use Rattle.gr_sched.specs.declared.event.Event.TheVariants as event
use Rattle.gr_report.specs.Endings.{lost_text, unfinished_text}
use Rattle.gr_batch.specs.Telling.{telling}
use Rattle.gr_report.specs.Trace.{outcome_text}

abbrev pair : Telling ℕ ℕ
pair = telling (λ n. n ∷ 7 ∷ []) (λ n. n ∷ [])

-- what a line says without its end
abbrev line : Event → Outcome ℕ ℕ → List ℕ
line = outcome_text pair

idle : line (event.Crash 1 0) outcome.Idle ≡ codes "crash 1 idle"
unfolding digits
idle = refl

installed : line (event.Work 2) (outcome.Installed 3) ≡ codes "work 2 install 3"
unfolding digits
installed = refl

adopted : line (event.Work 2) (outcome.Adopted 4) ≡ codes "work 2 adopt 4"
unfolding digits
adopted = refl

computed : line (event.Work 2) (outcome.Computed stage.End) ≡ codes "work 2 compute end"
unfolding digits
computed = refl

sent : line (event.Work 2) (outcome.Sent 8 stage.Gather 0) ≡ codes "work 2 send 8 gather to 0"
unfolding digits
sent = refl

appended : line (event.Work 0) (outcome.Appended 66) ≡ codes "work 0 append 66"
unfolding digits
appended = refl

ready : line (event.Work 0) (outcome.Ready 1) ≡ codes "work 0 ready 1"
unfolding digits
ready = refl

waiting : line (event.Work 0) (outcome.Waiting stage.Call 3) ≡ codes "work 0 wait call 3"
unfolding digits
waiting = refl

abbrev delivered : Body ℕ ℕ → Fate → List ℕ
delivered b f = line (event.Deliver 0) (outcome.Delivered (record { serial = 12; epoch = 3; round = 1; sender = 1; receiver = 0; body = b }) f)

gather_taken : delivered (body.Gather (record { vertex = 5; acc = 2 } ∷ [])) fate.Taken ≡ codes "delivered 12 from 1 to 0 epoch 3 round 1 gather taken 5:2"
unfolding digits
gather_taken = refl

update_stale : delivered (body.Update (record { vertex = 0; value = 3; wake = true } ∷ record { vertex = 9; value = 4; wake = false } ∷ [])) fate.Stale ≡ codes "delivered 12 from 1 to 0 epoch 3 round 1 update stale 0:3,7:1 9:4,7:0"
unfolding digits
update_stale = refl

signal_down : delivered (body.Signal (1 ∷ 2 ∷ [])) fate.Down ≡ codes "delivered 12 from 1 to 0 epoch 3 round 1 signal down 1 2"
unfolding digits
signal_down = refl

grant_taken : delivered (body.Grant (record { vertex = 1; indeg = 1; outdeg = 0; master = 1; holders = 0 ∷ 1 ∷ []; value = None; due = true } ∷ record { vertex = 2; indeg = 2; outdeg = 0; master = 0; holders = 0 ∷ []; value = Some 1; due = false } ∷ [])) fate.Taken ≡ codes "delivered 12 from 1 to 0 epoch 3 round 1 grant taken 1:1:0:1:0,1:-:1 2:2:0:0:0:1,7:0"
unfolding digits
grant_taken = refl

dropped : line (event.Discarded 3) (outcome.Dropped 17) ≡ codes "dropped 17"
unfolding digits
dropped = refl

crashed : line (event.Crash 0 9) (outcome.Crashed 4) ≡ codes "crash 0 kept 4"
unfolding digits
crashed = refl

failed : line event.Barrier (outcome.Failed (0 ∷ 2 ∷ [])) ≡ codes "barrier failed 0 2"
unfolding digits
failed = refl

committed : line event.Barrier (outcome.Committed 2 1 5) ≡ codes "barrier committed 2 round 1 due 5"
unfolding digits
committed = refl

not_ready : line event.Barrier (outcome.NotReady 1) ≡ codes "barrier notready 1"
unfolding digits
not_ready = refl

recovery_opened : line (event.Recover []) (outcome.Opened 3) ≡ codes "recover epoch 3"
unfolding digits
recovery_opened = refl

rebirth_opened : line (event.Recover (0 ∷ 3 ∷ [])) (outcome.Opened 3) ≡ codes "recover epoch 3 rebirth 0 3"
unfolding digits
rebirth_opened = refl

repair_opened : line event.Repair (outcome.Opened 5) ≡ codes "repair epoch 5"
unfolding digits
repair_opened = refl

lost_found : line (event.Recover []) (outcome.LostFound 1) ≡ codes "recover lost 1"
unfolding digits
lost_found = refl

discarded : line event.Discard (outcome.Discarded 6) ≡ codes "discard epoch 6"
unfolding digits
discarded = refl

lost : lost_text (2 ∷ 10 ∷ []) ≡ codes "lost 2\n2\n10\n"
unfolding digits
lost = refl

unfinished : unfinished_text 4 ≡ codes "unfinished 4\n"
unfolding digits
unfinished = refl
