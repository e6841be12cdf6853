-- What a place does next in a round or in a rebuild, as its code names it.
use Rattle.std.specs.Prelude.{◌≡◌, ◌↔◌, ℕ, Bool, true, false, not, IsTrue, IsSome, List, if◌then◌else◌}
use Rattle.gr_base.specs.Places.{without_place}
use Rattle.gr_batch.specs.declared.batch.Batch.{Batch}
use Rattle.gr_batch.specs.Stages.{is_end}
use Rattle.gr_rules.specs.Exchange.{Exchange, needed, unsent}
use Rattle.gr_rules.specs.Todo.{Todo, compute_or_wait, send_or_rest}
use Rattle.gr_round.specs.declared.step.Step.{Step}
use Rattle.gr_round.specs.declared.step.Step.TheVariants as step
use Rattle.gr_round.specs.declared.view.RoundView.{RoundView}
use Rattle.gr_round.specs.Line.{RoundLine}

abbrev pub todo_of : Step → Todo
todo_of step.Compute = Todo.Compute
todo_of (step.Send q) = Todo.Send q
todo_of step.Append = Todo.Append
todo_of step.Report = Todo.Report
todo_of (step.Wait s q) = Todo.Wait s q
todo_of step.Rest = Todo.Rest

-- the place that it sends to, if it sends
abbrev pub place_to : Step → ℕ
place_to (step.Send q) = q
place_to _ = 0

-- a stage other than the end that is computed has a party left to send to
abbrev pub AwaitsSending : List ℕ → Exchange → Type 0
AwaitsSending others x = IsTrue x.computed → is_end x.stage ≡ false → IsSome (unsent others x.sent)

-- in a round, at a place that has adopted its epoch
unfoldable pub todo_in_round : {V A : Type 0} → List (Batch V A) → ℕ → List ℕ → Exchange → Bool → Todo
todo_in_round inbox e others x reported =
    if not x.computed then compute_or_wait inbox e others (needed false x.stage)
    else if not (is_end x.stage) then send_or_rest (unsent others x.sent)
    else if not reported then Todo.Report
    else Todo.Rest

-- what the place p does next, by the view, its inbox and its line
abbrev pub next_at : {V A : Type 0} → ℕ → RoundView → List (Batch V A) → RoundLine → Todo
next_at p w inbox l = todo_in_round inbox w.epoch (without_place w.parties p) l.exchange l.reported

-- where it has a party left to send to, it rests exactly once it has reported
abbrev pub RestsOnceReported : {V A : Type 0} → ℕ → RoundView → List (Batch V A) → RoundLine → Type 0
RestsOnceReported p w inbox l = AwaitsSending (without_place w.parties p) l.exchange → (next_at p w inbox l ≡ Todo.Rest) ↔ IsTrue l.reported

-- in a rebuild, at a place that has adopted its epoch: like in a round, but it appends to its log before it reports
unfoldable pub todo_in_rebuild : {V A : Type 0} → List (Batch V A) → ℕ → List ℕ → Exchange → Bool → Bool → Todo
todo_in_rebuild inbox e others x appended reported =
    if not x.computed then compute_or_wait inbox e others (needed true x.stage)
    else if not (is_end x.stage) then send_or_rest (unsent others x.sent)
    else if not appended then Todo.Append
    else if not reported then Todo.Report
    else Todo.Rest

-- it only tells something: that it waits, rests, or is ready
abbrev pub is_told : Todo → Bool
is_told (Todo.Wait s q) = true
is_told Todo.Report = true
is_told Todo.Rest = true
is_told _ = false
