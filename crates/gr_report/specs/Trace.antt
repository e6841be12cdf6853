-- The line of a trace for an event and its outcome.
use Rattle.std.specs.Prelude.{ℕ, Bool, true, false, List, [], ◌∷◌, ◌++◌, Option, Some, None, flat_map, decimal, codes}
use Rattle.gr_program.specs.declared.copy.VertexCopy.{VertexCopy}
use Rattle.gr_batch.specs.declared.stage.Stage.{Stage}
use Rattle.gr_batch.specs.declared.stage.Stage.TheVariants as stage
use Rattle.gr_batch.specs.declared.body.Part.{Part}
use Rattle.gr_batch.specs.declared.body.NewValue.{NewValue}
use Rattle.gr_batch.specs.declared.body.Body.{Body}
use Rattle.gr_batch.specs.declared.body.Body.TheVariants as body
use Rattle.gr_batch.specs.declared.batch.Batch.{Batch}
use Rattle.gr_batch.specs.declared.outcome.Fate.{Fate}
use Rattle.gr_batch.specs.declared.outcome.Fate.TheVariants as fate
use Rattle.gr_batch.specs.declared.outcome.Outcome.{Outcome}
use Rattle.gr_batch.specs.declared.outcome.Outcome.TheVariants as outcome
use Rattle.gr_batch.specs.Bodies.{stage_of_body}
use Rattle.gr_batch.specs.Telling.{Telling}
use Rattle.gr_sched.specs.declared.event.Event.{Event}
use Rattle.gr_sched.specs.declared.event.Event.TheVariants as event
use Rattle.gr_sched.specs.Words.{word}
use Rattle.gr_sched.specs.EventText.{words, rebirth_text, event_text}

abbrev pub stage_text : Stage → List ℕ
stage_text stage.Gather = codes "gather"
stage_text stage.Update = codes "update"
stage_text stage.Signal = codes "signal"
stage_text stage.Call = codes "call"
stage_text stage.Ask = codes "ask"
stage_text stage.Grant = codes "grant"
stage_text stage.End = codes "end"

abbrev pub fate_text : Fate → List ℕ
fate_text fate.Taken = codes "taken"
fate_text fate.Stale = codes "stale"
fate_text fate.Down = codes "down"

-- numbers joined by commas, as a datum and a set of holders are told
abbrev pub comma_text : List ℕ → List ℕ
comma_text [] = []
comma_text (n ∷ ns) = decimal n ++ flat_map (λ k. codes "," ++ decimal k) ns

abbrev pub mark_text : Bool → List ℕ
mark_text true = codes "1"
mark_text false = codes "0"

-- an item: a blank and its fields, joined by colons
abbrev pub item_text : ℕ → List (List ℕ) → List ℕ
item_text v fields = word v ++ flat_map (λ f. codes ":" ++ f) fields

-- the place of an event
abbrev pub place_of_event : Event → ℕ
place_of_event (event.Work p) = p
place_of_event (event.Crash p n) = p
place_of_event _ = 0

abbrev pub work_text : Event → List ℕ
work_text e = codes "work" ++ word (place_of_event e)

-- a recovery names the places that start anew
abbrev pub opened_text : Event → ℕ → List ℕ
opened_text (event.Recover ps) n = codes "recover epoch" ++ word n ++ rebirth_text ps
opened_text _ n = codes "repair epoch" ++ word n

-- a value that is not kept is told by a dash
abbrev pub kept_text : {V : Type 0} → (V → List ℕ) → Option V → List ℕ
kept_text numbers None = codes "-"
kept_text numbers (Some x) = comma_text (numbers x)

-- an item of a body
abbrev pub part_text : {A : Type 0} → (A → List ℕ) → Part A → List ℕ
part_text numbers x = item_text x.vertex (comma_text (numbers x.acc) ∷ [])

abbrev pub new_text : {V : Type 0} → (V → List ℕ) → NewValue V → List ℕ
new_text numbers x = item_text x.vertex (comma_text (numbers x.value) ∷ mark_text x.wake ∷ [])

abbrev pub copy_text : {V : Type 0} → (V → List ℕ) → VertexCopy V → List ℕ
copy_text numbers c =
    item_text c.vertex (decimal c.indeg ∷ decimal c.outdeg ∷ decimal c.master ∷ comma_text c.holders ∷ kept_text numbers c.value ∷ mark_text c.due ∷ [])

module _ {V A : Type 0} (T : Telling V A) where
  -- the items of a body
  abbrev pub body_text : Body V A → List ℕ
  body_text (body.Gather xs) = flat_map (part_text T.sum_numbers) xs
  body_text (body.Update xs) = flat_map (new_text T.value_numbers) xs
  body_text (body.Signal xs) = words xs
  body_text (body.Call xs) = words xs
  body_text (body.Ask xs) = words xs
  body_text (body.Grant xs) = flat_map (copy_text T.value_numbers) xs

  abbrev pub delivered_text : Batch V A → Fate → List ℕ
  delivered_text b f =
      codes "delivered" ++ word b.serial ++ codes " from" ++ word b.sender ++ codes " to" ++ word b.receiver ++ codes " epoch" ++ word b.epoch ++ codes " round" ++ word b.round ++ codes " " ++ stage_text (stage_of_body b.body) ++ codes " " ++ fate_text f ++ body_text b.body

  -- the line of a trace, without its end
  abbrev pub outcome_text : Event → Outcome V A → List ℕ
  outcome_text e outcome.Idle = event_text e ++ codes " idle"
  outcome_text e (outcome.Installed c) = work_text e ++ codes " install" ++ word c
  outcome_text e (outcome.Adopted n) = work_text e ++ codes " adopt" ++ word n
  outcome_text e (outcome.Computed s) = work_text e ++ codes " compute " ++ stage_text s
  outcome_text e (outcome.Sent n s q) = work_text e ++ codes " send" ++ word n ++ codes " " ++ stage_text s ++ codes " to" ++ word q
  outcome_text e (outcome.Appended b) = work_text e ++ codes " append" ++ word b
  outcome_text e (outcome.Ready d) = work_text e ++ codes " ready" ++ word d
  outcome_text e (outcome.Waiting s q) = work_text e ++ codes " wait " ++ stage_text s ++ word q
  outcome_text e (outcome.Delivered b f) = delivered_text b f
  outcome_text e (outcome.Dropped n) = codes "dropped" ++ word n
  outcome_text e (outcome.Crashed n) = codes "crash" ++ word (place_of_event e) ++ codes " kept" ++ word n
  outcome_text e (outcome.Failed ps) = codes "barrier failed" ++ words ps
  outcome_text e (outcome.Committed c r d) = codes "barrier committed" ++ word c ++ codes " round" ++ word r ++ codes " due" ++ word d
  outcome_text e (outcome.NotReady p) = codes "barrier notready" ++ word p
  outcome_text e (outcome.Opened n) = opened_text e n
  outcome_text e (outcome.LostFound n) = codes "recover lost" ++ word n
  outcome_text e (outcome.Discarded n) = codes "discard epoch" ++ word n

  -- the whole line
  abbrev pub outcome_line : Event → Outcome V A → List ℕ
  outcome_line e o = outcome_text e o ++ codes "\n"
