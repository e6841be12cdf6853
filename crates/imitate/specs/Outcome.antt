-- What a command comes to over the files as they are: a result, an ending, or a refusal.
use Rattle.std.specs.Prelude.{◌≡◌, ◌⊎◌, ℕ, List, [], ◌∷◌, ◌++◌, Option, Some, None, Result, Ok, Err, IfOk, IfErr, IfSome}
use Rattle.gr_outside.specs.Causes.{Rose}
use Rattle.gr_outside.specs.Files.{FilesSeen, FilesTold, bytes_of}
use Rattle.gr_outside.specs.Sink.{SinkSeen, Gains}
use Rattle.gr_sched.specs.declared.event.Line.{Line}
use Rattle.gr_sched.specs.declared.event.Line.TheVariants as line
use Rattle.gr_play.specs.Tracing.{Traces, TracesPart}
use Rattle.imitate.specs.declared.ended.Ended.{Ended}
use Rattle.imitate.specs.declared.ended.Ended.TheVariants as ended
use Rattle.imitate.specs.declared.refusal.Refusal.{Refusal}
use Rattle.imitate.specs.declared.refusal.Refusal.TheVariants as refusal
use Rattle.imitate.specs.Words.{FileNames, Asked, names_in}
use Rattle.imitate.specs.Reading.{Plan, reply_of, plan_of}
use Rattle.imitate.specs.Running.{IsWholeAfter, run_trace, run_end, run_text}
use Rattle.imitate.specs.Refusals.{NamesInput}
use Rattle.imitate.specs.Contents.{KeepsFiles, GainsPart}
use Rattle.imitate.specs.LoadCauses.{IsLoadCause}
use Rattle.imitate.specs.Workload.{IsSummary}

-- what files say, where each of them is there
abbrev pub of_two : {A : Type 0} → (List ℕ → List ℕ → A) → Option (List ℕ) → Option (List ℕ) → Option A
of_two f (Some a) (Some b) = Some (f a b)
of_two f _ _ = None

abbrev pub of_three : {A : Type 0} → (List ℕ → List ℕ → List ℕ → A) → Option (List ℕ) → Option (List ℕ) → Option (List ℕ) → Option A
of_three f (Some a) (Some b) (Some c) = Some (f a b c)
of_three f _ _ _ = None

-- the result text that the files of these names have as they stand, or why they are refused; none where one is missing
abbrev pub reply_to : FilesTold → FileNames → Option (Result (List ℕ) Refusal)
reply_to t names = of_two reply_of (bytes_of t.files names.graph) (bytes_of t.files names.job)

-- what they say with their schedule
abbrev pub plan_to : FilesTold → FileNames → Option (Result Plan Refusal)
plan_to t names = of_three plan_of (bytes_of t.files names.graph) (bytes_of t.files names.job) (bytes_of t.files names.schedule)

-- they are accepted, and their run has no further step after so many
pub record IsRun (t : FilesTold) (names : FileNames) (plan : Plan) (steps : ℕ) : Type 0 where
  pub accepted : plan_to t names ≡ Some (Ok plan)
  pub whole : IsWholeAfter plan steps

-- the files that are asked for are all there, and are refused
abbrev pub IsRefused : FilesTold → Asked → Refusal → Type 0
IsRefused t (Asked.Plain names) why = reply_to t names ≡ Some (Err why)
IsRefused t (Asked.Run names) why = plan_to t names ≡ Some (Err why)
IsRefused t (Asked.Load seed size) why = ⊥

-- what is asked for ends so: the rounds of the graph that is not cut are always done, and so is generated input
abbrev pub IsEnding : FilesTold → Asked → Ended → Type 0
IsEnding t (Asked.Plain names) end = (end ≡ ended.Done) × (text : List ℕ) × (reply_to t names ≡ Some (Ok text))
IsEnding t (Asked.Run names) end = (plan : Plan) × (steps : ℕ) × IsRun t names plan steps × (run_end plan steps ≡ end)
IsEnding t (Asked.Load seed size) end = end ≡ ended.Done

-- it prints this text
abbrev pub IsText : FilesTold → Asked → List ℕ → Type 0
IsText t (Asked.Plain names) text = reply_to t names ≡ Some (Ok text)
IsText t (Asked.Run names) text = (plan : Plan) × (steps : ℕ) × IsRun t names plan steps × (text ≡ run_text plan steps)
IsText t (Asked.Load seed size) text = IsSummary seed size text

-- it plays a schedule whose last line is `finish`
abbrev pub PlaysFinish : FilesTold → Asked → Type 0
PlaysFinish t (Asked.Run names) = (plan : Plan) × (before : List Line) × (plan_to t names ≡ Some (Ok plan)) × (plan.lines ≡ before ++ line.Finish ∷ [])
PlaysFinish t other = ⊥

-- the output gained the result text of the files, and nothing else
abbrev pub Shows : FilesSeen → SinkSeen → SinkSeen → FileNames → Type 0
Shows files before after names = IfSome files.told (λ t. (text : List ℕ) × (reply_to t names ≡ Some (Ok text)) × Gains before after text)

-- what is on the output where it is done: the result, or the line of generated input, and nothing else
abbrev pub Prints : FilesSeen → SinkSeen → SinkSeen → Asked → Type 0
Prints files before after (Asked.Load seed size) = (text : List ℕ) × IsSummary seed size text × Gains before after text
Prints files before after asked = Shows files before after (names_in asked)

-- the output gained a first part of what is printed
abbrev pub ShowsPart : FilesSeen → SinkSeen → SinkSeen → Asked → Type 0
ShowsPart files before after asked = IfSome files.told (λ t. (text : List ℕ) × IsText t asked text × GainsPart before after text)

-- the trace file has the trace of the whole run
abbrev pub TracesRun : FilesSeen → FilesSeen → FileNames → Type 0
TracesRun before after names =
    IfSome before.told (λ t. (plan : Plan) × (steps : ℕ) × IsRun t names plan steps × Traces before after names.trace (run_trace plan steps))

-- the trace file has a first part of the trace of some first steps, once it is begun
abbrev pub TracesSome : FilesSeen → FilesSeen → FileNames → Type 0
TracesSome before after names =
    IfSome before.told (λ t. (plan : Plan) × (steps : ℕ) × (plan_to t names ≡ Some (Ok plan)) × TracesPart before after names.trace (run_trace plan steps))

-- A run that ended so: after so many steps it has no further one, its text is on the output, and its trace in the trace file.
pub record Ends (files files' : FilesSeen) (out out' : SinkSeen) (names : FileNames) (end : Ended) (t : FilesTold) : Type 0 where
  pub plan : Plan
  pub steps : ℕ
  pub run : IsRun t names plan steps
  pub ended : run_end plan steps ≡ end
  pub printed : Gains out out' (run_text plan steps)
  pub traced : Traces files files' names.trace (run_trace plan steps)

module _ (files files' : FilesSeen) (out out' : SinkSeen) where
  -- what an ending leaves: `plain` and `load` are done and change no file
  abbrev pub LeavesEnd : Asked → Ended → Type 0
  LeavesEnd (Asked.Plain names) end = (end ≡ ended.Done) × KeepsFiles files files'
  LeavesEnd (Asked.Run names) end = IfSome files.told (Ends files files' out out' names end)
  LeavesEnd (Asked.Load seed size) end = (end ≡ ended.Done) × KeepsFiles files files'

  -- why there is no ending: memory ran out; the load of a named input, the trace or the output failed in this call; or the
  -- files are refused
  abbrev pub IsCausedBy : Asked → Refusal → Type 0
  IsCausedBy asked refusal.OutOfMemory = Unit {0}
  IsCausedBy asked refusal.Usage = ⊥
  IsCausedBy asked (refusal.Unreadable input) = NamesInput asked input × IsLoadCause files files' (names_in asked) (refusal.Unreadable input)
  IsCausedBy asked (refusal.TooLong input) = NamesInput asked input × IsLoadCause files files' (names_in asked) (refusal.TooLong input)
  IsCausedBy (Asked.Plain names) refusal.Trace = ⊥
  IsCausedBy (Asked.Load seed size) refusal.Trace = ⊥
  IsCausedBy asked refusal.Trace = Rose files.write_faults files'.write_faults
  IsCausedBy asked refusal.Output = Rose out.faults out'.faults
  IsCausedBy (Asked.Load seed size) other = ⊥
  IsCausedBy asked other = IfSome files.told (λ t. IsRefused t asked other)

  -- what is on the output then: nothing further, or a first part of the text where memory or the output failed
  abbrev pub LeavesOutput : Asked → Refusal → Type 0
  LeavesOutput asked refusal.OutOfMemory = (out' ≡ out) ⊎ ShowsPart files out out' asked
  LeavesOutput asked refusal.Output = ShowsPart files out out' asked
  LeavesOutput asked other = out' ≡ out

  -- what is in the files then: `run` may have begun its trace where memory, the trace or the output failed
  abbrev pub LeavesFiles : Asked → Refusal → Type 0
  LeavesFiles (Asked.Run names) refusal.OutOfMemory = KeepsFiles files files' ⊎ TracesSome files files' names
  LeavesFiles (Asked.Run names) refusal.Trace = TracesSome files files' names
  LeavesFiles (Asked.Run names) refusal.Output = TracesRun files files' names
  LeavesFiles asked other = KeepsFiles files files'

  -- no ending, and its cause
  pub record Fails (asked : Asked) (why : Refusal) : Type 0 where
    pub cause : IsCausedBy asked why
    pub output : LeavesOutput asked why
    pub left : LeavesFiles asked why

  -- one command
  pub record Answers (asked : Asked) (result : Result Ended Refusal) : Type 0 where
    pub shown : IfOk result (λ end. end ≡ ended.Done → Prints files out out' asked)
    pub ends : IfOk result (LeavesEnd asked)
    pub fails : IfErr result (Fails asked)
