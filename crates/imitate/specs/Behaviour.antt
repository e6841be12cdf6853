-- What a call of the program answers, and what it leaves behind: its files, its output, its messages and its status.
use Rattle.std.specs.Prelude.{◌≡◌, ◌≢◌, ◌≤◌, ◌⊎◌, ℕ, List, [], ◌∷◌, Option, Some, None, IsTrue, IfSome}
use Rattle.std.specs.Option.{option_map_or}
use Rattle.gr_base.specs.Rising.{has}
use Rattle.gr_outside.specs.Causes.{Rose}
use Rattle.gr_outside.specs.Files.{FilesSeen, FilesTold}
use Rattle.gr_outside.specs.Sink.{SinkSeen, Gains}
use Rattle.imitate.specs.declared.ended.Ended.{Ended}
use Rattle.imitate.specs.declared.refusal.Refusal.{Refusal}
use Rattle.imitate.specs.declared.refusal.Refusal.TheVariants as refusal
use Rattle.imitate.specs.Words.{FileNames, Asked, nobody, names_in, asked_of}
use Rattle.imitate.specs.Refusals.{line_of, status_of}
use Rattle.imitate.specs.Running.{end_status}
use Rattle.imitate.specs.Contents.{KeepsFiles, KeepsAllBut, GainsPart}
use Rattle.imitate.specs.Outcome.{IsRefused, IsEnding, PlaysFinish, Prints, LeavesEnd, Fails}
use Rattle.imitate.specs.Losses.{PrintsTheLost, PrintsTheRounds, BearsItsLosses, HasFewCrashes}

-- the names that words give, or none
abbrev pub names_of : List (List ℕ) → FileNames
names_of words = option_map_or names_in (asked_of words) nobody

-- the statuses of want of memory, of a load that failed, of a file that is too long, of the trace and of the output
abbrev pub hindered : List ℕ
hindered = 1 ∷ 3 ∷ 4 ∷ 10 ∷ 11 ∷ []

-- the status is that of the refusal of the files, or of how what is asked for ends
pub record HasStatus (t : FilesTold) (code : ℕ) (asked : Asked) : Type 0 where
  pub refused : (why : Refusal) → IsRefused t asked why → code ≡ status_of why
  pub ended : (end : Ended) → IsEnding t asked end → code ≡ end_status end

-- every file is as before, but for the trace of `run`
abbrev pub KeepsUntraced : FilesSeen → FilesSeen → Option Asked → Type 0
KeepsUntraced files files' (Some (Asked.Run names)) = KeepsAllBut names.trace files files'
KeepsUntraced files files' other = KeepsFiles files files'

-- why there is no ending: the words are of no form, and nothing was done, or what was asked for failed
abbrev pub FailsAt : FilesSeen → FilesSeen → SinkSeen → SinkSeen → Option Asked → Refusal → Type 0
FailsAt files files' out out' None why = (why ≡ refusal.Usage) × (out' ≡ out) × KeepsFiles files files'
FailsAt files files' out out' (Some asked) why = Fails files files' out out' asked why

-- generated input is asked for
abbrev pub IsLoad : Asked → Type 0
IsLoad (Asked.Load seed size) = Unit {0}
IsLoad other = ⊥

module _ (files files' : FilesSeen) (out out' err err' : SinkSeen) (words : List (List ℕ)) (code : ℕ) where
  -- How it ended.
  pub record IsAnswered : Type 0 where
    -- 0: the output gained the result text of the synchronous rounds of the graph that is not cut, and nothing else, whatever
    -- places crashed; for `load` the line with the last of those rounds and their sum
    pub done : code ≡ 0 → IfSome (asked_of words) (Prints files out out')
    -- 8: it gained exactly the list of the vertices of which every copy was at a dead place, and there is one
    pub lost : code ≡ 8 → IfSome files.told (PrintsTheLost out out' (names_of words))
    -- 9: it gained the number of the committed rounds
    pub early : code ≡ 9 → IfSome files.told (PrintsTheRounds out out' (names_of words))
    -- 0, 8 and 9: the run of the files ends so, its text is on the output, and its trace in the trace file
    pub ended : (end : Ended) → code ≡ end_status end → IfSome (asked_of words) (λ asked. LeavesEnd files files' out out' asked end)
    -- and nothing is said
    pub quiet : (end : Ended) → code ≡ end_status end → err' ≡ err
    -- a run whose crashes are never more than the copies bear loses no vertex
    pub budget : IfSome (asked_of words) (λ asked. IfSome files.told (λ t. BearsItsLosses t asked → code ≢ 8))
    -- nor does one whose schedule has few crash lines
    pub few_crashes : IfSome (asked_of words) (λ asked. IfSome files.told (λ t. HasFewCrashes t asked → code ≢ 8))
    -- a run whose schedule has the last line `finish` never ends early
    pub finish : IfSome (asked_of words) (λ asked. IfSome files.told (λ t. PlaysFinish t asked → code ≢ 9))
    -- where memory, the files and the output served, the status is the one that the files have
    pub exact : IsTrue (has hindered code) ⊎ IfSome (asked_of words) (λ asked. IfSome files.told (λ t. HasStatus t code asked))

  -- Why it did not end: each status has its cause in this call.
  pub record IsCaused : Type 0 where
    pub usage : code ≡ 2 → asked_of words ≡ None
    pub no_form : asked_of words ≡ None → (code ≡ 2) ⊎ (code ≡ 1)
    pub unreadable : code ≡ 3 → Rose files.load_faults files'.load_faults
    pub too_long : code ≡ 4 → Rose files.long_loads files'.long_loads
    -- 5, 6 and 7: the graph, the job or the schedule is refused
    pub refused : 5 ≤ code → code ≤ 7
        → IfSome (asked_of words) (λ asked. IfSome files.told (λ t. (why : Refusal) × IsRefused t asked why × (code ≡ status_of why)))
    pub no_trace : code ≡ 10 → Rose files.write_faults files'.write_faults
    pub no_output : code ≡ 11 → Rose out.faults out'.faults
    -- `load` gives no status but 0, 1 and 11
    pub load : IfSome (asked_of words) (λ asked. IsLoad asked → IsTrue (has (0 ∷ 1 ∷ 11 ∷ []) code))

  -- A refusal, what was done till then, and what is said of it: its line, wholly but where the messages failed in this call.
  -- Where memory runs out while it is said the status is 1.
  pub record Explains (why : Refusal) : Type 0 where
    pub status : (code ≡ status_of why) ⊎ (code ≡ 1)
    pub fails : FailsAt files files' out out' (asked_of words) why
    pub part : GainsPart err err' (line_of (names_of words) why)
    pub whole : code ≢ 1 → Gains err err' (line_of (names_of words) why) ⊎ Rose err.faults err'.faults

  -- What it leaves behind.
  pub record LeavesBehind : Type 0 where
    -- it ended, or a refusal explains all
    pub explained : IsTrue (has (0 ∷ 8 ∷ 9 ∷ []) code) ⊎ ((why : Refusal) × Explains why)
    -- 2 to 7: nothing is on the output, and every file is as before
    pub untouched : 2 ≤ code → code ≤ 7 → (out' ≡ out) × KeepsFiles files files'
    -- every file but the trace is as before
    pub others : KeepsUntraced files files' (asked_of words)
