-- What is to be proved of every whole run from load.
use Rattle.std.specs.Prelude.{ℕ, ◌≡◌, ◌≢◌, ◌⊎◌, false, not, IsTrue, List, [], ◌∷◌, ◌++◌, map}
use Rattle.std.specs.List.{filter, list_any, AllByRecursion as Each}
use Rattle.gr_base.specs.declared.records.Edge.{Edge}
use Rattle.gr_base.specs.Rising.{has, includes}
use Rattle.gr_program.specs.Program.{Program}
use Rattle.gr_program.specs.ProgramLaws.{ProgramLaws}
use Rattle.gr_program.specs.Result.{result_text}
use Rattle.gr_sched.specs.declared.event.Line.{Line}
use Rattle.gr_sched.specs.declared.event.Line.TheVariants as line
use Rattle.gr_view.specs.declared.coordinator.Mode.TheVariants as mode
use Rattle.gr_cluster.specs.Tables.{Cluster}
use Rattle.gr_cluster.specs.Load.{Setting, load}
use Rattle.gr_cluster.specs.Directory.{directory_of}
use Rattle.gr_cluster.specs.Step.{lost_list}
use Rattle.gr_cluster.specs.Runs.{Played, IsRun}
use Rattle.gr_cluster.specs.Budget.{IsWithinBudget}
use Rattle.gr_cluster.specs.Ending.{ending_of, ending_text}
use Rattle.gr_report.specs.Endings.{lost_text, unfinished_text}
use Rattle.gr_agree.specs.Accepted.{IsGraph, IsSetting, NamesPlacesAt}

-- a whole run of a lawful program on an accepted graph, job and schedule, which ends with this cluster
pub record IsRunFromLoad {V A : Type 0} (P : Program V A) (s : Setting) (es : List Edge) (vs : List ℕ) (ls : List Line) (played : List (Played V A)) (end : Cluster V A) : Type 0 where
  pub laws : ProgramLaws P
  pub setting : IsSetting s
  pub graph : IsGraph es vs
  pub lines : Each NamesPlacesAt ls
  pub run : IsRun P (record { cluster = load P s es vs; lines = ls }) played end

module _ {V A : Type 0} (P : Program V A) (text : V → List ℕ) (s : Setting) (es : List Edge) (vs : List ℕ) (ls : List Line) (end : Cluster V A) where
  abbrev pub printed : List ℕ
  printed = ending_text text end (ending_of end)

  -- Done: it prints exactly the result of the synchronous rounds of the graph that is not cut.
  abbrev pub PrintsTheResult : Type 0
  PrintsTheResult = end.coordinator.mode ≡ mode.Done → printed ≡ result_text P text es vs s.limit

  -- Lost: it names exactly the vertices of the graph all of whose holders are dead, and there is one.
  pub record NamesTheLost : Type 0 where
    pub told : end.coordinator.mode ≡ mode.Lost → printed ≡ lost_text (lost_list end)
    pub exact : end.coordinator.mode ≡ mode.Lost → lost_list end ≡ map (λ e. e.vertex) (filter (λ e. includes end.coordinator.dead e.holders) (directory_of end))
    pub some : end.coordinator.mode ≡ mode.Lost → lost_list end ≢ []
    -- the directory has an entry of each vertex of the loaded graph, and no other
    pub whole : map (λ e. e.vertex) (directory_of end) ≡ vs
    -- no live place holds a vertex that is named
    pub no_live_holder : end.coordinator.mode ≡ mode.Lost → Each (λ e. IsTrue (has (lost_list end) e.vertex) → list_any (has end.coordinator.live) e.holders ≡ false) (directory_of end)
    -- each other vertex has a holder that is not dead
    pub others_held : end.coordinator.mode ≡ mode.Lost → Each (λ e. has (lost_list end) e.vertex ≡ false → IsTrue (list_any (λ p. not (has end.coordinator.dead p)) e.holders)) (directory_of end)

  -- Neither: it says that the schedule ended early, and after how many rounds.
  abbrev pub TellsAnEarlyEnd : Type 0
  TellsAnEarlyEnd = end.coordinator.mode ≢ mode.Done → end.coordinator.mode ≢ mode.Lost → printed ≡ unfinished_text end.coordinator.round

  -- Nothing is lost within the budget of losses.
  abbrev pub LosesNothingWithinBudget : Type 0
  LosesNothingWithinBudget = IsWithinBudget P (record { cluster = load P s es vs; lines = ls }) → end.coordinator.mode ≢ mode.Lost

  -- A schedule whose last line is `finish` never ends early.
  abbrev pub FinishNeverEndsEarly : Type 0
  FinishNeverEndsEarly = (before : List Line) → ls ≡ before ++ line.Finish ∷ [] → (end.coordinator.mode ≡ mode.Done) ⊎ (end.coordinator.mode ≡ mode.Lost)

  pub record EndsAsItMust : Type 0 where
    pub done : PrintsTheResult
    pub lost : NamesTheLost
    pub early : TellsAnEarlyEnd
    pub budget : LosesNothingWithinBudget
    pub finish : FinishNeverEndsEarly

-- For every lawful program, accepted graph, job and schedule, however its events interleave, the whole run ends as it must.
abbrev pub Headline : (V A : Type 0) → Type 0
Headline V A =
    (P : Program V A) (text : V → List ℕ) (s : Setting) (es : List Edge) (vs : List ℕ) (ls : List Line) (played : List (Played V A)) (end : Cluster V A)
    → IsRunFromLoad P s es vs ls played end → EndsAsItMust P text s es vs ls end
