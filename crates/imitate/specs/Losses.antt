-- What is printed of a run that is not done: the vertices that are lost, or the rounds that are committed.
use Rattle.std.specs.Prelude.{◌≡◌, ◌≢◌, ◌<◌, ◌≤◌, ℕ, List, [], Some, Ok, map}
use Rattle.std.specs.List.{filter}
use Rattle.gr_base.specs.Rising.{includes}
use Rattle.gr_outside.specs.Files.{FilesTold}
use Rattle.gr_outside.specs.Sink.{SinkSeen, Gains}
use Rattle.gr_cluster.specs.Tables.{Cluster}
use Rattle.gr_cluster.specs.Directory.{directory_of}
use Rattle.gr_cluster.specs.Budget.{IsWithinBudget}
use Rattle.gr_law_runs.specs.CrashLines.{crash_lines}
use Rattle.gr_report.specs.Endings.{lost_text, unfinished_text}
use Rattle.imitate.specs.Words.{FileNames, Asked}
use Rattle.imitate.specs.Reading.{Plan}
use Rattle.imitate.specs.Running.{program_in, begin, cluster_after}
use Rattle.imitate.specs.Outcome.{plan_to, IsRun}

-- the vertices of which every copy was at a place that is dead
abbrev pub vertices_lost : {V A : Type 0} → Cluster V A → List ℕ
vertices_lost c = map (λ e. e.vertex) (filter (λ e. includes c.coordinator.dead e.holders) (directory_of c))

module _ (before after : SinkSeen) (names : FileNames) (t : FilesTold) where
  -- the run of the files has lost vertices: the output gained exactly their list, and there is one; the cluster knew the
  -- places of the copies of each vertex of the graph
  pub record PrintsTheLost : Type 0 where
    pub plan : Plan
    pub steps : ℕ
    pub run : IsRun t names plan steps
    pub printed : Gains before after (lost_text (vertices_lost (cluster_after plan steps)))
    pub some : vertices_lost (cluster_after plan steps) ≢ []
    pub all : map (λ e. e.vertex) (directory_of (cluster_after plan steps)) ≡ plan.task.vertices

  -- the schedule of the files ended early: the output gained the number of the rounds that were committed
  pub record PrintsTheRounds : Type 0 where
    pub plan : Plan
    pub steps : ℕ
    pub run : IsRun t names plan steps
    pub printed : Gains before after (unfinished_text (cluster_after plan steps).coordinator.round)

-- the crashes of the run of the files are never more than the copies bear
abbrev pub BearsItsLosses : FilesTold → Asked → Type 0
BearsItsLosses t (Asked.Run names) = (plan : Plan) × (plan_to t names ≡ Some (Ok plan)) × IsWithinBudget (program_in plan).program (begin plan)
BearsItsLosses t other = ⊥

-- the schedule of the files has at most as many crash lines as the job is to bear losses, and fewer than there are places
abbrev pub HasFewCrashes : FilesTold → Asked → Type 0
HasFewCrashes t (Asked.Run names) =
    (plan : Plan) × (plan_to t names ≡ Some (Ok plan)) × (crash_lines plan.lines ≤ plan.task.job.losses) × (crash_lines plan.lines < plan.task.job.places)
HasFewCrashes t other = ⊥
