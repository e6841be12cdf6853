-- What a run that ended has printed: the result, the lost vertices or the committed rounds.
use Rattle.std.proofs.Common.{◌≡◌, ◌≢◌, ◌∙◌, ℕ, List, map, Some, Ok, refl, sym, ap, subst, map-id}
use Rattle.std.proofs.lemmas.Simd.{map-map}
use Rattle.gr_base.specs.declared.records.Edge.{Edge}
use Rattle.gr_outside.specs.Files.{FilesSeen, FilesTold, bytes_of}
use Rattle.gr_outside.specs.Sink.{SinkSeen, Gains}
use Rattle.gr_log.specs.Directory.{Entry}
use Rattle.gr_view.specs.declared.coordinator.Mode.{Mode}
use Rattle.gr_view.specs.declared.coordinator.Mode.TheVariants as mode
use Rattle.gr_cluster.specs.Tables.{Cluster}
use Rattle.gr_cluster.specs.GraphIn.{Degrees, LoggedGraph, graph_of, graph_in}
use Rattle.gr_cluster.specs.Directory.{directory_of}
use Rattle.gr_cluster.specs.Budget.{IsWithinBudget}
use Rattle.gr_cluster.specs.Ending as cluster
use Rattle.gr_report.specs.Endings.{lost_text}
use Rattle.gr_law_runs.proofs.Bounds.Crashes.{few-borne}
use Rattle.gr_law_runs.proofs.Ends.Runs.{run-stays}
use Rattle.imitate.specs.declared.ended.Ended.{Ended}
use Rattle.imitate.specs.declared.ended.Ended.TheVariants as ended
use Rattle.imitate.specs.Words.{FileNames, Asked}
use Rattle.imitate.specs.Reading.{Plan, result_of}
use Rattle.imitate.specs.Running.{ended_by, setting_in, program_in, begin, cluster_after}
use Rattle.imitate.specs.Outcome.{reply_to, Ends}
use Rattle.imitate.specs.Losses.{PrintsTheLost, PrintsTheRounds, BearsItsLosses, HasFewCrashes}
use Rattle.imitate.specs.Headline.{IsRunnable, EndsRightly}
use Rattle.imitate.proofs.Accepted.{files-runnable, runnable-ends}
use Rattle.imitate.proofs.Readings.{plan_to-reply}

-- ---- how a run ended is the mode of its last cluster

module _ {V A : Type 0} (c : Cluster V A) where
  ended-done : (m : Mode) → ended_by (cluster.ending_by c m) ≡ ended.Done → m ≡ mode.Done
  ended-done mode.Done e = refl
  ended-done mode.Lost e = absurd (cc)
  ended-done mode.Running e = absurd (cc)
  ended-done mode.Failed e = absurd (cc)
  ended-done mode.Recovering e = absurd (cc)
  ended-done mode.Repairing e = absurd (cc)

  ended-lost : (m : Mode) → ended_by (cluster.ending_by c m) ≡ ended.Lost → m ≡ mode.Lost
  ended-lost mode.Lost e = refl
  ended-lost mode.Done e = absurd (cc)
  ended-lost mode.Running e = absurd (cc)
  ended-lost mode.Failed e = absurd (cc)
  ended-lost mode.Recovering e = absurd (cc)
  ended-lost mode.Repairing e = absurd (cc)

  ended-early : (m : Mode) → ended_by (cluster.ending_by c m) ≡ ended.Early → (m ≢ mode.Done) × (m ≢ mode.Lost)
  ended-early m e = (
    (λ done. let bad : ended.Done ≡ ended.Early = sym (ap (λ (k : Mode). ended_by (cluster.ending_by c k)) done) ∙ e in cc),
    (λ lost. let bad : ended.Lost ≡ ended.Early = sym (ap (λ (k : Mode). ended_by (cluster.ending_by c k)) lost) ∙ e in cc),
  )

  -- the directory has each vertex of the graph that the logs say
  directory-all : (es : List Edge) (vs : List ℕ) → graph_in c ≡ graph_of es vs → map (λ e. e.vertex) (directory_of c) ≡ vs
  unfolding graph_in
  directory-all es vs says =
      let numbers : List Degrees → List ℕ = map (λ (d : Degrees). d.vertex) in
      sym (map-map (λ (d : Degrees). d.vertex) (λ (e : Entry). record { vertex = e.vertex; indeg = e.indeg; outdeg = e.outdeg }) (directory_of c))
      ∙ ap (λ (g : LoggedGraph). numbers g.vertices) says
      ∙ map-map (λ (d : Degrees). d.vertex) _ vs
      ∙ map-id vs

-- ---- a run over files that tell their content

module _ (files files' : FilesSeen) (out out' : SinkSeen) (names : FileNames) (t : FilesTold) (end : Ended) (E : Ends files files' out out' names end t) where
  runnable : IsRunnable E.plan
  runnable = files-runnable (bytes_of t.files names.graph) (bytes_of t.files names.job) (bytes_of t.files names.schedule) E.plan E.run.accepted

  rightly : EndsRightly E.plan E.steps
  rightly = runnable-ends E.plan runnable E.steps E.run.whole

  abbrev last : Cluster (program_in E.plan).Value (program_in E.plan).Sum
  last = cluster_after E.plan E.steps

  is-lost : end ≡ ended.Lost → last.coordinator.mode ≡ mode.Lost
  is-lost lost = ended-lost last last.coordinator.mode (E.ended ∙ lost)

  pub shows-result : end ≡ ended.Done → (text : List ℕ) × (reply_to t names ≡ Some (Ok text)) × Gains out out' text
  shows-result done = (
    result_of E.plan.task,
    plan_to-reply (bytes_of t.files names.graph) (bytes_of t.files names.job) (bytes_of t.files names.schedule) E.plan E.run.accepted,
    subst (Gains out out') (rightly.done (ended-done last last.coordinator.mode (E.ended ∙ done))) E.printed,
  )

  pub prints-lost : end ≡ ended.Lost → PrintsTheLost out out' names t
  prints-lost lost =
      let m = is-lost lost in
      let exact = rightly.lost.exact m in
      record {
        plan = E.plan;
        steps = E.steps;
        run = E.run;
        printed = subst (Gains out out') (rightly.lost.told m ∙ ap lost_text exact) E.printed;
        some = λ none. rightly.lost.some m (exact ∙ none);
        all = directory-all last E.plan.task.edges E.plan.task.vertices
            (run-stays (program_in E.plan).program runnable.laws (setting_in E.plan.task.job) E.plan.task.edges E.plan.task.vertices runnable.setting runnable.graph E.plan.lines runnable.lines E.steps).logs;
      }

  pub prints-rounds : end ≡ ended.Early → PrintsTheRounds out out' names t
  prints-rounds early =
      let m = ended-early last last.coordinator.mode (E.ended ∙ early) in
      record { plan = E.plan; steps = E.steps; run = E.run; printed = subst (Gains out out') (rightly.early m.0 m.1) E.printed }

  pub never-lost : BearsItsLosses t (Asked.Run names) → end ≢ ended.Lost
  never-lost bears lost =
      let plan : Plan = bears.0 in
      let accepted : Some (Ok plan) ≡ Some (Ok E.plan) = sym bears.1 ∙ E.run.accepted in
      let same : plan ≡ E.plan = cc in
      rightly.budget (subst (λ (p : Plan). IsWithinBudget (program_in p).program (begin p)) same bears.2) (is-lost lost)

  -- few crash lines are within the budget
  pub few-bear : HasFewCrashes t (Asked.Run names) → BearsItsLosses t (Asked.Run names)
  few-bear H =
      let plan : Plan = H.0 in
      let R = files-runnable (bytes_of t.files names.graph) (bytes_of t.files names.job) (bytes_of t.files names.schedule) plan H.1 in
      (plan, H.1, few-borne (program_in plan).program R.laws (setting_in plan.task.job) plan.task.edges plan.task.vertices plan.lines R.setting R.graph R.lines H.2 H.3)
