use Rattle.std.proofs.Common.{◌≡◌, ◌∙◌, length, refl, ap, arith}
use Rattle.std.proofs.lemmas.List.{length-map}
use Rattle.std.proofs.lemmas.List.FromFn.{length-range_with_len}
use Rattle.gr_edges.specs.Vertices.{ids, vertex_of}
use Rattle.gr_gen.specs.Generated.{vertex_count, vertices_below, edges_of, schedule_of}
use Rattle.gr_gen.proofs.Ends.{length-edges_of}
use Rattle.gr_job.specs.Job.{JobValues}
use Rattle.gr_job.specs.Values.{values_of}
use Rattle.gr_min.specs.Shortest.{shortest}
use Rattle.gr_cluster.specs.Load.{load}
use Rattle.gr_cluster.specs.Ending.{results_of}
use Rattle.gr_core.specs.Loaded.{setting_of}
use Rattle.gr_play.specs.Playing.{start}
use Rattle.imitate.specs.Running.{setting_in}
use Rattle.imitate.specs.Workload.{workload_job, sum_of, summary_text, IsSummary}
use Rattle.imitate.proofs.Playings.{loaded-fresh}
use Rattle.imitate.proofs.Workloads.{schedule-placed, begin-is, summary-is, if-ok}
use Rattle.imitate.proofs.workload.summary.Goals as goal

pub load-requires-clause-edges : goal.load-requires-clause-edges
load-requires-clause-edges g c =
    let count = ap length c.in_ok-graph.ensures.edges ∙ length-edges_of c.args.seed c.args.size in
    let few = c.requires in
    omega (arith, count, few)

pub load-requires-clause-vertices : goal.load-requires-clause-vertices
load-requires-clause-vertices g c =
    let vs = vertices_below c.args.size in
    let count = ap length c.in_ok-graph.ensures.vertices ∙ length-map vs (vertex_of (edges_of c.args.seed c.args.size)) ∙ length-range_with_len 0 (vertex_count c.args.size) in
    let few = c.requires in
    omega (arith, count, few)

pub play-ending-requires-clause-places : goal.play-ending-requires-clause-places
play-ending-requires-clause-places g c =
    let graph = c.in_ok-graph.graph in
    let fresh = loaded-fresh (shortest 0) (setting_of c.job-job.result) graph.edges (ids graph.vertices) _ c.in_ok-cluster.cluster c.in_ok-cluster.ensures.cluster in
    let places : c.in_ok-cluster.cluster.cluster.places ≡ workload_job.places = fresh.places_are ∙ ap (λ (v : JobValues). v.places) c.job-job.ensures in
    let lines : c.as_slice.result.now ≡ schedule_of c.args.seed = c.as_slice.ensures ∙ c.in_ok-lines.ensures in
    rw (places, lines) (schedule-placed c.args.seed)

pub play-ending-requires-clause-flight : goal.play-ending-requires-clause-flight
play-ending-requires-clause-flight g c =
    let graph = c.in_ok-graph.graph in
    (loaded-fresh (shortest 0) (setting_of c.job-job.result) graph.edges (ids graph.vertices) _ c.in_ok-cluster.cluster c.in_ok-cluster.ensures.cluster).flight

pub play-ending-requires-clause-serial : goal.play-ending-requires-clause-serial
play-ending-requires-clause-serial g c =
    let graph = c.in_ok-graph.graph in
    (loaded-fresh (shortest 0) (setting_of c.job-job.result) graph.edges (ids graph.vertices) _ c.in_ok-cluster.cluster c.in_ok-cluster.ensures.cluster).serial

pub play-ending-requires-clause-epoch : goal.play-ending-requires-clause-epoch
play-ending-requires-clause-epoch g c =
    let graph = c.in_ok-graph.graph in
    (loaded-fresh (shortest 0) (setting_of c.job-job.result) graph.edges (ids graph.vertices) _ c.in_ok-cluster.cluster c.in_ok-cluster.ensures.cluster).epoch

pub play-ending-requires-clause-commits : goal.play-ending-requires-clause-commits
play-ending-requires-clause-commits g c =
    let graph = c.in_ok-graph.graph in
    (loaded-fresh (shortest 0) (setting_of c.job-job.result) graph.edges (ids graph.vertices) _ c.in_ok-cluster.cluster c.in_ok-cluster.ensures.cluster).commits

pub returns-in-Done-clause-text : goal.returns-in-Done-clause-text
returns-in-Done-clause-text g c =
    let seed = c.args.seed in
    let size = c.args.size in
    let graph = c.in_ok-graph.graph in
    let job = values_of c.job-job.result in
    let ls = c.as_slice.result.now in
    let lines : ls ≡ schedule_of seed = c.as_slice.ensures ∙ c.in_ok-lines.ensures in
    let same = begin-is seed size job graph.edges graph.vertices ls c.job-job.ensures c.in_ok-graph.ensures.edges c.in_ok-graph.ensures.vertices lines in
    let events = c.play-ending.new.steps in
    let last = c.play-ending.new.cluster.cluster in
    let plays = rw c.in_ok-cluster.ensures.cluster at c.play-ending.ensures.steps in
    let whole = rw c.in_ok-cluster.ensures.cluster at c.in-Done.ensures.whole refl in
    if-ok c.line.result (λ text. text.items ≡ summary_text seed size last.coordinator.round events (sum_of (results_of last))) (λ text. IsSummary seed size text.items) c.line.ensures
    (λ text is. summary-is seed size c.requires (start (load (shortest 0) (setting_in job) graph.edges (ids graph.vertices)) ls) same events last plays whole text.items is)
