-- The run of generated input: it is always done, with the rounds and the distances of the graph that is not cut.
use Rattle.std.proofs.Common.{◌≡◌, ◌≤◌, ◌<◌, ◌+◌, ◌^◌, ◌%◌, ℕ, List, [], ◌∷◌, length, take, get_or, map, min, true, Result, Ok, Err, refl, sym, ap, ◌∙◌, subst, arith, inl, inr, lit<, lit≤, lt-ltb}
use Rattle.std.specs.Prelude.{IsTrue, IfOk, nat_lt, sum_by}
use Rattle.std.specs.List.{All}
use Rattle.std.proofs.Math.Nat.{mod-lt}
use Rattle.std.proofs.lemmas.Bool.{and_from}
use Rattle.std.proofs.lemmas.List.{take_more}
use Rattle.std.proofs.lemmas.List.Sums.{sum_by-append}
use Rattle.std.proofs.lemmas.List.Elements.{recursion_from_All, All-from_recursion}
use Rattle.std.proofs.lemmas.List.FromFn.{length-range_with_len}
use Rattle.gr_base.specs.declared.records.Edge.{Edge}
use Rattle.gr_base.specs.Rising.{has}
use Rattle.gr_base.proofs.Ranges.{range-rises, range-within}
use Rattle.gr_program.specs.declared.program.ValueOf.{ValueOf}
use Rattle.gr_sched.specs.declared.event.Event.TheVariants as event
use Rattle.gr_sched.specs.declared.event.Line.{Line}
use Rattle.gr_sched.specs.declared.event.Line.TheVariants as line
use Rattle.gr_sched.specs.Reading.{are_below, places_of}
use Rattle.gr_edges.specs.declared.graph.VertexInfo.{VertexInfo}
use Rattle.gr_edges.specs.Vertices.{ids, vertex_of}
use Rattle.gr_edges.proofs.Degrees.{ids-made}
use Rattle.gr_job.specs.Job.{JobValues}
use Rattle.gr_gen.specs.Generated.{vertex_count, vertices_below, edges_of, schedule_of}
use Rattle.gr_gen.proofs.Ends.{edges_of-ends, length-edges_of}
use Rattle.gr_sum.specs.Infinity.{infinity}
use Rattle.gr_min.specs.declared.distance.Distance.{Distance}
use Rattle.gr_min.specs.Shortest.{shortest}
use Rattle.gr_min.specs.Laws.ShortestLaws.{shortest_laws}
use Rattle.gr_view.specs.declared.coordinator.Mode.{Mode}
use Rattle.gr_view.specs.declared.coordinator.Mode.TheVariants as mode
use Rattle.gr_cluster.specs.Tables.{Cluster}
use Rattle.gr_cluster.specs.Load.{load}
use Rattle.gr_cluster.specs.Runs.{Position, position_after, IsWhole}
use Rattle.gr_cluster.specs.Ending as cluster
use Rattle.gr_cluster.specs.Ending.{results_of}
use Rattle.gr_play.specs.Playing.{start, Plays}
use Rattle.gr_agree.specs.Accepted.{IsGraph, IsSetting}
use Rattle.gr_lists.proofs.Each.{Each-has}
use Rattle.gr_law_runs.specs.Runs.{HasResult}
use Rattle.gr_law_runs.proofs.Ends.Results.{done-result}
use Rattle.gr_law_runs.proofs.Ends.Runs.{run-stays}
use Rattle.gr_law_runs.proofs.Bounds.Crashes.{few-borne}
use Rattle.imitate.specs.declared.ended.Ended.TheVariants as ended
use Rattle.imitate.specs.Words.{max_size}
use Rattle.imitate.specs.Running.{ended_by, setting_in, begin, cluster_after, IsWholeAfter}
use Rattle.imitate.specs.Headline.{IsRunnable}
use Rattle.imitate.specs.Workload.{workload_job, workload_plan, finite, sum_of, summary_text, IsSummary, WorkloadIsDone}
use Rattle.imitate.proofs.Accepted.{runnable-ends}

workload-setting : IsSetting (setting_in workload_job)
workload-setting = record {
  some_place = lit≤ tt;
  few_places = lit≤ tt;
  spares = lit≤ tt;
  losses = lit≤ tt;
  theta = lit< tt;
  some_round = lit≤ tt;
  few_rounds = lit≤ tt;
}

module _ (seed size : ℕ) (few : size ≤ max_size) where
  abbrev es : List Edge
  es = edges_of seed size

  abbrev vs : List ℕ
  vs = vertices_below size

  generated-graph : IsGraph es vs
  generated-graph =
      let ends = edges_of-ends seed size in
      let count = length-range_with_len 0 (vertex_count size) in
      record {
        rise = range-rises 0 (vertex_count size);
        ids = Each-has (λ v. v < 2 ^ 32) vs (λ v m. let lt = range-within 0 (vertex_count size) v m in omega (arith, lt, few));
        sources = recursion_from_All (λ (e : Edge). IsTrue (has vs e.src)) es (λ k d lt. (ends k d lt).src);
        targets = recursion_from_All (λ (e : Edge). IsTrue (has vs e.dst)) es (λ k d lt. (ends k d lt).dst);
        few_vertices = omega (arith, count, few);
        few_edges = omega (arith, length-edges_of seed size, few);
      }

  pub workload-runnable : IsRunnable (workload_plan seed size)
  workload-runnable = record { laws = shortest_laws 0; setting = workload-setting; graph = generated-graph; lines = (tt, (tt, (tt, (tt, (tt, tt))))) }

  -- the last line is `finish`
  abbrev before : List Line
  before = line.Settle ∷ line.Step (event.Crash (seed % 4) 0) ∷ line.Settle ∷ line.Step event.Repair ∷ []

  module _ (steps : ℕ) (whole : IsWholeAfter (workload_plan seed size) steps) where
    abbrev last : Cluster Distance Distance
    last = cluster_after (workload_plan seed size) steps

    ends-done : last.coordinator.mode ≡ mode.Done
    ends-done =
        let rightly = runnable-ends (workload_plan seed size) workload-runnable steps whole in
        let R = workload-runnable in
        elim (rightly.finish before refl) [
          | inl done ↦ done
          | inr lost ↦ absurd (rightly.budget (few-borne (shortest 0) R.laws (setting_in workload_job) es vs (schedule_of seed) R.setting R.graph R.lines (lit≤ tt) (lit< tt)) lost)
        ]

    pub workload-result : HasResult (shortest 0) es vs workload_job.rounds last
    workload-result =
        let R = workload-runnable in
        let stays = run-stays (shortest 0) R.laws (setting_in workload_job) es vs R.setting R.graph (schedule_of seed) R.lines steps in
        done-result (shortest 0) es vs workload_job.rounds last stays.agrees stays.limit ends-done

pub workload-done : WorkloadIsDone
workload-done seed size few steps whole =
    let last = cluster_after (workload_plan seed size) steps in
    ap (λ (m : Mode). ended_by (cluster.ending_by last m)) (ends-done seed size few steps whole)

-- a distance more
pub total-more : (xs : List (ValueOf Distance)) (i : ℕ) (d : ValueOf Distance) → i < length xs → (total : ℕ) → total ≡ sum_of (take i xs)
    → min (total + finite (get_or xs i d)) infinity ≡ sum_of (take (i + 1) xs)
total-more xs i d lt total is =
    let x = get_or xs i d in
    let more : sum_by finite (take (i + 1) xs) ≡ sum_by finite (take i xs) + sum_by finite (x ∷ []) = ap (sum_by finite) (take_more xs i d lt) ∙ sum_by-append finite (take i xs) (x ∷ []) in
    let one : sum_by finite (x ∷ []) ≡ 0 + finite x = refl in
    capped-sum total (sum_by finite (take i xs)) (finite x) (sum_by finite (take (i + 1) xs)) (more ∙ ap (λ n. sum_by finite (take i xs) + n) one) is
  where
    capped-sum : (t a b s : ℕ) → s ≡ a + (0 + b) → t ≡ min a infinity → min (t + b) infinity ≡ min s infinity
    capped-sum t a b s e is = omega (arith, e, is)

-- ---- what the code loads and plays

-- the places of the schedule are there
pub schedule-placed : (seed : ℕ) → All (λ l. IsTrue (are_below workload_job.places (places_of l))) (schedule_of seed)
schedule-placed seed = All-from_recursion (λ l. IsTrue (are_below workload_job.places (places_of l))) (schedule_of seed)
    (refl, (and_from (nat_lt (seed % 4) 4) true (lt-ltb (seed % 4) 4 (mod-lt seed (lit< tt))) refl, (refl, (refl, (refl, tt)))))

-- the run begins as that of the plan
pub begin-is : (seed size : ℕ) (job : JobValues) (edges : List Edge) (infos : List VertexInfo) (ls : List Line) → job ≡ workload_job → edges ≡ edges_of seed size
    → infos ≡ map (vertex_of (edges_of seed size)) (vertices_below size) → ls ≡ schedule_of seed
    → start (load (shortest 0) (setting_in job) edges (ids infos)) ls ≡ begin (workload_plan seed size)
begin-is seed size job edges infos ls j e v l =
    let made : ids infos ≡ vertices_below size = ap ids v ∙ ids-made (vertex_of (edges_of seed size)) (λ n. refl) (vertices_below size) in
    λ i. start (load (shortest 0) (setting_in (j i)) (e i) (made i)) (l i)

-- the line of a run that was played to its end
pub summary-is : (seed size : ℕ) → size ≤ max_size → (s : Position Distance Distance) → s ≡ begin (workload_plan seed size) → (events : ℕ) (last : Cluster Distance Distance)
    → Plays (shortest 0) s events last → IsWhole (position_after (shortest 0) events s)
    → (text : List ℕ) → text ≡ summary_text seed size last.coordinator.round events (sum_of (results_of last)) → IsSummary seed size text
summary-is seed size few s same events last plays whole text is =
    let from : Position Distance Distance = begin (workload_plan seed size) in
    let whole' : IsWhole (position_after (shortest 0) events from) = subst (λ (t : Position Distance Distance). IsWhole (position_after (shortest 0) events t)) same whole in
    let plays' : Plays (shortest 0) from events last = subst (λ (t : Position Distance Distance). Plays (shortest 0) t events last) same plays in
    let result = workload-result seed size few events whole' in
    let round = ap (λ (c : Cluster Distance Distance). c.coordinator.round) (sym plays'.cluster) ∙ result.round in
    let values = ap (λ (c : Cluster Distance Distance). results_of c) (sym plays'.cluster) ∙ result.values in
    record { events = events; whole = whole'; count = plays'.count; is = is ∙ (λ i. summary_text seed size (round i) events (sum_of (values i))) }

pub if-ok : {A E : Type 0} (r : Result A E) (P Q : A → Type 0) → IfOk r P → ((a : A) → P a → Q a) → IfOk r Q
if-ok (Ok a) P Q h f = f a h
if-ok (Err e) P Q h f = tt
