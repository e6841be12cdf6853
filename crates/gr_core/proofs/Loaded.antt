-- What the load of a place is made of, and that nothing disturbs a cluster at load.
use Rattle.std.proofs.Common.{◌≡◌, ◌<◌, ◌≤◌, ◌^◌, ℕ, List, [], ◌++◌, map, length, nat_lt, refl}
use Rattle.std.specs.Prelude.{IsTrue}
use Rattle.std.proofs.lemmas.List.{length-map}
use Rattle.std.proofs.lemmas.List.Elements.{recursion_from_All}
use Rattle.std.specs.List.{filter}
use Rattle.gr_base.specs.declared.records.Edge.{Edge}
use Rattle.gr_base.specs.declared.records.NumberedEdge.{NumberedEdge}
use Rattle.gr_base.specs.Rising.{has}
use Rattle.gr_base.specs.Places.{below}
use Rattle.gr_program.specs.declared.copy.VertexCopy.{VertexCopy}
use Rattle.gr_program.specs.Program.{Program}
use Rattle.gr_program.specs.ProgramLaws.{ProgramLaws}
use Rattle.gr_edges.specs.declared.graph.Graph.{Graph}
use Rattle.gr_edges.specs.declared.graph.VertexInfo.{VertexInfo}
use Rattle.gr_edges.specs.Vertices.{id_of, ids}
use Rattle.gr_job.specs.declared.job.Job.{Job}
use Rattle.gr_cut.specs.Cut.{edges_at_load}
use Rattle.gr_copies.specs.Holders.{first_holders}
use Rattle.gr_log.specs.declared.record.LogRecord.TheVariants as item
use Rattle.gr_rules.specs.Rows.{record_of}
use Rattle.gr_rules.specs.Grants.{records_after}
use Rattle.gr_view.specs.Decisions.{first_coordinator}
use Rattle.gr_cluster.specs.Tables.{Cluster}
use Rattle.gr_cluster.specs.Load.{Setting, first_copy, first_rows, first_arcs, first_host, first_log, load}
use Rattle.gr_agree.specs.Accepted.{IsGraph, IsSetting}
use Rattle.gr_lists.proofs.Maps.{Each-map, map-rises}
use Rattle.gr_law_runs.specs.Undisturbed.{RunsUndisturbed}
use Rattle.gr_law_runs.proofs.Runs.Plain.{undisturbed-in}
use Rattle.gr_law_runs.proofs.Runs.Results.{load-undisturbed}
use Rattle.gr_core.specs.Loaded.{setting_of}

pub records-are : {V : Type 0} (rows : List (VertexCopy V)) (arcs : List NumberedEdge) → map record_of rows ++ map item.Kept arcs ≡ records_after rows arcs
unfolding records_after
records-are rows arcs = refl

module _ {V A : Type 0} (P : Program V A) (s : Setting) (es : List Edge) (vs : List ℕ) where
  pub rows-are : (p : ℕ) → map (first_copy P s es vs p) (filter (λ v. has (first_holders s.places s.theta s.losses es v) p) vs) ≡ first_rows P s es vs p
  unfolding first_rows
  rows-are p = refl

  pub arcs-are : (p : ℕ) → edges_at_load s.places s.theta es p ≡ first_arcs P s es vs p
  unfolding first_arcs
  arcs-are p = refl

  pub load-is : record {
    hosts = map (first_host P s es vs) (below s.places);
    logs = map (first_log P s es vs) (below s.places);
    flight = [];
    serial = 0;
    coordinator = first_coordinator s.places s.spares s.limit (nat_lt 0 (length vs));
    places = s.places;
    losses = s.losses;
    theta = s.theta;
  } ≡ load P s es vs
  unfolding load
  load-is = refl

module _ {V A : Type 0} (P : Program V A) (L : ProgramLaws P) (job : Job) (graph : Graph) where
  abbrev loaded : Cluster V A
  loaded = load P (setting_of job) graph.edges (ids graph.vertices)

  -- a graph and a job give a cluster that nothing disturbs
  pub loaded-undisturbed : job.theta < 2 ^ 32 → length graph.edges ≤ 4194304 → length graph.vertices ≤ 1048576 → RunsUndisturbed P loaded
  loaded-undisturbed small few_edges few_vertices =
      let s = setting_of job in
      let es = graph.edges in
      let xs = graph.vertices in
      let setting : IsSetting s = record {
        some_place = job.some_places;
        few_places = job.most_places;
        spares = job.most_spares;
        losses = job.most_losses;
        theta = small;
        some_round = job.some_rounds;
        few_rounds = job.most_rounds;
      } in
      let whole : IsGraph es (ids xs) = record {
        rise = map-rises id_of (λ v. v) xs graph.rise;
        ids = Each-map (λ v. v < 2 ^ 32) id_of xs (recursion_from_All (λ (v : VertexInfo). v.id < 2 ^ 32) xs graph.small);
        sources = recursion_from_All (λ (e : Edge). IsTrue (has (ids xs) e.src)) es (λ k d lt. (graph.ends k d lt).src);
        targets = recursion_from_All (λ (e : Edge). IsTrue (has (ids xs) e.dst)) es (λ k d lt. (graph.ends k d lt).dst);
        few_vertices = rw (length-map xs id_of) few_vertices;
        few_edges = few_edges;
      } in
      let U = undisturbed-in P es (ids xs) s.limit (load P s es (ids xs)) (load-undisturbed P L s es (ids xs) setting whole) in (U.state, U.holds)
