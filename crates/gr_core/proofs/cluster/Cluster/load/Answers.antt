use Rattle.std.proofs.Common.{◌≡◌, ◌∙◌, length, nat_lt, ap, sym, subst, arith}
use Rattle.std.proofs.lemmas.List.{length-map}
use Rattle.gr_edges.specs.Vertices.{id_of, ids}
use Rattle.gr_view.specs.Decisions.{first_coordinator}
use Rattle.gr_law_runs.specs.Undisturbed.{RunsUndisturbed}
use Rattle.gr_core.specs.Tables.{Agrees}
use Rattle.gr_core.specs.Loaded.{setting_of}
use Rattle.gr_core.proofs.Standing.{no-targets_at-load}
use Rattle.gr_core.proofs.Resting.{nobody}
use Rattle.gr_core.proofs.Loaded.{load-is, loaded-undisturbed}
use Rattle.gr_core.proofs.cluster.Cluster.load.Goals as goal

pub invariant_of-result : goal.invariant_of-result
invariant_of-result g c =
    let P = g.P.VertexProgram.program_of c.args.program in
    let laws = g.met.P.VertexProgram.laws c.args.program in
    let job = c.args.job.now in
    let graph = c.args.graph.now in
    let s = setting_of job in
    let es = graph.edges in
    let xs = graph.vertices in
    let vs = ids xs in
    let U = loaded-undisturbed P laws job graph (omega arith) c.requires.edges c.requires.vertices in
    let coordinator : c.new-2.result ≡ first_coordinator s.places s.spares s.limit (nat_lt 0 (length vs)) = c.new-2.ensures ∙ ap (λ n. first_coordinator s.places s.spares s.limit (nat_lt 0 n)) (c.vertex_count-any_vertex.ensures.count ∙ sym (length-map xs id_of)) in
    record {
      targets = λ q ts h here at. absurd (no-targets_at-load _ c.in_ok-kept.ensures q ts here);
      resting = λ q here. absurd (nobody _ c.none-2.ensures q here);
      retired = tt;
      agrees = subst (Agrees P) (sym ((λ i. record {
        hosts = c.in_ok-hosts.ensures.hosts i;
        logs = c.in_ok-hosts.ensures.logs i;
        flight = c.new.ensures i;
        serial = 0;
        coordinator = coordinator i;
        places = s.places;
        losses = s.losses;
        theta = s.theta;
      }) ∙ load-is P s es vs)) (record { state = U.0; holds = U.1.agrees });
    }

pub returns-clause-cluster : goal.returns-clause-cluster
returns-clause-cluster g c =
    let P = g.P.VertexProgram.program_of c.args.program in
    let job = c.args.job.now in
    let s = setting_of job in
    let es = c.args.graph.now.edges in
    let xs = c.args.graph.now.vertices in
    let vs = ids xs in
    let coordinator : c.new-2.result ≡ first_coordinator s.places s.spares s.limit (nat_lt 0 (length vs)) = c.new-2.ensures ∙ ap (λ n. first_coordinator s.places s.spares s.limit (nat_lt 0 n)) (c.vertex_count-any_vertex.ensures.count ∙ sym (length-map xs id_of)) in
    (λ i. record {
      program = c.args.program;
      cluster = record {
        hosts = c.in_ok-hosts.ensures.hosts i;
        logs = c.in_ok-hosts.ensures.logs i;
        flight = c.new.ensures i;
        serial = 0;
        coordinator = coordinator i;
        places = s.places;
        losses = s.losses;
        theta = s.theta;
      };
    }) ∙ ap (λ t. record { program = c.args.program; cluster = t }) (load-is P s es vs)

pub returns-clause-undisturbed : goal.returns-clause-undisturbed
returns-clause-undisturbed g c =
    let P = g.P.VertexProgram.program_of c.args.program in
    let laws = g.met.P.VertexProgram.laws c.args.program in
    subst (λ t. RunsUndisturbed P t.cluster) (sym (returns-clause-cluster g c)) (loaded-undisturbed P laws c.args.job.now c.args.graph.now (omega arith) c.requires.edges c.requires.vertices)
