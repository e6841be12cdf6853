use Rattle.gr_edges.proofs.ReadBack.{read-back}
use Rattle.gr_edges.proofs.print.print_graph.Goals as goal

pub returns-in-Ok-clause-read_back : goal.returns-in-Ok-clause-read_back
returns-in-Ok-clause-read_back c =
    let graph = c.args.graph.now in
    read-back graph.edges graph.vertices graph.rise graph.degrees graph.ends c.in-Ok.ensures.small_ids c.in-Ok.ensures.small_edges
