use Rattle.std.proofs.Common.{◌≡◌, ap, ◌∙◌, arith}
use Rattle.std.specs.List.{range_with_len}
use Rattle.gr_gen.specs.Generated.{vertices_below}
use Rattle.gr_base.proofs.Ranges.{range-rises}
use Rattle.gr_gen.proofs.Ends.{edges_of-ends, length-edges_of}
use Rattle.gr_gen.proofs.graph.generate.Goals as goal

pub from_edges-requires : goal.from_edges-requires
from_edges-requires c =
    let are : c.as_slice.result.now ≡ vertices_below c.args.size = c.as_slice.ensures ∙ c.in_ok-ids.ensures ∙ ap (range_with_len 0) c.vertex_count.ensures in
    rw (are, c.in_ok-edges.ensures) (record {
      rise = range-rises 0 _;
      ends = edges_of-ends c.args.seed c.args.size;
      few = omega (arith, length-edges_of c.args.seed c.args.size);
    })
