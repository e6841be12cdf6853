use Rattle.std.proofs.Common.{◌≡◌, ℕ, List, [], sym, ◌∙◌, subst, arith}
use Rattle.std.specs.List.{All, flat_map}
use Rattle.gr_base.specs.Rising.{RisesBy}
use Rattle.gr_base.proofs.Rising.{rises-nil}
use Rattle.gr_edges.specs.Vertices.{HasEnds}
use Rattle.gr_edges.specs.Reading.{lines_of, ids_of, ids_of_line}
use Rattle.gr_edges.proofs.Ids.{joined-rises}
use Rattle.gr_edges.proofs.Ends.{ends-stand}
use Rattle.gr_edges.proofs.read.read_graph.Goals as goal

pub from_edges-requires : goal.from_edges-requires
from_edges-requires c =
    let lines = lines_of c.args.bytes.now in
    let read = c.in_ok-take_lines.ensures in
    let ids_are : c.as_slice.result.now ≡ ids_of lines = c.as_slice.ensures ∙ c.in_ok-numbers.ensures ∙ read.ids in
    record {
      rise = subst (RisesBy (λ (n : ℕ). n)) (sym ids_are) (joined-rises [] (flat_map ids_of_line lines) (rises-nil (λ (n : ℕ). n)));
      ends = subst (λ (ns : List ℕ). All (HasEnds ns) c.take_lines.new.edges) (sym ids_are) (subst (All (HasEnds _)) (sym read.edges) (ends-stand c.args.undirected lines));
      few = omega (arith, read.few.few_edges);
    }
