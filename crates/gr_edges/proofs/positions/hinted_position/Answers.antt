use Rattle.std.proofs.Common.{sym}
use Rattle.gr_edges.specs.Vertices.{id_of}
use Rattle.gr_edges.proofs.Standing.{prefix_len-at}
use Rattle.gr_edges.proofs.positions.hinted_position.Goals as goal

pub returns-then-vertices-at-clause-position : goal.returns-then-vertices-at-clause-position
returns-then-vertices-at-clause-position c = sym (prefix_len-at id_of c.args.id c.args.vertices.now _ _ c.requires.rise c.if-at-vertices.true c.if-vertices-at.true)
