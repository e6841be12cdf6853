use Rattle.std.proofs.Common.{sym}
use Rattle.gr_edges.proofs.Degrees.{source-counted}
use Rattle.gr_edges.proofs.build.count_source.Goals as goal

pub returns : goal.returns
returns c =
    let there = c.position_of-position.ensures in
    source-counted c.args.id c.args.vertices.now c.position_of-position.result _ c.requires.rise (sym there.position) there.within (there.found _)
