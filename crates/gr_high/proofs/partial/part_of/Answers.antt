use Rattle.gr_rules.specs.Rows.{into}
use Rattle.gr_low.proofs.Ready.{SourcesReady-filter}
use Rattle.gr_high.proofs.partial.part_of.Goals as goal

pub gather_low-requires : goal.gather_low-requires
gather_low-requires g c = record { sources = SourcesReady-filter (g.P.VertexProgram.program_of c.args.program.now) c.args.rows.now.stable (into c.args.copy.now.vertex) c.args.arcs.now.stable c.requires }
