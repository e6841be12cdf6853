use Rattle.std.proofs.Common.{◌∙◌, List, map, sym, ap, subst, arith}
use Rattle.std.proofs.lemmas.List.{take_all}
use Rattle.gr_base.specs.declared.records.NumberedEdge.{NumberedEdge}
use Rattle.gr_program.specs.Program.{total}
use Rattle.gr_rules.specs.Rows.{row}
use Rattle.gr_rules.specs.Round.{along_row, own_sum}
use Rattle.gr_low.specs.Sources.{SourcesReady}
use Rattle.gr_low.proofs.gather.gather_low.Goals as goal

abbrev none : NumberedEdge
none = record { number = 0; edge = record { src = 0; dst = 0; weight = 0 } }

pub contribution-part-requires : goal.contribution-part-requires
contribution-part-requires g c =
    let p = g.P.VertexProgram.program_of c.args.program.now in
    let ready : SourcesReady p c.args.rows.now.stable c.edges_into-edge-items.result.now = subst (SourcesReady p c.args.rows.now.stable) (sym c.edges_into-edge-items.ensures.edges) c.requires.sources in
    ready c.loop-edge.edge-index none (omega arith)

pub returns-clause-sum : goal.returns-clause-sum
unfolding own_sum
returns-clause-sum g c =
    let p = g.P.VertexProgram.program_of c.args.program.now in
    let brought = λ (es : List NumberedEdge). total p (map (λ (a : NumberedEdge). along_row p (row c.args.rows.now.stable a.edge.src) a.edge.weight) es) in
    c.loop-edge.invariant.sum ∙ ap brought (take_all c.loop-edge.edge-index c.edges_into-edge-items.result.now c.loop-edge-test.false ∙ c.edges_into-edge-items.ensures.edges)
