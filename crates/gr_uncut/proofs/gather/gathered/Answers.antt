use Rattle.std.proofs.Common.{◌∙◌, map, take, slice_index_or, sym, ap}
use Rattle.std.proofs.lemmas.List.{take_all}
use Rattle.gr_program.specs.Program.{total}
use Rattle.gr_uncut.specs.declared.index.Arc.{Arc}
use Rattle.gr_uncut.specs.Round.{brought}
use Rattle.gr_uncut.proofs.Sums.{brought-more}
use Rattle.gr_uncut.proofs.gather.gathered.Goals as goal

pub loop-arc-init : goal.loop-arc-init
loop-arc-init g c = record { sum = λ x reads. c.unit-sum.ensures.value; kept = c.unit-sum.ensures.kept }

pub loop-arc-preserved : goal.loop-arc-preserved
loop-arc-preserved g c =
    let p = g.P.VertexProgram.program_of c.args.program.now in
    let arcs = c.args.arcs.now in
    let i = c.loop-arc.arc-index in
    let none : Arc = record { source = 0; weight = 0; outdegree = 0 } in
    let arc = slice_index_or arcs i none in
    let within = c.requires.sources i none c.loop-arc-test.true in
    record {
      sum = λ x reads.
          let value_is = c.index-values-arc.is ∙ reads arc.source c.index-values-arc.result within in
          c.join-sum.ensures.value
          ∙ ap (λ a. p.join a c.along-part.result) (c.loop-arc.invariant.sum x reads)
          ∙ ap (p.join (total p (map (brought p x) (take i arcs)))) (c.along-part.ensures.value ∙ ap (λ v. p.along v arc.weight arc.outdegree) value_is)
          ∙ sym (brought-more p x arcs i none c.loop-arc-test.true);
      kept = c.join-sum.ensures.kept;
    }

pub returns-clause-sum : goal.returns-clause-sum
returns-clause-sum g c = λ x reads.
    let p = g.P.VertexProgram.program_of c.args.program.now in
    c.loop-arc.invariant.sum x reads ∙ ap (λ l. total p (map (brought p x) l)) (take_all c.loop-arc.arc-index c.args.arcs.now c.loop-arc-test.false)
