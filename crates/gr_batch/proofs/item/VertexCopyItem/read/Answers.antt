use Rattle.std.proofs.Common.{◌∙◌, sym}
use Rattle.gr_batch.proofs.Copies.{three, five, no-master, not-held, no-due, copy-front}
use Rattle.gr_batch.proofs.item.VertexCopyItem.read.Goals as goal

pub returns-in_err-master-clause-absent : goal.returns-in_err-master-clause-absent
returns-in_err-master-clause-absent g c =
    rw c.from_residual-in_err-master.ensures
    (no-master g.V.Datum.numbers_of c.args.numbers.now c.in_ok-vertex.vertex c.in_ok-indeg.indeg c.in_ok-outdeg.outdeg c.in_ok-outdeg.rest.now
    (three c.in_ok-vertex.vertex c.in_ok-indeg.indeg c.in_ok-outdeg.outdeg c.args.numbers.now c.in_ok-vertex.rest.now c.in_ok-indeg.rest.now c.in_ok-outdeg.rest.now c.in_ok-vertex.ensures.found.1 c.in_ok-indeg.ensures.found.1 c.in_ok-outdeg.ensures.found.1)
    c.in_err-master.ensures.absent)

pub returns-then-not-has-clause-absent : goal.returns-then-not-has-clause-absent
returns-then-not-has-clause-absent g c =
    not-held g.V.Datum.numbers_of c.args.numbers.now c.in_ok-vertex.vertex c.in_ok-indeg.indeg c.in_ok-outdeg.outdeg c.in_ok-master.master c.in_ok-word.word c.places_of-holders.result c.in_ok-word.rest.now
    (five c.in_ok-vertex.vertex c.in_ok-indeg.indeg c.in_ok-outdeg.outdeg c.in_ok-master.master c.in_ok-word.word c.args.numbers.now c.in_ok-vertex.rest.now c.in_ok-indeg.rest.now c.in_ok-outdeg.rest.now c.in_ok-master.rest.now c.in_ok-word.rest.now c.in_ok-vertex.ensures.found.1 c.in_ok-indeg.ensures.found.1 c.in_ok-outdeg.ensures.found.1 c.in_ok-master.ensures.found.1 c.in_ok-word.ensures.found)
    c.places_of-holders.ensures.places c.places_of-holders.ensures.word (sym c.has.ensures.test ∙ c.if-not-has.true)

pub returns-in_err-due-clause-absent : goal.returns-in_err-due-clause-absent
returns-in_err-due-clause-absent g c =
    rw c.from_residual-in_err-due.ensures
    (no-due g.V.Datum.numbers_of c.args.numbers.now c.in_ok-vertex.vertex c.in_ok-indeg.indeg c.in_ok-outdeg.outdeg c.in_ok-master.master c.in_ok-word.word c.places_of-holders.result c.in_ok-word.rest.now
    (five c.in_ok-vertex.vertex c.in_ok-indeg.indeg c.in_ok-outdeg.outdeg c.in_ok-master.master c.in_ok-word.word c.args.numbers.now c.in_ok-vertex.rest.now c.in_ok-indeg.rest.now c.in_ok-outdeg.rest.now c.in_ok-master.rest.now c.in_ok-word.rest.now c.in_ok-vertex.ensures.found.1 c.in_ok-indeg.ensures.found.1 c.in_ok-outdeg.ensures.found.1 c.in_ok-master.ensures.found.1 c.in_ok-word.ensures.found)
    c.places_of-holders.ensures.places c.places_of-holders.ensures.word c.in_ok-value.value c.in_ok-value.rest.now c.in_ok-value.ensures.found c.in_err-due.ensures.absent)

pub returns-clause-found : goal.returns-clause-found
returns-clause-found g c =
    copy-front g.V.Datum.numbers_of c.args.numbers.now c.in_ok-vertex.vertex c.in_ok-indeg.indeg c.in_ok-outdeg.outdeg c.in_ok-master.master c.in_ok-word.word c.places_of-holders.result c.in_ok-word.rest.now
    (five c.in_ok-vertex.vertex c.in_ok-indeg.indeg c.in_ok-outdeg.outdeg c.in_ok-master.master c.in_ok-word.word c.args.numbers.now c.in_ok-vertex.rest.now c.in_ok-indeg.rest.now c.in_ok-outdeg.rest.now c.in_ok-master.rest.now c.in_ok-word.rest.now c.in_ok-vertex.ensures.found.1 c.in_ok-indeg.ensures.found.1 c.in_ok-outdeg.ensures.found.1 c.in_ok-master.ensures.found.1 c.in_ok-word.ensures.found)
    c.places_of-holders.ensures.places c.places_of-holders.ensures.word c.in_ok-value.value c.in_ok-value.rest.now c.in_ok-value.ensures.found
    c.in_ok-due.due c.in_ok-due.rest.now c.in_ok-due.ensures.found c.in_ok-vertex.ensures.found.0 c.in_ok-indeg.ensures.found.0 c.in_ok-outdeg.ensures.found.0 (sym c.has.ensures.test ∙ c.if-not-has.false)
