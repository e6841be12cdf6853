use Rattle.gr_batch.specs.Telling.{telling}
use Rattle.gr_batch.proofs.Tellings.{spellings-apart}
use Rattle.gr_batch.proofs.laws.no_spelling_begins_another.Goals as goal

pub returns : goal.returns
returns g c =
    spellings-apart (telling g.V.Datum.numbers_of g.A.Datum.numbers_of) g.V.Datum.WIDTH g.A.Datum.WIDTH
    (record { same = g.met.V.Datum.same; width_of = g.met.V.Datum.width }) (record { same = g.met.A.Datum.same; width_of = g.met.A.Datum.width })
