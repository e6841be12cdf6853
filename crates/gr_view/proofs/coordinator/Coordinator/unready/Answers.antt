use Rattle.std.proofs.Common.{◌∙◌, ap}
use Rattle.std.specs.Prelude.{slice_get}
use Rattle.gr_base.specs.Rising.{without}
use Rattle.gr_view.proofs.Decided.{unready-first}
use Rattle.gr_view.proofs.coordinator.Coordinator.unready.Goals as goal

pub returns : goal.returns
returns c =
    c.first.ensures.first
    ∙ ap (λ ps. slice_get ps 0) c.difference.ensures.difference
    ∙ ap (λ ps. slice_get (without ps c.args.self.now.ready) 0) c.parties.ensures
    ∙ unready-first c.args.self.now
