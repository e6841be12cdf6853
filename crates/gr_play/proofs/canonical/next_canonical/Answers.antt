use Rattle.std.proofs.Common.{◌∙◌, ap, sym, inl, inr}
use Rattle.gr_view.specs.Modes.{is_over}
use Rattle.gr_play.proofs.Following.{canonical-over}
use Rattle.gr_play.proofs.canonical.next_canonical.Goals as goal

pub returns-in-Done-clause-event : goal.returns-in-Done-clause-event
returns-in-Done-clause-event g c = canonical-over c.args.cluster.now.cluster (ap is_over (sym c.mode.ensures.mode) ∙ (elim c.in-Done.is [ inl e ↦ ap is_over e | inr e ↦ ap is_over e ]))
