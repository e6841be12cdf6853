use Rattle.gr_copies.proofs.Gathering.{gathered-ring}
use Rattle.gr_copies.proofs.further.next_places.Goals as goal

pub returns-clause-members : goal.returns-clause-members
returns-clause-members c = gathered-ring c.args.places c.args.candidates c.args.after c.args.count c.gather-gathered.result.places c.gather-gathered-2.result.places c.gather-gathered.result.missing c.gather-gathered-2.result.missing
    c.has-known.ensures.places c.requires
    (record { members = c.gather-gathered.ensures.members; left = c.gather-gathered.ensures.missing })
    (record { members = c.gather-gathered-2.ensures.members; left = c.gather-gathered-2.ensures.missing })
