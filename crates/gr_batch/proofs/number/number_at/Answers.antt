use Rattle.gr_batch.specs.Spelling.{number_bytes}
use Rattle.gr_batch.proofs.number.number_at.Goals as goal

pub returns-clause-found : goal.returns-clause-found
unfolding number_bytes
returns-clause-found c = c.groups_at.ensures.found

pub returns-clause-absent : goal.returns-clause-absent
unfolding number_bytes
returns-clause-absent c = c.groups_at.ensures.absent
