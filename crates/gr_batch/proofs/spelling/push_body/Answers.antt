use Rattle.gr_batch.proofs.Lists.{flat_map-single}
use Rattle.gr_batch.proofs.spelling.push_body.Goals as goal

pub returns-in-Signal : goal.returns-in-Signal
returns-in-Signal g c = rw c.in-Signal.is (rw (flat_map-single, c.as_slice-in-Signal.ensures) at c.push_items-in-Signal.ensures)

pub returns-in-Call : goal.returns-in-Call
returns-in-Call g c = rw c.in-Call.is (rw (flat_map-single, c.as_slice-in-Call.ensures) at c.push_items-in-Call.ensures)

pub returns-in-Ask : goal.returns-in-Ask
returns-in-Ask g c = rw c.in-Ask.is (rw (flat_map-single, c.as_slice-in-Ask.ensures) at c.push_items-in-Ask.ensures)
