use Rattle.imitate.specs.Accepted.{task_in}
use Rattle.imitate.proofs.Readings.{reply-refused, reply-read}
use Rattle.imitate.proofs.reply.reply.Goals as goal

pub returns-in-Err-clause-refused : goal.returns-in-Err-clause-refused
returns-in-Err-clause-refused c = reply-refused c.args.graph.items c.args.job.now c.in-Err.why (rw c.deref.ensures.value at c.in-Err.ensures.refused)

pub returns-clause-shown : goal.returns-clause-shown
returns-clause-shown c = reply-read c.args.graph.items c.args.job.now (task_in c.in-Ok.work) c.in_ok-text.text.items (rw c.deref.ensures.value at c.in-Ok.ensures.read) c.in_ok-text.ensures
