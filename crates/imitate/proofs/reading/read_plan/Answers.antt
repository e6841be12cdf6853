use Rattle.imitate.specs.Accepted.{task_in}
use Rattle.imitate.proofs.Lines.{schedule-placed}
use Rattle.imitate.proofs.Readings.{plan-refused, plan-schedule_refused, plan-read}
use Rattle.imitate.proofs.reading.read_plan.Goals as goal

pub returns-in-Err-clause-refused : goal.returns-in-Err-clause-refused
returns-in-Err-clause-refused c = plan-refused c.args.graph.now c.args.job.now c.args.schedule.now c.in-Err.why c.in-Err.ensures.refused

pub returns-in-Err-read_schedule-clause-refused : goal.returns-in-Err-read_schedule-clause-refused
returns-in-Err-read_schedule-clause-refused c =
    rw c.of_schedule.ensures (plan-schedule_refused c.args.graph.now c.args.job.now c.args.schedule.now (task_in c.in-Ok.work) c.in-Ok.ensures.read c.in-Err-read_schedule.fault c.in-Err-read_schedule.ensures.refused)

pub returns-clause-read : goal.returns-clause-read
returns-clause-read c =
    let found = c.in-Ok-read_schedule.ensures in
    plan-read c.args.graph.now c.args.job.now c.args.schedule.now (task_in c.in-Ok.work) c.in-Ok.ensures.read c.in-Ok-read_schedule.lines found.accepted found.lines

pub returns-clause-playable : goal.returns-clause-playable
returns-clause-playable c = record {
  ids_fit = c.in-Ok.ensures.ids_fit;
  few_edges = c.in-Ok.ensures.few_edges;
  few_vertices = c.in-Ok.ensures.few_vertices;
  few_lines = c.in-Ok-read_schedule.ensures.few;
  placed = rw c.in-Ok-read_schedule.ensures.lines (schedule-placed c.in-Ok.work.job.places c.args.schedule.now);
}
