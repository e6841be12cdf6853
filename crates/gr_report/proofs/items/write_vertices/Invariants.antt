use Rattle.std.proofs.Common.{◌≡◌, ◌++◌, take}
use Rattle.gr_sched.specs.EventText.{words}
use Rattle.gr_report.proofs.items.write_vertices.Given as goal

abbrev pub invariant-loop-v : goal.invariant-loop-v
invariant-loop-v l = l.line.items ≡ l.initial.line.items ++ words (take l.v-index l.vertices)
