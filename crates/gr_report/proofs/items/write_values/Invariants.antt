use Rattle.std.proofs.Common.{◌≡◌, ◌++◌, take}
use Rattle.std.specs.Prelude.{flat_map}
use Rattle.gr_report.specs.Trace.{new_text}
use Rattle.gr_report.proofs.items.write_values.Given as goal

abbrev pub invariant-loop-new : goal.invariant-loop-new
invariant-loop-new g l = l.line.items ≡ l.initial.line.items ++ flat_map (new_text g.V.Datum.numbers_of) (take l.new-index l.values)
