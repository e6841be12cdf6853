use Rattle.std.proofs.Common.{◌≡◌, ◌++◌, take}
use Rattle.std.specs.Prelude.{flat_map}
use Rattle.gr_report.specs.Trace.{copy_text}
use Rattle.gr_report.proofs.items.write_copies.Given as goal

abbrev pub invariant-loop-copy : goal.invariant-loop-copy
invariant-loop-copy g l = l.line.items ≡ l.initial.line.items ++ flat_map (copy_text g.V.Datum.numbers_of) (take l.copy-index l.copies)
