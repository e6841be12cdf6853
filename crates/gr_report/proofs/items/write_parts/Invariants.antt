use Rattle.std.proofs.Common.{◌≡◌, ◌++◌, take}
use Rattle.std.specs.Prelude.{flat_map}
use Rattle.gr_report.specs.Trace.{part_text}
use Rattle.gr_report.proofs.items.write_parts.Given as goal

abbrev pub invariant-loop-part : goal.invariant-loop-part
invariant-loop-part g l = l.line.items ≡ l.initial.line.items ++ flat_map (part_text g.A.Datum.numbers_of) (take l.part-index l.parts)
