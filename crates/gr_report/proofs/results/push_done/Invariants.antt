use Rattle.std.proofs.Common.{◌≡◌, ◌++◌, take, codes, decimal, length}
use Rattle.std.specs.Prelude.{flat_map}
use Rattle.gr_program.specs.Result.{value_line}
use Rattle.gr_report.proofs.results.push_done.Given as goal

abbrev pub invariant-loop-x : goal.invariant-loop-x
invariant-loop-x g l =
    l.into.items ≡ l.fn.into.items ++ (codes "done " ++ decimal l.last ++ codes " " ++ decimal (length l.values) ++ codes "\n" ++ flat_map (value_line g.V.Datum.text_of) (take l.x-index l.values))
