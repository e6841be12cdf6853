use Rattle.std.proofs.Common.{◌≡◌, ◌<◌, ◌++◌, eqb, length}
use Rattle.gr_base.specs.Places.{IsPlaces}
use Rattle.gr_sched.proofs.Below.{below}
use Rattle.gr_report.specs.Trace.{comma_text}
use Rattle.gr_report.proofs.words.write_holders.Given as goal

abbrev pub invariant-loop-p : goal.invariant-loop-p
invariant-loop-p l = record {
  told : l.line.items ≡ l.initial.line.items ++ comma_text (below l.p l.holders);
  first : l.is_first ≡ eqb (length (below l.p l.holders)) 0;
  places : 0 < l.p → IsPlaces l.holders;
}
