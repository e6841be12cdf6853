use Rattle.std.proofs.Common.{◌≡◌, ◌<◌, map, take}
use Rattle.gr_base.specs.Rising.{RisesBy}
use Rattle.gr_signal.specs.Signals.{target_of}
use Rattle.gr_signal.proofs.Picked.{any, copies}
use Rattle.gr_signal.proofs.Selected.{vertex}
use Rattle.gr_signal.proofs.target.as_targets.Given as goal

abbrev pub invariant-loop-v : goal.invariant-loop-v
invariant-loop-v g l = record {
  items : l.items ≡ map target_of (copies any l.rows.stable (take l.v-index l.vertices));
  rise : 0 < l.v-index → RisesBy vertex l.rows.stable;
}
