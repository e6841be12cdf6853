use Rattle.std.proofs.Common.{◌≡◌, ◌<◌, take}
use Rattle.gr_base.specs.Rising.{RisesBy}
use Rattle.gr_signal.proofs.Called.{is_called}
use Rattle.gr_signal.proofs.Picked.{picked}
use Rattle.gr_signal.proofs.Selected.{vertex}
use Rattle.gr_signal.proofs.signal.calls.Given as goal

abbrev pub invariant-loop-v : goal.invariant-loop-v
invariant-loop-v g l = record {
  body : l.body ≡ picked (is_called l.place l.to) l.rows.stable (take l.v-index l.next);
  rise : 0 < l.v-index → RisesBy vertex l.rows.stable;
}
