-- What a call does to a sink.
use Rattle.std.specs.Prelude.{◌≡◌, ◌<◌, ◌≤◌, ℕ, List, length, take, Some, Result, IfOk, OnOk, OnErr, IfSome, IsErrOf}
use Rattle.gr_outside.specs.declared.faults.SinkFault.{SinkFault}
use Rattle.gr_outside.specs.declared.faults.SinkFault.TheVariants.{Failed}
use Rattle.gr_outside.specs.Counting.{Counts}
use Rattle.gr_outside.specs.Sink.{SinkSeen, Gains}

-- one call of `put`
pub record Puts (before after : SinkSeen) (bytes : List ℕ) (result : Result ℕ SinkFault) : Type 0 where
  pub within : IfOk result (λ n. n ≤ length bytes)
  pub some : IfOk result (λ n. 0 < length bytes → 0 < n)
  pub gained : IfOk result (λ n. Gains before after (take n bytes))
  pub refused : OnErr result (IfSome before.taken (λ had. after.taken ≡ Some had))
  pub faults : Counts (IsErrOf result Failed) before.faults after.faults

-- one call of `write_whole`
pub record WritesWhole {T : Type 0} (before after : SinkSeen) (bytes : List ℕ) (result : Result T SinkFault) : Type 0 where
  pub whole : OnOk result (Gains before after bytes)
  pub part : OnErr result ((n : ℕ) × (n ≤ length bytes) × Gains before after (take n bytes))
  pub faults : Counts (IsErrOf result Failed) before.faults after.faults
