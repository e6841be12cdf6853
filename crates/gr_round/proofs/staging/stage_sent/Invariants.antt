use Rattle.std.proofs.Common.{◌≡◌, ◌-◌, ltb}
use Rattle.std.specs.Prelude.{flat_map, not}
use Rattle.std.specs.List.{filter}
use Rattle.gr_base.specs.Places.{IsPlaces}
use Rattle.gr_batch.specs.declared.stage.Stage.TheVariants as stage
use Rattle.gr_batch.specs.Bodies.{values_of}
use Rattle.gr_rules.specs.Inbox.{bodies}
use Rattle.gr_rules.specs.Rows.{with_values}
use Rattle.gr_round.proofs.staging.stage_sent.Given as goal

abbrev pub invariant-loop-k : goal.invariant-loop-k
invariant-loop-k g l = record {
  places : IsPlaces l.party.others;
  rows : l.rows ≡ record (l.initial.rows) { pending = with_values (flat_map values_of (bodies l.inbox l.party.epoch stage.Update (filter (λ q. not (ltb q (64 - l.k))) l.party.others))) l.initial.rows.pending };
}
