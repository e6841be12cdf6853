-- The invariant holds in every state of the runs with losses.
use Rattle.std.proofs.Common.{◌≡◌, [], ◌∷◌, refl}
use Rattle.gr_cut.proofs.Graphs.{triangle}
use Rattle.gr_copies.specs.Holders.{first_holders}
use Rattle.gr_log.specs.Directory.{directory_in, edges_in}
use Rattle.gr_sched.specs.declared.event.Event.TheVariants as event
use Rattle.gr_sched.specs.declared.event.Line.TheVariants as line
use Rattle.gr_view.specs.Decisions.{at_barrier, at_recovery, at_repair, at_discard}
use Rattle.gr_rules.specs.Rows.{blank_rows, with_values, with_due}
use Rattle.gr_rules.specs.Inbox.{bodies}
use Rattle.gr_rules.specs.Round.{own_sum, gather_body, whole_sum, new_values, update_body, signal_body, call_body}
use Rattle.gr_rules.specs.Taken.{edges_with_ends, taken, taken_edges, ask_body}
use Rattle.gr_rules.specs.Grants.{new_holders, grant_body, records_after}
use Rattle.gr_rules.specs.Lost.{lost_of}
use Rattle.gr_rules.proofs.Programs.{shortest}
use Rattle.gr_cluster.specs.Load.{load, first_rows, first_arcs}
use Rattle.gr_cluster.specs.Todo.{todo}
use Rattle.gr_cluster.specs.Work.{worked}
use Rattle.gr_cluster.specs.Network.{delivered, dropped, crashed}
use Rattle.gr_cluster.specs.Step.{barred, recovered, repaired, discarded, step}
use Rattle.gr_cluster.specs.Canonical.{next_canonical}
use Rattle.gr_cluster.specs.Runs.{next_event, next_position}
use Rattle.gr_program.specs.Rounds.{state_after, after_round, first_state, last_from}
use Rattle.gr_agree.specs.FirstTruth.{first_truth}
use Rattle.gr_agree.specs.Truth.{rows_at, arcs_at, entries_at}
use Rattle.gr_agree.specs.TrueRound.{staged, part_sum, true_parts, true_values, true_signals, true_calls}
use Rattle.gr_agree.specs.Rebuilt.{true_taken, is_asker, true_asks, true_granted, true_grants}
use Rattle.gr_worked.specs.Played.{job, begin}
use Rattle.gr_worked.proofs.Agreement.{holding}

-- a schedule that ends early
early_end_holds : holding shortest 4 (begin shortest (job 2 0 1) triangle (0 ∷ 1 ∷ 2 ∷ []) (line.Step (event.Deliver 0) ∷ line.Step (event.Crash 1 0) ∷ line.Step (event.Work 1) ∷ [])) (first_truth shortest (job 2 0 1) triangle (0 ∷ 1 ∷ 2 ∷ [])) ≡ 4
unfolding first_holders first_rows first_arcs load own_sum gather_body whole_sum new_values update_body with_values signal_body call_body with_due bodies todo worked delivered dropped crashed barred recovered repaired discarded step at_barrier at_recovery at_repair at_discard next_canonical next_event next_position directory_in edges_in edges_with_ends taken taken_edges ask_body new_holders grant_body records_after blank_rows lost_of holding state_after after_round first_state last_from rows_at arcs_at entries_at staged part_sum true_parts true_values true_signals true_calls true_taken is_asker true_asks true_granted true_grants
early_end_holds = refl

-- two of three places crash, and with them all holders of a vertex
lost_vertex_holds : holding shortest 11 (begin shortest (job 3 0 1) triangle (0 ∷ 1 ∷ 2 ∷ []) (line.Step (event.Crash 0 0) ∷ line.Step (event.Crash 2 0) ∷ line.Finish ∷ [])) (first_truth shortest (job 3 0 1) triangle (0 ∷ 1 ∷ 2 ∷ [])) ≡ 11
unfolding first_holders first_rows first_arcs load own_sum gather_body whole_sum new_values update_body with_values signal_body call_body with_due bodies todo worked delivered dropped crashed barred recovered repaired discarded step at_barrier at_recovery at_repair at_discard next_canonical next_event next_position directory_in edges_in edges_with_ends taken taken_edges ask_body new_holders grant_body records_after blank_rows lost_of holding state_after after_round first_state last_from rows_at arcs_at entries_at staged part_sum true_parts true_values true_signals true_calls true_taken is_asker true_asks true_granted true_grants
lost_vertex_holds = refl

-- a rebirth without a spare may not open
no_spare_holds : holding shortest 31 (begin shortest (job 2 0 1) triangle (0 ∷ 1 ∷ 2 ∷ []) (line.Step (event.Crash 0 0) ∷ line.Step event.Barrier ∷ line.Step (event.Recover (0 ∷ [])) ∷ line.Finish ∷ [])) (first_truth shortest (job 2 0 1) triangle (0 ∷ 1 ∷ 2 ∷ [])) ≡ 31
unfolding first_holders first_rows first_arcs load own_sum gather_body whole_sum new_values update_body with_values signal_body call_body with_due bodies todo worked delivered dropped crashed barred recovered repaired discarded step at_barrier at_recovery at_repair at_discard next_canonical next_event next_position directory_in edges_in edges_with_ends taken taken_edges ask_body new_holders grant_body records_after blank_rows lost_of holding state_after after_round first_state last_from rows_at arcs_at entries_at staged part_sum true_parts true_values true_signals true_calls true_taken is_asker true_asks true_granted true_grants
no_spare_holds = refl

-- the surviving place takes over; it installs a commit before it adopts the next epoch
migration_holds : holding shortest 51 (begin shortest (job 2 0 1) triangle (0 ∷ 1 ∷ 2 ∷ []) (line.Settle ∷ line.Step (event.Crash 0 0) ∷ line.Step event.Barrier ∷ line.Finish ∷ [])) (first_truth shortest (job 2 0 1) triangle (0 ∷ 1 ∷ 2 ∷ [])) ≡ 51
unfolding first_holders first_rows first_arcs load own_sum gather_body whole_sum new_values update_body with_values signal_body call_body with_due bodies todo worked delivered dropped crashed barred recovered repaired discarded step at_barrier at_recovery at_repair at_discard next_canonical next_event next_position directory_in edges_in edges_with_ends taken taken_edges ask_body new_holders grant_body records_after blank_rows lost_of holding state_after after_round first_state last_from rows_at arcs_at entries_at staged part_sum true_parts true_values true_signals true_calls true_taken is_asker true_asks true_granted true_grants
migration_holds = refl

-- a repair between two losses
repair_first_holds : holding shortest 95 (begin shortest (job 3 0 1) triangle (0 ∷ 1 ∷ 2 ∷ []) (line.Step (event.Crash 2 0) ∷ line.Settle ∷ line.Step event.Repair ∷ line.Settle ∷ line.Step (event.Crash 0 0) ∷ line.Finish ∷ [])) (first_truth shortest (job 3 0 1) triangle (0 ∷ 1 ∷ 2 ∷ [])) ≡ 95
unfolding first_holders first_rows first_arcs load own_sum gather_body whole_sum new_values update_body with_values signal_body call_body with_due bodies todo worked delivered dropped crashed barred recovered repaired discarded step at_barrier at_recovery at_repair at_discard next_canonical next_event next_position directory_in edges_in edges_with_ends taken taken_edges ask_body new_holders grant_body records_after blank_rows lost_of holding state_after after_round first_state last_from rows_at arcs_at entries_at staged part_sum true_parts true_values true_signals true_calls true_taken is_asker true_asks true_granted true_grants
repair_first_holds = refl
