-- The invariant holds in every state of the runs without a loss.
use Rattle.std.proofs.Common.{◌≡◌, [], ◌∷◌, refl}
use Rattle.gr_cut.proofs.Graphs.{edge, triangle, star}
use Rattle.gr_copies.specs.Holders.{first_holders}
use Rattle.gr_log.specs.Directory.{directory_in, edges_in}
use Rattle.gr_sched.specs.declared.event.Event.TheVariants as event
use Rattle.gr_sched.specs.declared.event.Line.TheVariants as line
use Rattle.gr_view.specs.Decisions.{at_barrier, at_recovery, at_repair, at_discard}
use Rattle.gr_rules.specs.Rows.{blank_rows, with_values, with_due}
use Rattle.gr_rules.specs.Inbox.{bodies}
use Rattle.gr_rules.specs.Round.{own_sum, gather_body, whole_sum, new_values, update_body, signal_body, call_body}
use Rattle.gr_rules.specs.Taken.{edges_with_ends, taken, taken_edges, ask_body}
use Rattle.gr_rules.specs.Grants.{new_holders, grant_body, records_after}
use Rattle.gr_rules.specs.Lost.{lost_of}
use Rattle.gr_rules.proofs.Programs.{shortest, in_degree}
use Rattle.gr_cluster.specs.Load.{load, first_rows, first_arcs}
use Rattle.gr_cluster.specs.Todo.{todo}
use Rattle.gr_cluster.specs.Work.{worked}
use Rattle.gr_cluster.specs.Network.{delivered, dropped, crashed}
use Rattle.gr_cluster.specs.Step.{barred, recovered, repaired, discarded, step}
use Rattle.gr_cluster.specs.Canonical.{next_canonical}
use Rattle.gr_cluster.specs.Runs.{next_event, next_position}
use Rattle.gr_program.specs.Rounds.{state_after, after_round, first_state, last_from}
use Rattle.gr_agree.specs.FirstTruth.{first_truth}
use Rattle.gr_agree.specs.Truth.{rows_at, arcs_at, entries_at}
use Rattle.gr_agree.specs.TrueRound.{staged, part_sum, true_parts, true_values, true_signals, true_calls}
use Rattle.gr_agree.specs.Rebuilt.{true_taken, is_asker, true_asks, true_granted, true_grants}
use Rattle.gr_worked.specs.Played.{job, begin}
use Rattle.gr_worked.proofs.Agreement.{holding}

-- one place has nobody to send to
one_place_holds : holding in_degree 8 (begin in_degree (job 1 0 1) (edge 0 1 ∷ []) (0 ∷ 1 ∷ []) (line.Finish ∷ [])) (first_truth in_degree (job 1 0 1) (edge 0 1 ∷ []) (0 ∷ 1 ∷ [])) ≡ 8
unfolding first_holders first_rows first_arcs load own_sum gather_body whole_sum new_values update_body with_values signal_body call_body with_due bodies todo worked delivered dropped crashed barred recovered repaired discarded step at_barrier at_recovery at_repair at_discard next_canonical next_event next_position directory_in edges_in edges_with_ends taken taken_edges ask_body new_holders grant_body records_after blank_rows lost_of holding state_after after_round first_state last_from rows_at arcs_at entries_at staged part_sum true_parts true_values true_signals true_calls true_taken is_asker true_asks true_granted true_grants
one_place_holds = refl

-- a whole round of two places
two_places_holds : holding in_degree 30 (begin in_degree (job 2 0 1) (edge 0 1 ∷ []) (0 ∷ 1 ∷ []) (line.Finish ∷ [])) (first_truth in_degree (job 2 0 1) (edge 0 1 ∷ []) (0 ∷ 1 ∷ [])) ≡ 30
unfolding first_holders first_rows first_arcs load own_sum gather_body whole_sum new_values update_body with_values signal_body call_body with_due bodies todo worked delivered dropped crashed barred recovered repaired discarded step at_barrier at_recovery at_repair at_discard next_canonical next_event next_position directory_in edges_in edges_with_ends taken taken_edges ask_body new_holders grant_body records_after blank_rows lost_of holding state_after after_round first_state last_from rows_at arcs_at entries_at staged part_sum true_parts true_values true_signals true_calls true_taken is_asker true_asks true_granted true_grants
two_places_holds = refl

-- batches are delivered in another order
other_order_holds : holding shortest 63 (begin shortest (job 2 0 1) triangle (0 ∷ 1 ∷ 2 ∷ []) (line.Step (event.Work 0) ∷ line.Step (event.Work 0) ∷ line.Step (event.Work 1) ∷ line.Step (event.Work 1) ∷ line.Step (event.Deliver 1) ∷ line.Step (event.Deliver 0) ∷ line.Finish ∷ [])) (first_truth shortest (job 2 0 1) triangle (0 ∷ 1 ∷ 2 ∷ [])) ≡ 63
unfolding first_holders first_rows first_arcs load own_sum gather_body whole_sum new_values update_body with_values signal_body call_body with_due bodies todo worked delivered dropped crashed barred recovered repaired discarded step at_barrier at_recovery at_repair at_discard next_canonical next_event next_position directory_in edges_in edges_with_ends taken taken_edges ask_body new_holders grant_body records_after blank_rows lost_of holding state_after after_round first_state last_from rows_at arcs_at entries_at staged part_sum true_parts true_values true_signals true_calls true_taken is_asker true_asks true_granted true_grants
other_order_holds = refl

-- parts of the sum of a high vertex
high_vertex_holds : holding in_degree 68 (begin in_degree (record (job 3 0 1) { theta = 3 }) star (0 ∷ 1 ∷ 2 ∷ 3 ∷ 4 ∷ 5 ∷ 6 ∷ []) (line.Finish ∷ [])) (first_truth in_degree (record (job 3 0 1) { theta = 3 }) star (0 ∷ 1 ∷ 2 ∷ 3 ∷ 4 ∷ 5 ∷ 6 ∷ [])) ≡ 68
unfolding first_holders first_rows first_arcs load own_sum gather_body whole_sum new_values update_body with_values signal_body call_body with_due bodies todo worked delivered dropped crashed barred recovered repaired discarded step at_barrier at_recovery at_repair at_discard next_canonical next_event next_position directory_in edges_in edges_with_ends taken taken_edges ask_body new_holders grant_body records_after blank_rows lost_of holding state_after after_round first_state last_from rows_at arcs_at entries_at staged part_sum true_parts true_values true_signals true_calls true_taken is_asker true_asks true_granted true_grants
high_vertex_holds = refl
