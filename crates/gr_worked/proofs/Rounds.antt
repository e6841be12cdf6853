-- Whole runs without a loss.
use Rattle.std.proofs.Common.{◌≡◌, [], ◌∷◌, ◌++◌, refl}
use Rattle.std.specs.Prelude.{codes}
use Rattle.std.specs.Fmt.{digits}
use Rattle.gr_cut.proofs.Graphs.{edge, triangle, star}
use Rattle.gr_copies.specs.Holders.{first_holders}
use Rattle.gr_log.specs.Directory.{directory_in, edges_in}
use Rattle.gr_sched.specs.declared.event.Event.TheVariants as event
use Rattle.gr_sched.specs.declared.event.Line.TheVariants as line
use Rattle.gr_view.specs.Decisions.{at_barrier, at_recovery, at_repair, at_discard}
use Rattle.gr_rules.specs.Rows.{blank_rows, with_values, with_due}
use Rattle.gr_rules.specs.Inbox.{bodies}
use Rattle.gr_rules.specs.Round.{own_sum, gather_body, whole_sum, new_values, update_body, signal_body, call_body}
use Rattle.gr_rules.specs.Taken.{edges_with_ends, taken, taken_edges, ask_body}
use Rattle.gr_rules.specs.Grants.{new_holders, grant_body, records_after}
use Rattle.gr_rules.specs.Lost.{lost_of}
use Rattle.gr_rules.proofs.Programs.{shortest, in_degree}
use Rattle.gr_cluster.specs.Load.{load, first_rows, first_arcs}
use Rattle.gr_cluster.specs.Todo.{todo}
use Rattle.gr_cluster.specs.Work.{worked}
use Rattle.gr_cluster.specs.Network.{delivered, dropped, crashed}
use Rattle.gr_cluster.specs.Step.{barred, recovered, repaired, discarded, step}
use Rattle.gr_cluster.specs.Canonical.{next_canonical}
use Rattle.gr_cluster.specs.Runs.{next_event, next_position, position_after, steps_of}
use Rattle.gr_cluster.specs.TraceText.{trace_text}
use Rattle.gr_cluster.specs.Ending.{results_of}
use Rattle.gr_worked.specs.Played.{job, begin, run_text}

-- one place has nobody to send to
one_place : run_text in_degree 9 (begin in_degree (job 1 0 1) (edge 0 1 ∷ []) (0 ∷ 1 ∷ []) (line.Finish ∷ [])) ≡ codes "work 0 compute gather\n" ++ codes "work 0 compute update\n" ++ codes "work 0 compute signal\n" ++ codes "work 0 compute call\n" ++ codes "work 0 compute end\n" ++ codes "work 0 ready 0\n" ++ codes "barrier committed 1 round 1 due 0\n" ++ codes "done 1 2\n" ++ codes "0 0\n" ++ codes "1 1\n"
unfolding digits first_holders first_rows first_arcs load own_sum gather_body whole_sum new_values update_body with_values signal_body call_body with_due bodies todo worked delivered dropped crashed barred recovered repaired discarded step at_barrier at_recovery at_repair at_discard next_canonical next_event next_position position_after steps_of trace_text directory_in edges_in edges_with_ends taken taken_edges ask_body new_holders grant_body records_after blank_rows lost_of results_of
one_place = refl

-- a whole round of two places
two_places : run_text in_degree 31 (begin in_degree (job 2 0 1) (edge 0 1 ∷ []) (0 ∷ 1 ∷ []) (line.Finish ∷ [])) ≡ codes "work 0 compute gather\n" ++ codes "work 0 send 0 gather to 1\n" ++ codes "delivered 0 from 0 to 1 epoch 0 round 0 gather taken\n" ++ codes "work 1 compute gather\n" ++ codes "work 1 send 1 gather to 0\n" ++ codes "delivered 1 from 1 to 0 epoch 0 round 0 gather taken\n" ++ codes "work 0 compute update\n" ++ codes "work 0 send 2 update to 1\n" ++ codes "delivered 2 from 0 to 1 epoch 0 round 0 update taken 0:0:0\n" ++ codes "work 1 compute update\n" ++ codes "work 1 send 3 update to 0\n" ++ codes "delivered 3 from 1 to 0 epoch 0 round 0 update taken\n" ++ codes "work 0 compute signal\n" ++ codes "work 0 send 4 signal to 1\n" ++ codes "delivered 4 from 0 to 1 epoch 0 round 0 signal taken\n" ++ codes "work 1 compute signal\n" ++ codes "work 1 send 5 signal to 0\n" ++ codes "delivered 5 from 1 to 0 epoch 0 round 0 signal taken\n" ++ codes "work 0 compute call\n" ++ codes "work 0 send 6 call to 1\n" ++ codes "delivered 6 from 0 to 1 epoch 0 round 0 call taken\n" ++ codes "work 1 compute call\n" ++ codes "work 1 send 7 call to 0\n" ++ codes "delivered 7 from 1 to 0 epoch 0 round 0 call taken\n" ++ codes "work 0 compute end\n" ++ codes "work 0 ready 0\n" ++ codes "work 1 compute end\n" ++ codes "work 1 ready 0\n" ++ codes "barrier committed 1 round 1 due 0\n" ++ codes "done 1 2\n" ++ codes "0 0\n" ++ codes "1 1\n"
unfolding digits first_holders first_rows first_arcs load own_sum gather_body whole_sum new_values update_body with_values signal_body call_body with_due bodies todo worked delivered dropped crashed barred recovered repaired discarded step at_barrier at_recovery at_repair at_discard next_canonical next_event next_position position_after steps_of trace_text directory_in edges_in edges_with_ends taken taken_edges ask_body new_holders grant_body records_after blank_rows lost_of results_of
two_places = refl

-- batches are delivered in another order
other_order : run_text shortest 64 (begin shortest (job 2 0 1) triangle (0 ∷ 1 ∷ 2 ∷ []) (line.Step (event.Work 0) ∷ line.Step (event.Work 0) ∷ line.Step (event.Work 1) ∷ line.Step (event.Work 1) ∷ line.Step (event.Deliver 1) ∷ line.Step (event.Deliver 0) ∷ line.Finish ∷ [])) ≡ codes "work 0 compute gather\n" ++ codes "work 0 send 0 gather to 1\n" ++ codes "work 1 compute gather\n" ++ codes "work 1 send 1 gather to 0\n" ++ codes "delivered 1 from 1 to 0 epoch 0 round 0 gather taken\n" ++ codes "delivered 0 from 0 to 1 epoch 0 round 0 gather taken\n" ++ codes "work 0 compute update\n" ++ codes "work 0 send 2 update to 1\n" ++ codes "delivered 2 from 0 to 1 epoch 0 round 0 update taken 0:0:0 2:1:1\n" ++ codes "work 1 compute update\n" ++ codes "work 1 send 3 update to 0\n" ++ codes "delivered 3 from 1 to 0 epoch 0 round 0 update taken 1:1:1\n" ++ codes "work 0 compute signal\n" ++ codes "work 0 send 4 signal to 1\n" ++ codes "delivered 4 from 0 to 1 epoch 0 round 0 signal taken\n" ++ codes "work 1 compute signal\n" ++ codes "work 1 send 5 signal to 0\n" ++ codes "delivered 5 from 1 to 0 epoch 0 round 0 signal taken\n" ++ codes "work 0 compute call\n" ++ codes "work 0 send 6 call to 1\n" ++ codes "delivered 6 from 0 to 1 epoch 0 round 0 call taken 2\n" ++ codes "work 1 compute call\n" ++ codes "work 1 send 7 call to 0\n" ++ codes "delivered 7 from 1 to 0 epoch 0 round 0 call taken\n" ++ codes "work 0 compute end\n" ++ codes "work 0 ready 1\n" ++ codes "work 1 compute end\n" ++ codes "work 1 ready 0\n" ++ codes "barrier committed 1 round 1 due 1\n" ++ codes "work 0 install 1\n" ++ codes "work 0 adopt 1\n" ++ codes "work 0 compute gather\n" ++ codes "work 0 send 8 gather to 1\n" ++ codes "delivered 8 from 0 to 1 epoch 1 round 1 gather taken\n" ++ codes "work 1 install 1\n" ++ codes "work 1 adopt 1\n" ++ codes "work 1 compute gather\n" ++ codes "work 1 send 9 gather to 0\n" ++ codes "delivered 9 from 1 to 0 epoch 1 round 1 gather taken\n" ++ codes "work 0 compute update\n" ++ codes "work 0 send 10 update to 1\n" ++ codes "delivered 10 from 0 to 1 epoch 1 round 1 update taken 2:1:0\n" ++ codes "work 1 compute update\n" ++ codes "work 1 send 11 update to 0\n" ++ codes "delivered 11 from 1 to 0 epoch 1 round 1 update taken\n" ++ codes "work 0 compute signal\n" ++ codes "work 0 send 12 signal to 1\n" ++ codes "delivered 12 from 0 to 1 epoch 1 round 1 signal taken\n" ++ codes "work 1 compute signal\n" ++ codes "work 1 send 13 signal to 0\n" ++ codes "delivered 13 from 1 to 0 epoch 1 round 1 signal taken\n" ++ codes "work 0 compute call\n" ++ codes "work 0 send 14 call to 1\n" ++ codes "delivered 14 from 0 to 1 epoch 1 round 1 call taken\n" ++ codes "work 1 compute call\n" ++ codes "work 1 send 15 call to 0\n" ++ codes "delivered 15 from 1 to 0 epoch 1 round 1 call taken\n" ++ codes "work 0 compute end\n" ++ codes "work 0 ready 0\n" ++ codes "work 1 compute end\n" ++ codes "work 1 ready 0\n" ++ codes "barrier committed 2 round 2 due 0\n" ++ codes "done 2 3\n" ++ codes "0 0\n" ++ codes "1 1\n" ++ codes "2 1\n"
unfolding digits first_holders first_rows first_arcs load own_sum gather_body whole_sum new_values update_body with_values signal_body call_body with_due bodies todo worked delivered dropped crashed barred recovered repaired discarded step at_barrier at_recovery at_repair at_discard next_canonical next_event next_position position_after steps_of trace_text directory_in edges_in edges_with_ends taken taken_edges ask_body new_holders grant_body records_after blank_rows lost_of results_of
other_order = refl

-- parts of the sum of a high vertex
high_vertex : run_text in_degree 69 (begin in_degree (record (job 3 0 1) { theta = 3 }) star (0 ∷ 1 ∷ 2 ∷ 3 ∷ 4 ∷ 5 ∷ 6 ∷ []) (line.Finish ∷ [])) ≡ codes "work 0 compute gather\n" ++ codes "work 0 send 0 gather to 1\n" ++ codes "delivered 0 from 0 to 1 epoch 0 round 0 gather taken\n" ++ codes "work 0 send 1 gather to 2\n" ++ codes "delivered 1 from 0 to 2 epoch 0 round 0 gather taken\n" ++ codes "work 1 compute gather\n" ++ codes "work 1 send 2 gather to 0\n" ++ codes "delivered 2 from 1 to 0 epoch 0 round 0 gather taken 0:2\n" ++ codes "work 1 send 3 gather to 2\n" ++ codes "delivered 3 from 1 to 2 epoch 0 round 0 gather taken\n" ++ codes "work 2 compute gather\n" ++ codes "work 2 send 4 gather to 0\n" ++ codes "delivered 4 from 2 to 0 epoch 0 round 0 gather taken 0:2\n" ++ codes "work 0 compute update\n" ++ codes "work 0 send 5 update to 1\n" ++ codes "delivered 5 from 0 to 1 epoch 0 round 0 update taken 3:0:0 6:0:0\n" ++ codes "work 0 send 6 update to 2\n" ++ codes "delivered 6 from 0 to 2 epoch 0 round 0 update taken\n" ++ codes "work 2 send 7 gather to 1\n" ++ codes "delivered 7 from 2 to 1 epoch 0 round 0 gather taken\n" ++ codes "work 1 compute update\n" ++ codes "work 1 send 8 update to 0\n" ++ codes "delivered 8 from 1 to 0 epoch 0 round 0 update taken\n" ++ codes "work 1 send 9 update to 2\n" ++ codes "delivered 9 from 1 to 2 epoch 0 round 0 update taken 1:0:0 4:0:0\n" ++ codes "work 2 compute update\n" ++ codes "work 2 send 10 update to 0\n" ++ codes "delivered 10 from 2 to 0 epoch 0 round 0 update taken 2:0:0 5:0:0\n" ++ codes "work 0 compute signal\n" ++ codes "work 0 send 11 signal to 1\n" ++ codes "delivered 11 from 0 to 1 epoch 0 round 0 signal taken\n" ++ codes "work 0 send 12 signal to 2\n" ++ codes "delivered 12 from 0 to 2 epoch 0 round 0 signal taken\n" ++ codes "work 2 send 13 update to 1\n" ++ codes "delivered 13 from 2 to 1 epoch 0 round 0 update taken\n" ++ codes "work 1 compute signal\n" ++ codes "work 1 send 14 signal to 0\n" ++ codes "delivered 14 from 1 to 0 epoch 0 round 0 signal taken\n" ++ codes "work 1 send 15 signal to 2\n" ++ codes "delivered 15 from 1 to 2 epoch 0 round 0 signal taken\n" ++ codes "work 2 compute signal\n" ++ codes "work 2 send 16 signal to 0\n" ++ codes "delivered 16 from 2 to 0 epoch 0 round 0 signal taken\n" ++ codes "work 0 compute call\n" ++ codes "work 0 send 17 call to 1\n" ++ codes "delivered 17 from 0 to 1 epoch 0 round 0 call taken\n" ++ codes "work 0 send 18 call to 2\n" ++ codes "delivered 18 from 0 to 2 epoch 0 round 0 call taken\n" ++ codes "work 2 send 19 signal to 1\n" ++ codes "delivered 19 from 2 to 1 epoch 0 round 0 signal taken\n" ++ codes "work 1 compute call\n" ++ codes "work 1 send 20 call to 0\n" ++ codes "delivered 20 from 1 to 0 epoch 0 round 0 call taken\n" ++ codes "work 1 send 21 call to 2\n" ++ codes "delivered 21 from 1 to 2 epoch 0 round 0 call taken\n" ++ codes "work 2 compute call\n" ++ codes "work 2 send 22 call to 0\n" ++ codes "delivered 22 from 2 to 0 epoch 0 round 0 call taken\n" ++ codes "work 0 compute end\n" ++ codes "work 0 ready 0\n" ++ codes "work 2 send 23 call to 1\n" ++ codes "delivered 23 from 2 to 1 epoch 0 round 0 call taken\n" ++ codes "work 1 compute end\n" ++ codes "work 1 ready 0\n" ++ codes "work 2 compute end\n" ++ codes "work 2 ready 0\n" ++ codes "barrier committed 1 round 1 due 0\n" ++ codes "done 1 7\n" ++ codes "0 6\n" ++ codes "1 0\n" ++ codes "2 0\n" ++ codes "3 0\n" ++ codes "4 0\n" ++ codes "5 0\n" ++ codes "6 0\n"
unfolding digits first_holders first_rows first_arcs load own_sum gather_body whole_sum new_values update_body with_values signal_body call_body with_due bodies todo worked delivered dropped crashed barred recovered repaired discarded step at_barrier at_recovery at_repair at_discard next_canonical next_event next_position position_after steps_of trace_text directory_in edges_in edges_with_ends taken taken_edges ask_body new_holders grant_body records_after blank_rows lost_of results_of
high_vertex = refl
