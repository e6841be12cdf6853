-- Runs with losses that end lost, early or by migration.
use Rattle.std.proofs.Common.{◌≡◌, [], ◌∷◌, ◌++◌, refl}
use Rattle.std.specs.Prelude.{codes}
use Rattle.std.specs.Fmt.{digits}
use Rattle.gr_cut.proofs.Graphs.{triangle}
use Rattle.gr_copies.specs.Holders.{first_holders}
use Rattle.gr_log.specs.Directory.{directory_in, edges_in}
use Rattle.gr_sched.specs.declared.event.Event.TheVariants as event
use Rattle.gr_sched.specs.declared.event.Line.TheVariants as line
use Rattle.gr_view.specs.Decisions.{at_barrier, at_recovery, at_repair, at_discard}
use Rattle.gr_rules.specs.Rows.{blank_rows, with_values, with_due}
use Rattle.gr_rules.specs.Inbox.{bodies}
use Rattle.gr_rules.specs.Round.{own_sum, gather_body, whole_sum, new_values, update_body, signal_body, call_body}
use Rattle.gr_rules.specs.Taken.{edges_with_ends, taken, taken_edges, ask_body}
use Rattle.gr_rules.specs.Grants.{new_holders, grant_body, records_after}
use Rattle.gr_rules.specs.Lost.{lost_of}
use Rattle.gr_rules.proofs.Programs.{shortest}
use Rattle.gr_cluster.specs.Load.{load, first_rows, first_arcs}
use Rattle.gr_cluster.specs.Todo.{todo}
use Rattle.gr_cluster.specs.Work.{worked}
use Rattle.gr_cluster.specs.Network.{delivered, dropped, crashed}
use Rattle.gr_cluster.specs.Step.{barred, recovered, repaired, discarded, step}
use Rattle.gr_cluster.specs.Canonical.{next_canonical}
use Rattle.gr_cluster.specs.Runs.{next_event, next_position, position_after, steps_of}
use Rattle.gr_cluster.specs.TraceText.{trace_text}
use Rattle.gr_cluster.specs.Ending.{results_of}
use Rattle.gr_worked.specs.Played.{job, begin, run_text}

-- a schedule that ends early
early_end : run_text shortest 5 (begin shortest (job 2 0 1) triangle (0 ∷ 1 ∷ 2 ∷ []) (line.Step (event.Deliver 0) ∷ line.Step (event.Crash 1 0) ∷ line.Step (event.Work 1) ∷ [])) ≡ codes "deliver 0 idle\n" ++ codes "crash 1 kept 0\n" ++ codes "work 1 idle\n" ++ codes "unfinished 0\n"
unfolding digits first_holders first_rows first_arcs load own_sum gather_body whole_sum new_values update_body with_values signal_body call_body with_due bodies todo worked delivered dropped crashed barred recovered repaired discarded step at_barrier at_recovery at_repair at_discard next_canonical next_event next_position position_after steps_of trace_text directory_in edges_in edges_with_ends taken taken_edges ask_body new_holders grant_body records_after blank_rows lost_of results_of
early_end = refl

-- two of three places crash, and with them all holders of a vertex
lost_vertex : run_text shortest 12 (begin shortest (job 3 0 1) triangle (0 ∷ 1 ∷ 2 ∷ []) (line.Step (event.Crash 0 0) ∷ line.Step (event.Crash 2 0) ∷ line.Finish ∷ [])) ≡ codes "crash 0 kept 0\n" ++ codes "crash 2 kept 0\n" ++ codes "work 1 compute gather\n" ++ codes "work 1 send 0 gather to 0\n" ++ codes "delivered 0 from 1 to 0 epoch 0 round 0 gather down\n" ++ codes "work 1 send 1 gather to 2\n" ++ codes "delivered 1 from 1 to 2 epoch 0 round 0 gather down\n" ++ codes "barrier failed 0 2\n" ++ codes "work 1 adopt 1\n" ++ codes "recover lost 1\n" ++ codes "lost 1\n" ++ codes "2\n"
unfolding digits first_holders first_rows first_arcs load own_sum gather_body whole_sum new_values update_body with_values signal_body call_body with_due bodies todo worked delivered dropped crashed barred recovered repaired discarded step at_barrier at_recovery at_repair at_discard next_canonical next_event next_position position_after steps_of trace_text directory_in edges_in edges_with_ends taken taken_edges ask_body new_holders grant_body records_after blank_rows lost_of results_of
lost_vertex = refl

-- a rebirth without a spare may not open
no_spare : run_text shortest 32 (begin shortest (job 2 0 1) triangle (0 ∷ 1 ∷ 2 ∷ []) (line.Step (event.Crash 0 0) ∷ line.Step event.Barrier ∷ line.Step (event.Recover (0 ∷ [])) ∷ line.Finish ∷ [])) ≡ codes "crash 0 kept 0\n" ++ codes "barrier failed 0\n" ++ codes "recover rebirth 0 idle\n" ++ codes "work 1 adopt 1\n" ++ codes "recover epoch 2\n" ++ codes "work 1 adopt 2\n" ++ codes "work 1 compute ask\n" ++ codes "work 1 compute grant\n" ++ codes "work 1 compute end\n" ++ codes "work 1 append 100\n" ++ codes "work 1 ready 3\n" ++ codes "barrier committed 1 round 0 due 3\n" ++ codes "work 1 install 1\n" ++ codes "work 1 adopt 3\n" ++ codes "work 1 compute gather\n" ++ codes "work 1 compute update\n" ++ codes "work 1 compute signal\n" ++ codes "work 1 compute call\n" ++ codes "work 1 compute end\n" ++ codes "work 1 ready 1\n" ++ codes "barrier committed 2 round 1 due 1\n" ++ codes "work 1 install 2\n" ++ codes "work 1 adopt 4\n" ++ codes "work 1 compute gather\n" ++ codes "work 1 compute update\n" ++ codes "work 1 compute signal\n" ++ codes "work 1 compute call\n" ++ codes "work 1 compute end\n" ++ codes "work 1 ready 0\n" ++ codes "barrier committed 3 round 2 due 0\n" ++ codes "done 2 3\n" ++ codes "0 0\n" ++ codes "1 1\n" ++ codes "2 1\n"
unfolding digits first_holders first_rows first_arcs load own_sum gather_body whole_sum new_values update_body with_values signal_body call_body with_due bodies todo worked delivered dropped crashed barred recovered repaired discarded step at_barrier at_recovery at_repair at_discard next_canonical next_event next_position position_after steps_of trace_text directory_in edges_in edges_with_ends taken taken_edges ask_body new_holders grant_body records_after blank_rows lost_of results_of
no_spare = refl

-- the surviving place takes over; it installs a commit before it adopts the next epoch
migration : run_text shortest 52 (begin shortest (job 2 0 1) triangle (0 ∷ 1 ∷ 2 ∷ []) (line.Settle ∷ line.Step (event.Crash 0 0) ∷ line.Step event.Barrier ∷ line.Finish ∷ [])) ≡ codes "work 0 compute gather\n" ++ codes "work 0 send 0 gather to 1\n" ++ codes "delivered 0 from 0 to 1 epoch 0 round 0 gather taken\n" ++ codes "work 1 compute gather\n" ++ codes "work 1 send 1 gather to 0\n" ++ codes "delivered 1 from 1 to 0 epoch 0 round 0 gather taken\n" ++ codes "work 0 compute update\n" ++ codes "work 0 send 2 update to 1\n" ++ codes "delivered 2 from 0 to 1 epoch 0 round 0 update taken 0:0:0 2:1:1\n" ++ codes "work 1 compute update\n" ++ codes "work 1 send 3 update to 0\n" ++ codes "delivered 3 from 1 to 0 epoch 0 round 0 update taken 1:1:1\n" ++ codes "work 0 compute signal\n" ++ codes "work 0 send 4 signal to 1\n" ++ codes "delivered 4 from 0 to 1 epoch 0 round 0 signal taken\n" ++ codes "work 1 compute signal\n" ++ codes "work 1 send 5 signal to 0\n" ++ codes "delivered 5 from 1 to 0 epoch 0 round 0 signal taken\n" ++ codes "work 0 compute call\n" ++ codes "work 0 send 6 call to 1\n" ++ codes "delivered 6 from 0 to 1 epoch 0 round 0 call taken 2\n" ++ codes "work 1 compute call\n" ++ codes "work 1 send 7 call to 0\n" ++ codes "delivered 7 from 1 to 0 epoch 0 round 0 call taken\n" ++ codes "work 0 compute end\n" ++ codes "work 0 ready 1\n" ++ codes "work 1 compute end\n" ++ codes "work 1 ready 0\n" ++ codes "barrier committed 1 round 1 due 1\n" ++ codes "crash 0 kept 0\n" ++ codes "barrier failed 0\n" ++ codes "work 1 install 1\n" ++ codes "work 1 adopt 2\n" ++ codes "recover epoch 3\n" ++ codes "work 1 adopt 3\n" ++ codes "work 1 compute ask\n" ++ codes "work 1 compute grant\n" ++ codes "work 1 compute end\n" ++ codes "work 1 append 100\n" ++ codes "work 1 ready 1\n" ++ codes "barrier committed 2 round 1 due 1\n" ++ codes "work 1 install 2\n" ++ codes "work 1 adopt 4\n" ++ codes "work 1 compute gather\n" ++ codes "work 1 compute update\n" ++ codes "work 1 compute signal\n" ++ codes "work 1 compute call\n" ++ codes "work 1 compute end\n" ++ codes "work 1 ready 0\n" ++ codes "barrier committed 3 round 2 due 0\n" ++ codes "done 2 3\n" ++ codes "0 0\n" ++ codes "1 1\n" ++ codes "2 1\n"
unfolding digits first_holders first_rows first_arcs load own_sum gather_body whole_sum new_values update_body with_values signal_body call_body with_due bodies todo worked delivered dropped crashed barred recovered repaired discarded step at_barrier at_recovery at_repair at_discard next_canonical next_event next_position position_after steps_of trace_text directory_in edges_in edges_with_ends taken taken_edges ask_body new_holders grant_body records_after blank_rows lost_of results_of
migration = refl

-- a repair between two losses
repair_first : run_text shortest 96 (begin shortest (job 3 0 1) triangle (0 ∷ 1 ∷ 2 ∷ []) (line.Step (event.Crash 2 0) ∷ line.Settle ∷ line.Step event.Repair ∷ line.Settle ∷ line.Step (event.Crash 0 0) ∷ line.Finish ∷ [])) ≡ codes "crash 2 kept 0\n" ++ codes "work 0 compute gather\n" ++ codes "work 0 send 0 gather to 1\n" ++ codes "delivered 0 from 0 to 1 epoch 0 round 0 gather taken\n" ++ codes "work 0 send 1 gather to 2\n" ++ codes "delivered 1 from 0 to 2 epoch 0 round 0 gather down\n" ++ codes "work 1 compute gather\n" ++ codes "work 1 send 2 gather to 0\n" ++ codes "delivered 2 from 1 to 0 epoch 0 round 0 gather taken\n" ++ codes "work 1 send 3 gather to 2\n" ++ codes "delivered 3 from 1 to 2 epoch 0 round 0 gather down\n" ++ codes "barrier failed 2\n" ++ codes "work 0 adopt 1\n" ++ codes "work 1 adopt 1\n" ++ codes "recover epoch 2\n" ++ codes "work 0 adopt 2\n" ++ codes "work 0 compute ask\n" ++ codes "work 0 send 4 ask to 1\n" ++ codes "delivered 4 from 0 to 1 epoch 2 round 0 ask taken 1\n" ++ codes "work 1 adopt 2\n" ++ codes "work 1 compute ask\n" ++ codes "work 1 send 5 ask to 0\n" ++ codes "delivered 5 from 1 to 0 epoch 2 round 0 ask taken\n" ++ codes "work 0 compute grant\n" ++ codes "work 0 send 6 grant to 1\n" ++ codes "delivered 6 from 0 to 1 epoch 2 round 0 grant taken 0:0:2:0:0,1:0:1\n" ++ codes "work 1 compute grant\n" ++ codes "work 1 send 7 grant to 0\n" ++ codes "delivered 7 from 1 to 0 epoch 2 round 0 grant taken 1:1:1:1:0,1:18446744073709551615:1\n" ++ codes "work 0 compute end\n" ++ codes "work 0 append 100\n" ++ codes "work 0 ready 2\n" ++ codes "work 1 compute end\n" ++ codes "work 1 append 44\n" ++ codes "work 1 ready 1\n" ++ codes "barrier committed 1 round 0 due 3\n" ++ codes "repair epoch 4\n" ++ codes "work 0 install 1\n" ++ codes "work 0 adopt 4\n" ++ codes "work 0 compute ask\n" ++ codes "work 0 send 8 ask to 1\n" ++ codes "delivered 8 from 0 to 1 epoch 4 round 0 ask taken\n" ++ codes "work 1 install 1\n" ++ codes "work 1 adopt 4\n" ++ codes "work 1 compute ask\n" ++ codes "work 1 send 9 ask to 0\n" ++ codes "delivered 9 from 1 to 0 epoch 4 round 0 ask taken\n" ++ codes "work 0 compute grant\n" ++ codes "work 0 send 10 grant to 1\n" ++ codes "delivered 10 from 0 to 1 epoch 4 round 0 grant taken 2:2:0:0:0,1:18446744073709551615:1\n" ++ codes "work 1 compute grant\n" ++ codes "work 1 send 11 grant to 0\n" ++ codes "delivered 11 from 1 to 0 epoch 4 round 0 grant taken\n" ++ codes "work 0 compute end\n" ++ codes "work 0 append 22\n" ++ codes "work 0 ready 2\n" ++ codes "work 1 compute end\n" ++ codes "work 1 append 22\n" ++ codes "work 1 ready 1\n" ++ codes "barrier committed 2 round 0 due 3\n" ++ codes "crash 0 kept 0\n" ++ codes "work 1 install 2\n" ++ codes "work 1 adopt 5\n" ++ codes "work 1 compute gather\n" ++ codes "work 1 send 12 gather to 0\n" ++ codes "delivered 12 from 1 to 0 epoch 5 round 0 gather down\n" ++ codes "barrier failed 0\n" ++ codes "work 1 adopt 6\n" ++ codes "recover epoch 7\n" ++ codes "work 1 adopt 7\n" ++ codes "work 1 compute ask\n" ++ codes "work 1 compute grant\n" ++ codes "work 1 compute end\n" ++ codes "work 1 append 100\n" ++ codes "work 1 ready 3\n" ++ codes "barrier committed 3 round 0 due 3\n" ++ codes "work 1 install 3\n" ++ codes "work 1 adopt 8\n" ++ codes "work 1 compute gather\n" ++ codes "work 1 compute update\n" ++ codes "work 1 compute signal\n" ++ codes "work 1 compute call\n" ++ codes "work 1 compute end\n" ++ codes "work 1 ready 1\n" ++ codes "barrier committed 4 round 1 due 1\n" ++ codes "work 1 install 4\n" ++ codes "work 1 adopt 9\n" ++ codes "work 1 compute gather\n" ++ codes "work 1 compute update\n" ++ codes "work 1 compute signal\n" ++ codes "work 1 compute call\n" ++ codes "work 1 compute end\n" ++ codes "work 1 ready 0\n" ++ codes "barrier committed 5 round 2 due 0\n" ++ codes "done 2 3\n" ++ codes "0 0\n" ++ codes "1 1\n" ++ codes "2 1\n"
unfolding digits first_holders first_rows first_arcs load own_sum gather_body whole_sum new_values update_body with_values signal_body call_body with_due bodies todo worked delivered dropped crashed barred recovered repaired discarded step at_barrier at_recovery at_repair at_discard next_canonical next_event next_position position_after steps_of trace_text directory_in edges_in edges_with_ends taken taken_edges ask_body new_holders grant_body records_after blank_rows lost_of results_of
repair_first = refl
