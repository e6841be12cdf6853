-- A run in which the spare crashes too.
use Rattle.std.proofs.Common.{◌≡◌, [], ◌∷◌, ◌++◌, refl}
use Rattle.std.specs.Prelude.{codes}
use Rattle.std.specs.Fmt.{digits}
use Rattle.gr_cut.proofs.Graphs.{triangle}
use Rattle.gr_copies.specs.Holders.{first_holders}
use Rattle.gr_log.specs.Directory.{directory_in, edges_in}
use Rattle.gr_sched.specs.declared.event.Event.TheVariants as event
use Rattle.gr_sched.specs.declared.event.Line.TheVariants as line
use Rattle.gr_view.specs.Decisions.{at_barrier, at_recovery, at_repair, at_discard}
use Rattle.gr_rules.specs.Rows.{blank_rows, with_values, with_due}
use Rattle.gr_rules.specs.Inbox.{bodies}
use Rattle.gr_rules.specs.Round.{own_sum, gather_body, whole_sum, new_values, update_body, signal_body, call_body}
use Rattle.gr_rules.specs.Taken.{edges_with_ends, taken, taken_edges, ask_body}
use Rattle.gr_rules.specs.Grants.{new_holders, grant_body, records_after}
use Rattle.gr_rules.specs.Lost.{lost_of}
use Rattle.gr_rules.proofs.Programs.{shortest}
use Rattle.gr_cluster.specs.Load.{load, first_rows, first_arcs}
use Rattle.gr_cluster.specs.Todo.{todo}
use Rattle.gr_cluster.specs.Work.{worked}
use Rattle.gr_cluster.specs.Network.{delivered, dropped, crashed}
use Rattle.gr_cluster.specs.Step.{barred, recovered, repaired, discarded, step}
use Rattle.gr_cluster.specs.Canonical.{next_canonical}
use Rattle.gr_cluster.specs.Runs.{next_event, next_position, position_after, steps_of}
use Rattle.gr_cluster.specs.TraceText.{trace_text}
use Rattle.gr_cluster.specs.Ending.{results_of}
use Rattle.gr_worked.specs.Played.{job, begin, run_text}

-- the crashed spare is gone, and the second one is used
crash_of_the_reborn : run_text shortest 210 (begin shortest (job 3 2 2) triangle (0 ∷ 1 ∷ 2 ∷ []) (line.Step (event.Crash 0 0) ∷ line.Step event.Barrier ∷ line.Step (event.Recover (0 ∷ [])) ∷ line.Step (event.Crash 0 0) ∷ line.Finish ∷ [])) ≡ codes "crash 0 kept 0\n" ++ codes "barrier failed 0\n" ++ codes "recover epoch 2 rebirth 0\n" ++ codes "crash 0 kept 0\n" ++ codes "work 1 adopt 2\n" ++ codes "work 1 compute ask\n" ++ codes "work 1 send 0 ask to 0\n" ++ codes "delivered 0 from 1 to 0 epoch 2 round 0 ask down\n" ++ codes "work 1 send 1 ask to 2\n" ++ codes "delivered 1 from 1 to 2 epoch 2 round 0 ask taken\n" ++ codes "work 2 adopt 2\n" ++ codes "work 2 compute ask\n" ++ codes "work 2 send 2 ask to 0\n" ++ codes "delivered 2 from 2 to 0 epoch 2 round 0 ask down\n" ++ codes "work 2 send 3 ask to 1\n" ++ codes "delivered 3 from 2 to 1 epoch 2 round 0 ask taken\n" ++ codes "barrier failed 0\n" ++ codes "work 1 adopt 3\n" ++ codes "work 2 adopt 3\n" ++ codes "recover epoch 4 rebirth 0\n" ++ codes "work 0 compute ask\n" ++ codes "work 0 send 4 ask to 1\n" ++ codes "delivered 4 from 0 to 1 epoch 4 round 0 ask taken\n" ++ codes "work 0 send 5 ask to 2\n" ++ codes "delivered 5 from 0 to 2 epoch 4 round 0 ask taken\n" ++ codes "work 1 adopt 4\n" ++ codes "work 1 compute ask\n" ++ codes "work 1 send 6 ask to 0\n" ++ codes "delivered 6 from 1 to 0 epoch 4 round 0 ask taken\n" ++ codes "work 1 send 7 ask to 2\n" ++ codes "delivered 7 from 1 to 2 epoch 4 round 0 ask taken\n" ++ codes "work 2 adopt 4\n" ++ codes "work 2 compute ask\n" ++ codes "work 2 send 8 ask to 0\n" ++ codes "delivered 8 from 2 to 0 epoch 4 round 0 ask taken\n" ++ codes "work 0 compute grant\n" ++ codes "work 0 send 9 grant to 1\n" ++ codes "delivered 9 from 0 to 1 epoch 4 round 0 grant taken\n" ++ codes "work 0 send 10 grant to 2\n" ++ codes "delivered 10 from 0 to 2 epoch 4 round 0 grant taken\n" ++ codes "work 2 send 11 ask to 1\n" ++ codes "delivered 11 from 2 to 1 epoch 4 round 0 ask taken\n" ++ codes "work 1 compute grant\n" ++ codes "work 1 send 12 grant to 0\n" ++ codes "delivered 12 from 1 to 0 epoch 4 round 0 grant taken 0:0:2:0:0,1,2:0:1 1:1:1:1:0,1,2:18446744073709551615:1\n" ++ codes "work 1 send 13 grant to 2\n" ++ codes "delivered 13 from 1 to 2 epoch 4 round 0 grant taken 0:0:2:0:0,1,2:0:1 1:1:1:1:0,1,2:18446744073709551615:1\n" ++ codes "work 2 compute grant\n" ++ codes "work 2 send 14 grant to 0\n" ++ codes "delivered 14 from 2 to 0 epoch 4 round 0 grant taken 2:2:0:2:0,1,2:18446744073709551615:1\n" ++ codes "work 0 compute end\n" ++ codes "work 0 append 66\n" ++ codes "work 0 ready 1\n" ++ codes "work 2 send 15 grant to 1\n" ++ codes "delivered 15 from 2 to 1 epoch 4 round 0 grant taken 2:2:0:2:0,1,2:18446744073709551615:1\n" ++ codes "work 1 compute end\n" ++ codes "work 1 append 66\n" ++ codes "work 1 ready 1\n" ++ codes "work 2 compute end\n" ++ codes "work 2 append 66\n" ++ codes "work 2 ready 1\n" ++ codes "barrier committed 1 round 0 due 3\n" ++ codes "work 0 install 1\n" ++ codes "work 0 adopt 5\n" ++ codes "work 0 compute gather\n" ++ codes "work 0 send 16 gather to 1\n" ++ codes "delivered 16 from 0 to 1 epoch 5 round 0 gather taken\n" ++ codes "work 0 send 17 gather to 2\n" ++ codes "delivered 17 from 0 to 2 epoch 5 round 0 gather taken\n" ++ codes "work 1 install 1\n" ++ codes "work 1 adopt 5\n" ++ codes "work 1 compute gather\n" ++ codes "work 1 send 18 gather to 0\n" ++ codes "delivered 18 from 1 to 0 epoch 5 round 0 gather taken\n" ++ codes "work 1 send 19 gather to 2\n" ++ codes "delivered 19 from 1 to 2 epoch 5 round 0 gather taken\n" ++ codes "work 2 install 1\n" ++ codes "work 2 adopt 5\n" ++ codes "work 2 compute gather\n" ++ codes "work 2 send 20 gather to 0\n" ++ codes "delivered 20 from 2 to 0 epoch 5 round 0 gather taken\n" ++ codes "work 0 compute update\n" ++ codes "work 0 send 21 update to 1\n" ++ codes "delivered 21 from 0 to 1 epoch 5 round 0 update taken 0:0:0\n" ++ codes "work 0 send 22 update to 2\n" ++ codes "delivered 22 from 0 to 2 epoch 5 round 0 update taken 0:0:0\n" ++ codes "work 2 send 23 gather to 1\n" ++ codes "delivered 23 from 2 to 1 epoch 5 round 0 gather taken\n" ++ codes "work 1 compute update\n" ++ codes "work 1 send 24 update to 0\n" ++ codes "delivered 24 from 1 to 0 epoch 5 round 0 update taken 1:1:1\n" ++ codes "work 1 send 25 update to 2\n" ++ codes "delivered 25 from 1 to 2 epoch 5 round 0 update taken 1:1:1\n" ++ codes "work 2 compute update\n" ++ codes "work 2 send 26 update to 0\n" ++ codes "delivered 26 from 2 to 0 epoch 5 round 0 update taken 2:1:1\n" ++ codes "work 0 compute signal\n" ++ codes "work 0 send 27 signal to 1\n" ++ codes "delivered 27 from 0 to 1 epoch 5 round 0 signal taken\n" ++ codes "work 0 send 28 signal to 2\n" ++ codes "delivered 28 from 0 to 2 epoch 5 round 0 signal taken\n" ++ codes "work 2 send 29 update to 1\n" ++ codes "delivered 29 from 2 to 1 epoch 5 round 0 update taken 2:1:1\n" ++ codes "work 1 compute signal\n" ++ codes "work 1 send 30 signal to 0\n" ++ codes "delivered 30 from 1 to 0 epoch 5 round 0 signal taken\n" ++ codes "work 1 send 31 signal to 2\n" ++ codes "delivered 31 from 1 to 2 epoch 5 round 0 signal taken\n" ++ codes "work 2 compute signal\n" ++ codes "work 2 send 32 signal to 0\n" ++ codes "delivered 32 from 2 to 0 epoch 5 round 0 signal taken\n" ++ codes "work 0 compute call\n" ++ codes "work 0 send 33 call to 1\n" ++ codes "delivered 33 from 0 to 1 epoch 5 round 0 call taken\n" ++ codes "work 0 send 34 call to 2\n" ++ codes "delivered 34 from 0 to 2 epoch 5 round 0 call taken\n" ++ codes "work 2 send 35 signal to 1\n" ++ codes "delivered 35 from 2 to 1 epoch 5 round 0 signal taken\n" ++ codes "work 1 compute call\n" ++ codes "work 1 send 36 call to 0\n" ++ codes "delivered 36 from 1 to 0 epoch 5 round 0 call taken\n" ++ codes "work 1 send 37 call to 2\n" ++ codes "delivered 37 from 1 to 2 epoch 5 round 0 call taken\n" ++ codes "work 2 compute call\n" ++ codes "work 2 send 38 call to 0\n" ++ codes "delivered 38 from 2 to 0 epoch 5 round 0 call taken 2\n" ++ codes "work 0 compute end\n" ++ codes "work 0 ready 0\n" ++ codes "work 2 send 39 call to 1\n" ++ codes "delivered 39 from 2 to 1 epoch 5 round 0 call taken 2\n" ++ codes "work 1 compute end\n" ++ codes "work 1 ready 0\n" ++ codes "work 2 compute end\n" ++ codes "work 2 ready 1\n" ++ codes "barrier committed 2 round 1 due 1\n" ++ codes "work 0 install 2\n" ++ codes "work 0 adopt 6\n" ++ codes "work 0 compute gather\n" ++ codes "work 0 send 40 gather to 1\n" ++ codes "delivered 40 from 0 to 1 epoch 6 round 1 gather taken\n" ++ codes "work 0 send 41 gather to 2\n" ++ codes "delivered 41 from 0 to 2 epoch 6 round 1 gather taken\n" ++ codes "work 1 install 2\n" ++ codes "work 1 adopt 6\n" ++ codes "work 1 compute gather\n" ++ codes "work 1 send 42 gather to 0\n" ++ codes "delivered 42 from 1 to 0 epoch 6 round 1 gather taken\n" ++ codes "work 1 send 43 gather to 2\n" ++ codes "delivered 43 from 1 to 2 epoch 6 round 1 gather taken\n" ++ codes "work 2 install 2\n" ++ codes "work 2 adopt 6\n" ++ codes "work 2 compute gather\n" ++ codes "work 2 send 44 gather to 0\n" ++ codes "delivered 44 from 2 to 0 epoch 6 round 1 gather taken\n" ++ codes "work 0 compute update\n" ++ codes "work 0 send 45 update to 1\n" ++ codes "delivered 45 from 0 to 1 epoch 6 round 1 update taken\n" ++ codes "work 0 send 46 update to 2\n" ++ codes "delivered 46 from 0 to 2 epoch 6 round 1 update taken\n" ++ codes "work 2 send 47 gather to 1\n" ++ codes "delivered 47 from 2 to 1 epoch 6 round 1 gather taken\n" ++ codes "work 1 compute update\n" ++ codes "work 1 send 48 update to 0\n" ++ codes "delivered 48 from 1 to 0 epoch 6 round 1 update taken\n" ++ codes "work 1 send 49 update to 2\n" ++ codes "delivered 49 from 1 to 2 epoch 6 round 1 update taken\n" ++ codes "work 2 compute update\n" ++ codes "work 2 send 50 update to 0\n" ++ codes "delivered 50 from 2 to 0 epoch 6 round 1 update taken 2:1:0\n" ++ codes "work 0 compute signal\n" ++ codes "work 0 send 51 signal to 1\n" ++ codes "delivered 51 from 0 to 1 epoch 6 round 1 signal taken\n" ++ codes "work 0 send 52 signal to 2\n" ++ codes "delivered 52 from 0 to 2 epoch 6 round 1 signal taken\n" ++ codes "work 2 send 53 update to 1\n" ++ codes "delivered 53 from 2 to 1 epoch 6 round 1 update taken 2:1:0\n" ++ codes "work 1 compute signal\n" ++ codes "work 1 send 54 signal to 0\n" ++ codes "delivered 54 from 1 to 0 epoch 6 round 1 signal taken\n" ++ codes "work 1 send 55 signal to 2\n" ++ codes "delivered 55 from 1 to 2 epoch 6 round 1 signal taken\n" ++ codes "work 2 compute signal\n" ++ codes "work 2 send 56 signal to 0\n" ++ codes "delivered 56 from 2 to 0 epoch 6 round 1 signal taken\n" ++ codes "work 0 compute call\n" ++ codes "work 0 send 57 call to 1\n" ++ codes "delivered 57 from 0 to 1 epoch 6 round 1 call taken\n" ++ codes "work 0 send 58 call to 2\n" ++ codes "delivered 58 from 0 to 2 epoch 6 round 1 call taken\n" ++ codes "work 2 send 59 signal to 1\n" ++ codes "delivered 59 from 2 to 1 epoch 6 round 1 signal taken\n" ++ codes "work 1 compute call\n" ++ codes "work 1 send 60 call to 0\n" ++ codes "delivered 60 from 1 to 0 epoch 6 round 1 call taken\n" ++ codes "work 1 send 61 call to 2\n" ++ codes "delivered 61 from 1 to 2 epoch 6 round 1 call taken\n" ++ codes "work 2 compute call\n" ++ codes "work 2 send 62 call to 0\n" ++ codes "delivered 62 from 2 to 0 epoch 6 round 1 call taken\n" ++ codes "work 0 compute end\n" ++ codes "work 0 ready 0\n" ++ codes "work 2 send 63 call to 1\n" ++ codes "delivered 63 from 2 to 1 epoch 6 round 1 call taken\n" ++ codes "work 1 compute end\n" ++ codes "work 1 ready 0\n" ++ codes "work 2 compute end\n" ++ codes "work 2 ready 0\n" ++ codes "barrier committed 3 round 2 due 0\n" ++ codes "done 2 3\n" ++ codes "0 0\n" ++ codes "1 1\n" ++ codes "2 1\n"
unfolding digits first_holders first_rows first_arcs load own_sum gather_body whole_sum new_values update_body with_values signal_body call_body with_due bodies todo worked delivered dropped crashed barred recovered repaired discarded step at_barrier at_recovery at_repair at_discard next_canonical next_event next_position position_after steps_of trace_text directory_in edges_in edges_with_ends taken taken_edges ask_body new_holders grant_body records_after blank_rows lost_of results_of
crash_of_the_reborn = refl
