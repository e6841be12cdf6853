-- A run in which a forgetful program owes values after a loss.
use Rattle.std.proofs.Common.{◌≡◌, [], ◌∷◌, ◌++◌, refl}
use Rattle.std.specs.Prelude.{codes}
use Rattle.std.specs.Fmt.{digits}
use Rattle.gr_cut.proofs.Graphs.{path}
use Rattle.gr_copies.specs.Holders.{first_holders}
use Rattle.gr_log.specs.Directory.{directory_in, edges_in}
use Rattle.gr_sched.specs.declared.event.Event.TheVariants as event
use Rattle.gr_sched.specs.declared.event.Line.TheVariants as line
use Rattle.gr_view.specs.Decisions.{at_barrier, at_recovery, at_repair, at_discard}
use Rattle.gr_rules.specs.Rows.{blank_rows, with_values, with_due}
use Rattle.gr_rules.specs.Inbox.{bodies}
use Rattle.gr_rules.specs.Round.{own_sum, gather_body, whole_sum, new_values, update_body, signal_body, call_body}
use Rattle.gr_rules.specs.Taken.{edges_with_ends, taken, taken_edges, ask_body}
use Rattle.gr_rules.specs.Grants.{new_holders, grant_body, records_after}
use Rattle.gr_rules.specs.Lost.{lost_of}
use Rattle.gr_rules.proofs.Programs.{rank}
use Rattle.gr_cluster.specs.Load.{load, first_rows, first_arcs}
use Rattle.gr_cluster.specs.Todo.{todo}
use Rattle.gr_cluster.specs.Work.{worked}
use Rattle.gr_cluster.specs.Network.{delivered, dropped, crashed}
use Rattle.gr_cluster.specs.Step.{barred, recovered, repaired, discarded, step}
use Rattle.gr_cluster.specs.Canonical.{next_canonical}
use Rattle.gr_cluster.specs.Runs.{next_event, next_position, position_after, steps_of}
use Rattle.gr_cluster.specs.TraceText.{trace_text}
use Rattle.gr_cluster.specs.Ending.{results_of}
use Rattle.gr_worked.specs.Played.{job, begin, run_text}

-- values of vertices without readers are computed once more
owed_values : run_text rank 192 (begin rank (job 2 1 1) path (0 ∷ 1 ∷ 2 ∷ 3 ∷ 4 ∷ 5 ∷ 6 ∷ []) (line.Settle ∷ line.Settle ∷ line.Settle ∷ line.Step (event.Crash 1 0) ∷ line.Finish ∷ [])) ≡ codes "work 0 compute gather\n" ++ codes "work 0 send 0 gather to 1\n" ++ codes "delivered 0 from 0 to 1 epoch 0 round 0 gather taken\n" ++ codes "work 1 compute gather\n" ++ codes "work 1 send 1 gather to 0\n" ++ codes "delivered 1 from 1 to 0 epoch 0 round 0 gather taken\n" ++ codes "work 0 compute update\n" ++ codes "work 0 send 2 update to 1\n" ++ codes "delivered 2 from 0 to 1 epoch 0 round 0 update taken 0:150000:1 2:150000:1 4:1000000:0\n" ++ codes "work 1 compute update\n" ++ codes "work 1 send 3 update to 0\n" ++ codes "delivered 3 from 1 to 0 epoch 0 round 0 update taken 3:1000000:0 5:1000000:0\n" ++ codes "work 0 compute signal\n" ++ codes "work 0 send 4 signal to 1\n" ++ codes "delivered 4 from 0 to 1 epoch 0 round 0 signal taken\n" ++ codes "work 1 compute signal\n" ++ codes "work 1 send 5 signal to 0\n" ++ codes "delivered 5 from 1 to 0 epoch 0 round 0 signal taken\n" ++ codes "work 0 compute call\n" ++ codes "work 0 send 6 call to 1\n" ++ codes "delivered 6 from 0 to 1 epoch 0 round 0 call taken\n" ++ codes "work 1 compute call\n" ++ codes "work 1 send 7 call to 0\n" ++ codes "delivered 7 from 1 to 0 epoch 0 round 0 call taken 1 3\n" ++ codes "work 0 compute end\n" ++ codes "work 0 ready 0\n" ++ codes "work 1 compute end\n" ++ codes "work 1 ready 2\n" ++ codes "barrier committed 1 round 1 due 2\n" ++ codes "work 0 install 1\n" ++ codes "work 0 adopt 1\n" ++ codes "work 0 compute gather\n" ++ codes "work 0 send 8 gather to 1\n" ++ codes "delivered 8 from 0 to 1 epoch 1 round 1 gather taken\n" ++ codes "work 1 install 1\n" ++ codes "work 1 adopt 1\n" ++ codes "work 1 compute gather\n" ++ codes "work 1 send 9 gather to 0\n" ++ codes "delivered 9 from 1 to 0 epoch 1 round 1 gather taken\n" ++ codes "work 0 compute update\n" ++ codes "work 0 send 10 update to 1\n" ++ codes "delivered 10 from 0 to 1 epoch 1 round 1 update taken\n" ++ codes "work 1 compute update\n" ++ codes "work 1 send 11 update to 0\n" ++ codes "delivered 11 from 1 to 0 epoch 1 round 1 update taken 3:277500:1\n" ++ codes "work 0 compute signal\n" ++ codes "work 0 send 12 signal to 1\n" ++ codes "delivered 12 from 0 to 1 epoch 1 round 1 signal taken\n" ++ codes "work 1 compute signal\n" ++ codes "work 1 send 13 signal to 0\n" ++ codes "delivered 13 from 1 to 0 epoch 1 round 1 signal taken\n" ++ codes "work 0 compute call\n" ++ codes "work 0 send 14 call to 1\n" ++ codes "delivered 14 from 0 to 1 epoch 1 round 1 call taken 4\n" ++ codes "work 1 compute call\n" ++ codes "work 1 send 15 call to 0\n" ++ codes "delivered 15 from 1 to 0 epoch 1 round 1 call taken\n" ++ codes "work 0 compute end\n" ++ codes "work 0 ready 1\n" ++ codes "work 1 compute end\n" ++ codes "work 1 ready 0\n" ++ codes "barrier committed 2 round 2 due 1\n" ++ codes "work 0 install 2\n" ++ codes "work 0 adopt 2\n" ++ codes "work 0 compute gather\n" ++ codes "work 0 send 16 gather to 1\n" ++ codes "delivered 16 from 0 to 1 epoch 2 round 2 gather taken\n" ++ codes "work 1 install 2\n" ++ codes "work 1 adopt 2\n" ++ codes "work 1 compute gather\n" ++ codes "work 1 send 17 gather to 0\n" ++ codes "delivered 17 from 1 to 0 epoch 2 round 2 gather taken\n" ++ codes "work 0 compute update\n" ++ codes "work 0 send 18 update to 1\n" ++ codes "delivered 18 from 0 to 1 epoch 2 round 2 update taken 4:385875:1\n" ++ codes "work 1 compute update\n" ++ codes "work 1 send 19 update to 0\n" ++ codes "delivered 19 from 1 to 0 epoch 2 round 2 update taken\n" ++ codes "work 0 compute signal\n" ++ codes "work 0 send 20 signal to 1\n" ++ codes "delivered 20 from 0 to 1 epoch 2 round 2 signal taken\n" ++ codes "work 1 compute signal\n" ++ codes "work 1 send 21 signal to 0\n" ++ codes "delivered 21 from 1 to 0 epoch 2 round 2 signal taken\n" ++ codes "work 0 compute call\n" ++ codes "work 0 send 22 call to 1\n" ++ codes "delivered 22 from 0 to 1 epoch 2 round 2 call taken\n" ++ codes "work 1 compute call\n" ++ codes "work 1 send 23 call to 0\n" ++ codes "delivered 23 from 1 to 0 epoch 2 round 2 call taken 5\n" ++ codes "work 0 compute end\n" ++ codes "work 0 ready 0\n" ++ codes "work 1 compute end\n" ++ codes "work 1 ready 1\n" ++ codes "barrier committed 3 round 3 due 1\n" ++ codes "crash 1 kept 0\n" ++ codes "work 0 install 3\n" ++ codes "work 0 adopt 3\n" ++ codes "work 0 compute gather\n" ++ codes "work 0 send 24 gather to 1\n" ++ codes "delivered 24 from 0 to 1 epoch 3 round 3 gather down\n" ++ codes "barrier failed 1\n" ++ codes "work 0 adopt 4\n" ++ codes "recover epoch 5 rebirth 1\n" ++ codes "work 0 adopt 5\n" ++ codes "work 0 compute ask\n" ++ codes "work 0 send 25 ask to 1\n" ++ codes "delivered 25 from 0 to 1 epoch 5 round 3 ask taken\n" ++ codes "work 1 compute ask\n" ++ codes "work 1 send 26 ask to 0\n" ++ codes "delivered 26 from 1 to 0 epoch 5 round 3 ask taken\n" ++ codes "work 0 compute grant\n" ++ codes "work 0 send 27 grant to 1\n" ++ codes "delivered 27 from 0 to 1 epoch 5 round 3 grant taken 0:0:1:0:0,1:150000:0 1:1:0:1:0,1:-:1 2:0:1:0:0,1:150000:0 3:1:1:1:0,1:277500:0 4:1:1:0:0,1:385875:0 5:1:1:1:0,1:1000000:1 6:1:0:0:0,1:-:0\n" ++ codes "work 1 compute grant\n" ++ codes "work 1 send 28 grant to 0\n" ++ codes "delivered 28 from 1 to 0 epoch 5 round 3 grant taken\n" ++ codes "work 0 compute end\n" ++ codes "work 0 append 154\n" ++ codes "work 0 ready 0\n" ++ codes "work 1 compute end\n" ++ codes "work 1 append 154\n" ++ codes "work 1 ready 2\n" ++ codes "barrier committed 4 round 3 due 2\n" ++ codes "work 0 install 4\n" ++ codes "work 0 adopt 6\n" ++ codes "work 0 compute gather\n" ++ codes "work 0 send 29 gather to 1\n" ++ codes "delivered 29 from 0 to 1 epoch 6 round 3 gather taken\n" ++ codes "work 1 install 4\n" ++ codes "work 1 adopt 6\n" ++ codes "work 1 compute gather\n" ++ codes "work 1 send 30 gather to 0\n" ++ codes "delivered 30 from 1 to 0 epoch 6 round 3 gather taken\n" ++ codes "work 0 compute update\n" ++ codes "work 0 send 31 update to 1\n" ++ codes "delivered 31 from 0 to 1 epoch 6 round 3 update taken\n" ++ codes "work 1 compute update\n" ++ codes "work 1 send 32 update to 0\n" ++ codes "delivered 32 from 1 to 0 epoch 6 round 3 update taken 5:477993:1\n" ++ codes "work 0 compute signal\n" ++ codes "work 0 send 33 signal to 1\n" ++ codes "delivered 33 from 0 to 1 epoch 6 round 3 signal taken\n" ++ codes "work 1 compute signal\n" ++ codes "work 1 send 34 signal to 0\n" ++ codes "delivered 34 from 1 to 0 epoch 6 round 3 signal taken\n" ++ codes "work 0 compute call\n" ++ codes "work 0 send 35 call to 1\n" ++ codes "delivered 35 from 0 to 1 epoch 6 round 3 call taken 6\n" ++ codes "work 1 compute call\n" ++ codes "work 1 send 36 call to 0\n" ++ codes "delivered 36 from 1 to 0 epoch 6 round 3 call taken\n" ++ codes "work 0 compute end\n" ++ codes "work 0 ready 1\n" ++ codes "work 1 compute end\n" ++ codes "work 1 ready 0\n" ++ codes "barrier committed 5 round 4 due 1\n" ++ codes "work 0 install 5\n" ++ codes "work 0 adopt 7\n" ++ codes "work 0 compute gather\n" ++ codes "work 0 send 37 gather to 1\n" ++ codes "delivered 37 from 0 to 1 epoch 7 round 4 gather taken\n" ++ codes "work 1 install 5\n" ++ codes "work 1 adopt 7\n" ++ codes "work 1 compute gather\n" ++ codes "work 1 send 38 gather to 0\n" ++ codes "delivered 38 from 1 to 0 epoch 7 round 4 gather taken\n" ++ codes "work 0 compute update\n" ++ codes "work 0 send 39 update to 1\n" ++ codes "delivered 39 from 0 to 1 epoch 7 round 4 update taken\n" ++ codes "work 1 compute update\n" ++ codes "work 1 send 40 update to 0\n" ++ codes "delivered 40 from 1 to 0 epoch 7 round 4 update taken\n" ++ codes "work 0 compute signal\n" ++ codes "work 0 send 41 signal to 1\n" ++ codes "delivered 41 from 0 to 1 epoch 7 round 4 signal taken\n" ++ codes "work 1 compute signal\n" ++ codes "work 1 send 42 signal to 0\n" ++ codes "delivered 42 from 1 to 0 epoch 7 round 4 signal taken\n" ++ codes "work 0 compute call\n" ++ codes "work 0 send 43 call to 1\n" ++ codes "delivered 43 from 0 to 1 epoch 7 round 4 call taken\n" ++ codes "work 1 compute call\n" ++ codes "work 1 send 44 call to 0\n" ++ codes "delivered 44 from 1 to 0 epoch 7 round 4 call taken\n" ++ codes "work 0 compute end\n" ++ codes "work 0 ready 0\n" ++ codes "work 1 compute end\n" ++ codes "work 1 ready 0\n" ++ codes "barrier committed 6 round 5 due 0\n" ++ codes "done 5 7\n" ++ codes "0 150000\n" ++ codes "1 277500\n" ++ codes "2 150000\n" ++ codes "3 277500\n" ++ codes "4 385875\n" ++ codes "5 477993\n" ++ codes "6 556294\n"
unfolding digits first_holders first_rows first_arcs load own_sum gather_body whole_sum new_values update_body with_values signal_body call_body with_due bodies todo worked delivered dropped crashed barred recovered repaired discarded step at_barrier at_recovery at_repair at_discard next_canonical next_event next_position position_after steps_of trace_text directory_in edges_in edges_with_ends taken taken_edges ask_body new_holders grant_body records_after blank_rows lost_of results_of
owed_values = refl
