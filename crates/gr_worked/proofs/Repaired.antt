-- The copies of the triangle on three places after a migration and a repair, and the losses that a run bears.
use Rattle.std.proofs.Common.{◌≡◌, ℕ, List, [], ◌∷◌, refl, true, false}
use Rattle.gr_cut.proofs.Graphs.{triangle}
use Rattle.gr_copies.specs.Holders.{first_holders}
use Rattle.gr_log.specs.Directory.{Entry, directory_in, edges_in}
use Rattle.gr_sched.specs.declared.event.Event.TheVariants as event
use Rattle.gr_sched.specs.declared.event.Line.TheVariants as line
use Rattle.gr_view.specs.Decisions.{at_barrier, at_recovery, at_repair, at_discard}
use Rattle.gr_rules.specs.Rows.{blank_rows, with_values, with_due}
use Rattle.gr_rules.specs.Inbox.{bodies}
use Rattle.gr_rules.specs.Round.{own_sum, gather_body, whole_sum, new_values, update_body, signal_body, call_body}
use Rattle.gr_rules.specs.Taken.{edges_with_ends, taken, taken_edges, ask_body}
use Rattle.gr_rules.specs.Grants.{new_holders, grant_body, records_after}
use Rattle.gr_rules.specs.Lost.{lost_of}
use Rattle.gr_rules.proofs.Programs.{shortest}
use Rattle.gr_cluster.specs.Load.{load, first_rows, first_arcs}
use Rattle.gr_cluster.specs.Todo.{todo}
use Rattle.gr_cluster.specs.Work.{worked}
use Rattle.gr_cluster.specs.Network.{delivered, dropped, crashed}
use Rattle.gr_cluster.specs.Step.{barred, recovered, repaired, discarded, step}
use Rattle.gr_cluster.specs.Canonical.{next_canonical}
use Rattle.gr_cluster.specs.Runs.{next_event, next_position, position_after}
use Rattle.gr_cluster.specs.Directory.{directory_of}
use Rattle.gr_cluster.specs.Budget.{is_restored, are_borne, losses_after}
use Rattle.gr_worked.specs.Played.{job, begin}

abbrev entry : ℕ → ℕ → ℕ → ℕ → List ℕ → Entry
entry v i o m hs = record { vertex = v; indeg = i; outdeg = o; master = m; holders = hs }

-- place 2 is retired, and vertex 2 has one holder left
after_the_migration : directory_of (position_after shortest 36 (begin shortest (job 3 0 1) triangle (0 ∷ 1 ∷ 2 ∷ []) (line.Step (event.Crash 2 0) ∷ line.Settle ∷ []))).cluster ≡ entry 0 0 2 0 (0 ∷ 1 ∷ []) ∷ entry 1 1 1 1 (0 ∷ 1 ∷ []) ∷ entry 2 2 0 0 (0 ∷ []) ∷ []
unfolding first_holders first_rows first_arcs load own_sum gather_body whole_sum new_values update_body with_values signal_body call_body with_due bodies todo worked delivered dropped crashed barred recovered repaired discarded step at_barrier at_recovery at_repair at_discard next_canonical next_event next_position position_after directory_in edges_in edges_with_ends taken taken_edges ask_body new_holders grant_body records_after blank_rows lost_of directory_of
after_the_migration = refl

-- so the state is not restored
migration_does_not_restore : is_restored (position_after shortest 36 (begin shortest (job 3 0 1) triangle (0 ∷ 1 ∷ 2 ∷ []) (line.Step (event.Crash 2 0) ∷ line.Settle ∷ []))).cluster ≡ false
unfolding first_holders first_rows first_arcs load own_sum gather_body whole_sum new_values update_body with_values signal_body call_body with_due bodies todo worked delivered dropped crashed barred recovered repaired discarded step at_barrier at_recovery at_repair at_discard next_canonical next_event next_position position_after directory_in edges_in edges_with_ends taken taken_edges ask_body new_holders grant_body records_after blank_rows lost_of directory_of is_restored
migration_does_not_restore = refl

-- a repair gives it a second one
after_the_repair : directory_of (position_after shortest 60 (begin shortest (job 3 0 1) triangle (0 ∷ 1 ∷ 2 ∷ []) (line.Step (event.Crash 2 0) ∷ line.Settle ∷ line.Step event.Repair ∷ line.Settle ∷ []))).cluster ≡ entry 0 0 2 0 (0 ∷ 1 ∷ []) ∷ entry 1 1 1 1 (0 ∷ 1 ∷ []) ∷ entry 2 2 0 0 (0 ∷ 1 ∷ []) ∷ []
unfolding first_holders first_rows first_arcs load own_sum gather_body whole_sum new_values update_body with_values signal_body call_body with_due bodies todo worked delivered dropped crashed barred recovered repaired discarded step at_barrier at_recovery at_repair at_discard next_canonical next_event next_position position_after directory_in edges_in edges_with_ends taken taken_edges ask_body new_holders grant_body records_after blank_rows lost_of directory_of
after_the_repair = refl

-- so a second crash is borne
borne_after_a_repair : are_borne 1 (losses_after shortest 61 (begin shortest (job 3 0 1) triangle (0 ∷ 1 ∷ 2 ∷ []) (line.Step (event.Crash 2 0) ∷ line.Settle ∷ line.Step event.Repair ∷ line.Settle ∷ line.Step (event.Crash 0 0) ∷ [])) (record { crashes = 0; live = 3 })) ≡ true
unfolding first_holders first_rows first_arcs load own_sum gather_body whole_sum new_values update_body with_values signal_body call_body with_due bodies todo worked delivered dropped crashed barred recovered repaired discarded step at_barrier at_recovery at_repair at_discard next_canonical next_event next_position position_after directory_in edges_in edges_with_ends taken taken_edges ask_body new_holders grant_body records_after blank_rows lost_of directory_of is_restored losses_after
borne_after_a_repair = refl

-- and without it is not
not_borne_without : are_borne 1 (losses_after shortest 37 (begin shortest (job 3 0 1) triangle (0 ∷ 1 ∷ 2 ∷ []) (line.Step (event.Crash 2 0) ∷ line.Settle ∷ line.Step (event.Crash 0 0) ∷ [])) (record { crashes = 0; live = 3 })) ≡ false
unfolding first_holders first_rows first_arcs load own_sum gather_body whole_sum new_values update_body with_values signal_body call_body with_due bodies todo worked delivered dropped crashed barred recovered repaired discarded step at_barrier at_recovery at_repair at_discard next_canonical next_event next_position position_after directory_in edges_in edges_with_ends taken taken_edges ask_body new_holders grant_body records_after blank_rows lost_of directory_of is_restored losses_after
not_borne_without = refl
