-- Decisions of the coordinator of a small cluster, by computation.
use Rattle.std.proofs.Common.{◌≡◌, [], ◌∷◌, refl, true, false}
use Rattle.std.specs.Prelude.{Some, None}
use Rattle.gr_view.specs.declared.coordinator.Mode.TheVariants as mode
use Rattle.gr_view.specs.declared.coordinator.Coordinator.{Coordinator}
use Rattle.gr_view.specs.declared.coordinator.Verdict.TheVariants as verdict
use Rattle.gr_view.specs.declared.coordinator.Opening.TheVariants as opening
use Rattle.gr_view.specs.Decisions.{first_coordinator, reported, at_barrier, at_recovery, at_repair, at_discard}

abbrev at_load : Coordinator
at_load = first_coordinator 3 2 1000 true

-- two of three parties are ready
abbrev nearly_ready : Coordinator
nearly_ready = reported (reported at_load 0 1) 2 1

not_ready : at_barrier nearly_ready [] ≡ (nearly_ready, verdict.NotReady 1)
unfolding at_barrier
not_ready = refl

round_commits : (at_barrier (reported nearly_ready 1 0) []).1 ≡ verdict.Committed 1 1 2
unfolding at_barrier
round_commits = refl

-- nothing is due, so the round is the last
last_round : (at_barrier (reported (reported (reported at_load 0 0) 1 0) 2 0) []).0.mode ≡ mode.Done
unfolding at_barrier
last_round = refl

-- so it is where the limit is reached
limit_reached : (at_barrier (reported (first_coordinator 1 0 1 true) 0 5) []).0.mode ≡ mode.Done
unfolding at_barrier
limit_reached = refl

no_vertex : at_barrier (first_coordinator 3 2 1000 false) [] ≡ (first_coordinator 3 2 1000 false, verdict.Idle)
unfolding at_barrier
no_vertex = refl

abbrev failed : Coordinator
failed = (at_barrier nearly_ready (0 ∷ 1 ∷ [])).0

-- a failure that is found, in a new epoch
two_failed : at_barrier nearly_ready (0 ∷ 1 ∷ []) ≡ (record at_load { mode = mode.Failed; epoch = 1; live = 2 ∷ []; dead = 0 ∷ 1 ∷ [] }, verdict.Failed (0 ∷ 1 ∷ []))
unfolding at_barrier
two_failed = refl

abbrev both_reborn : Coordinator
both_reborn = record at_load { mode = mode.Recovering; epoch = 2; live = 2 ∷ []; dead = 0 ∷ 1 ∷ []; reborn = 0 ∷ 1 ∷ []; spares = 0 }

recovery_opens : at_recovery (record at_load { mode = mode.Failed; epoch = 1; live = 2 ∷ []; dead = 0 ∷ 1 ∷ [] }) (0 ∷ 1 ∷ []) false ≡ (both_reborn, opening.Opened 2)
unfolding at_recovery
recovery_opens = refl

lost_changes_the_mode_alone : at_recovery (record at_load { mode = mode.Failed; dead = 0 ∷ [] }) [] true ≡ (record at_load { mode = mode.Lost; dead = 0 ∷ [] }, opening.Lost)
unfolding at_recovery
lost_changes_the_mode_alone = refl

too_few_spares : at_recovery (record at_load { mode = mode.Failed; dead = 0 ∷ []; spares = 0 }) (0 ∷ []) false ≡ (record at_load { mode = mode.Failed; dead = 0 ∷ []; spares = 0 }, opening.Idle)
unfolding at_recovery
too_few_spares = refl

-- the spare of a place that crashed again is gone, and the other one comes back
one_spare_back : at_barrier both_reborn (0 ∷ []) ≡ (record at_load { mode = mode.Failed; epoch = 3; live = 2 ∷ []; dead = 0 ∷ 1 ∷ []; spares = 1 }, verdict.Failed (0 ∷ []))
unfolding at_barrier
one_spare_back = refl

spares_back : at_discard both_reborn (0 ∷ []) mode.Recovering ≡ (record at_load { mode = mode.Failed; epoch = 3; live = 2 ∷ []; dead = 0 ∷ 1 ∷ []; spares = 1 }, Some 3)
unfolding at_discard
spares_back = refl

-- a recovery commits: the reborn are live, and who has no spare retires
one_retires : (at_barrier (reported (reported (record at_load { mode = mode.Recovering; live = 2 ∷ []; dead = 0 ∷ 1 ∷ []; reborn = 1 ∷ []; spares = 1 }) 1 3) 2 4) []).0 ≡ record at_load { mode = mode.Running; epoch = 1; commits = 1; live = 1 ∷ 2 ∷ []; retired = 0 ∷ []; spares = 1 }
unfolding at_barrier
one_retires = refl

no_repair_after_a_failure : (at_repair both_reborn mode.Recovering).1 ≡ None
unfolding at_repair
no_repair_after_a_failure = refl
