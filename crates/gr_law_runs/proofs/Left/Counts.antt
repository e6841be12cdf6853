-- How the counts of a cluster go up in a step.
use Rattle.std.proofs.Common.{◌≡◌, ℕ, ◌+◌, ◌≤◌, List, [], ◌∷◌, false, ◌||◌, refl, sym, ap, subst, arith, Option, Some, None, length, slice_get, remove, le_refl}
use Rattle.std.specs.Prelude.{nat_lt, is_none}
use Rattle.std.proofs.lemmas.List.{length-append}
use Rattle.gr_program.specs.Program.{Program}
use Rattle.gr_batch.specs.declared.batch.Batch.{Batch}
use Rattle.gr_sched.specs.declared.event.Event.{Event}
use Rattle.gr_sched.specs.declared.event.Event.TheVariants as event
use Rattle.gr_view.specs.declared.coordinator.Mode.{Mode}
use Rattle.gr_view.specs.declared.coordinator.Mode.TheVariants as mode
use Rattle.gr_view.specs.Modes.{is_failed, is_over, is_rebuild, is_recovery}
use Rattle.gr_view.specs.Decisions.{parties, looked_at, unready, verdict_on, at_barrier, may_recover, at_recovery, at_repair, at_discard, going_back}
use Rattle.gr_rules.specs.Todo.{Todo}
use Rattle.gr_cluster.specs.Tables.{Host, Cluster, host}
use Rattle.gr_cluster.specs.Todo.{todo}
use Rattle.gr_cluster.specs.Place.{batch_to}
use Rattle.gr_cluster.specs.Work.{worked, worked_at}
use Rattle.gr_cluster.specs.Network.{delivered, dropped, crashed}
use Rattle.gr_cluster.specs.Step.{down_among, without_hosts, with_coordinator, after_verdict, barred, lost_list, recovered, opened_or_idle, repaired, discarded_or_idle, discarded, taken_step, step}
use Rattle.gr_agree.specs.Bounds.{IsRaisedByOne}
use Rattle.gr_lists.proofs.Tests.{by_test, by_option}
use Rattle.gr_law_runs.proofs.Left.Losing.{removed-shorter}
use Rattle.gr_law_rounds.proofs.Network.Unruled.{IsUnruled, unruled, worked-unruled, delivered-unruled, crashed-unruled}
use Rattle.gr_law_runs.proofs.Left.Less.{step-over, step-taken}

module _ {V A : Type 0} (c : Cluster V A) where
  -- the coordinator decides nothing
  kept-counts : (d : Cluster V A) → IsUnruled c.coordinator d.coordinator → (c.serial ≤ d.serial) × (d.serial ≤ c.serial + 1) → length d.flight ≤ length c.flight + 1 → IsRaisedByOne c d
  kept-counts d U serial flight = let e = U.epoch in let k = U.commits in let r = U.round in record {
    serial = serial;
    epoch = (omega (arith, e), omega (arith, e));
    commits = (omega (arith, k), omega (arith, k));
    round = (omega (arith, r), omega (arith, r));
    flight = flight;
  }

  unsent-counts : (d : Cluster V A) → IsUnruled c.coordinator d.coordinator → d.serial ≡ c.serial → length d.flight ≤ length c.flight → IsRaisedByOne c d
  unsent-counts d U same le = kept-counts d U (omega (arith, same), omega (arith, same)) (omega (arith, le))

  same-counts : IsRaisedByOne c c
  same-counts = unsent-counts c (unruled c.coordinator) refl (le_refl _)

  -- it decides, and leaves the batches
  ruled-counts : (d : Cluster V A) (e k r : ℕ) → e ≤ 1 → k ≤ 1 → r ≤ 1 → d.serial ≡ c.serial → d.coordinator.epoch ≡ c.coordinator.epoch + e → d.coordinator.commits ≡ c.coordinator.commits + k
      → d.coordinator.round ≡ c.coordinator.round + r → d.flight ≡ c.flight → IsRaisedByOne c d
  ruled-counts d e k r e1 k1 r1 serial epoch commits round flight = let as_many : length d.flight ≡ length c.flight = ap length flight in record {
    serial = (omega (arith, serial), omega (arith, serial));
    epoch = (omega (arith, epoch), omega (arith, epoch, e1));
    commits = (omega (arith, commits), omega (arith, commits, k1));
    round = (omega (arith, round), omega (arith, round, r1));
    flight = omega (arith, as_many);
  }

  -- a new epoch, in which nothing is committed
  anew-counts : (d : Cluster V A) → d.serial ≡ c.serial → d.coordinator.epoch ≡ c.coordinator.epoch + 1 → d.coordinator.commits ≡ c.coordinator.commits → d.coordinator.round ≡ c.coordinator.round → d.flight ≡ c.flight → IsRaisedByOne c d
  anew-counts d serial epoch commits round flight = ruled-counts d 1 0 0 (omega arith) (omega arith) (omega arith) serial epoch (omega (arith, commits)) (omega (arith, round)) flight

  module _ (P : Program V A) where
    worked-counts : (p : ℕ) (h : Host V A) (x : Todo) → IsRaisedByOne c (worked P c p h x).0
    unfolding worked
    worked-counts p h Todo.Install = unsent-counts (worked P c p h Todo.Install).0 (worked-unruled P c p h Todo.Install) refl (le_refl _)
    worked-counts p h Todo.Adopt = unsent-counts (worked P c p h Todo.Adopt).0 (worked-unruled P c p h Todo.Adopt) refl (le_refl _)
    worked-counts p h Todo.Compute = unsent-counts (worked P c p h Todo.Compute).0 (worked-unruled P c p h Todo.Compute) refl (le_refl _)
    worked-counts p h Todo.Append = unsent-counts (worked P c p h Todo.Append).0 (worked-unruled P c p h Todo.Append) refl (le_refl _)
    worked-counts p h Todo.Report = unsent-counts (worked P c p h Todo.Report).0 (worked-unruled P c p h Todo.Report) refl (le_refl _)
    worked-counts p h Todo.Rest = same-counts
    worked-counts p h (Todo.Send q) = let more = length-append c.flight (batch_to P c p h q ∷ []) in
        kept-counts (worked P c p h (Todo.Send q)).0 (worked-unruled P c p h (Todo.Send q)) (omega arith, omega arith) (omega (arith, more))
    worked-counts p h (Todo.Wait s q) = same-counts

    worked_at-counts : (p : ℕ) (o : Option (Host V A)) → IsRaisedByOne c (worked_at P c p o).0
    worked_at-counts p None = same-counts
    worked_at-counts p (Some h) = worked-counts p h (todo c.coordinator p h)

    delivered-counts : (i : ℕ) (o : Option (Batch V A)) → slice_get c.flight i ≡ o → IsRaisedByOne c (delivered c i o).0
    unfolding delivered
    delivered-counts i None is = same-counts
    delivered-counts i (Some b) is = let less = removed-shorter c b i is in unsent-counts (delivered c i (Some b)).0 (delivered-unruled P c i (Some b)) refl (omega (arith, less))

    dropped-counts : (i : ℕ) (o : Option (Batch V A)) → slice_get c.flight i ≡ o → IsRaisedByOne c (dropped c i o).0
    unfolding dropped
    dropped-counts i None is = same-counts
    dropped-counts i (Some b) is = let less = removed-shorter c b i is in by_test (nat_lt b.epoch c.coordinator.epoch || is_none (host c b.sender))
        (λ e. rw e (unsent-counts (record c { flight = remove c.flight i }) (unruled c.coordinator) refl (omega (arith, less))))
        (λ e. rw e same-counts)

    crashed-counts : (p n : ℕ) (o : Option (Host V A)) → IsRaisedByOne c (crashed c p n o).0
    unfolding crashed
    crashed-counts p n None = same-counts
    crashed-counts p n (Some h) = unsent-counts (crashed c p n (Some h)).0 (crashed-unruled P c p n (Some h)) refl (le_refl _)

  verdict-counts : (ps : List ℕ) → IsRaisedByOne c (after_verdict c ps (verdict_on c.coordinator ps).0 (verdict_on c.coordinator ps).1).0
  verdict-counts [] = by_test (is_failed c.coordinator.mode)
      (λ f. rw f same-counts)
      (λ f. rw f (by_option (unready c.coordinator)
      (λ u. rw u (by_test (is_rebuild c.coordinator.mode)
      (λ r. rw r (ruled-counts _ 1 1 0 (omega arith) (omega arith) (omega arith) refl refl refl (omega arith) refl))
      (λ r. rw r (ruled-counts _ 1 1 1 (omega arith) (omega arith) (omega arith) refl refl refl refl refl))))
      (λ p u. rw u same-counts)))
  verdict-counts (p ∷ ps) = anew-counts _ refl refl refl refl refl

  barred-counts : is_over c.coordinator.mode ≡ false → IsRaisedByOne c (barred c).0
  unfolding barred at_barrier
  barred-counts o = rw o (verdict-counts (down_among c (looked_at c.coordinator)))

  recovered-counts : (ps : List ℕ) → IsRaisedByOne c (recovered c ps).0
  unfolding recovered at_recovery
  recovered-counts ps = by_test (may_recover c.coordinator ps)
      (λ m. rw m (by_test (nat_lt 0 (length (lost_list c)))
      (λ l. rw l (ruled-counts _ 0 0 0 (omega arith) (omega arith) (omega arith) refl (omega arith) (omega arith) (omega arith) refl))
      (λ l. rw l (anew-counts _ refl refl refl refl refl))))
      (λ m. rw m same-counts)

  repaired-counts : IsRaisedByOne c (repaired c).0
  unfolding repaired at_repair
  repaired-counts = of c.coordinator.mode
    where
      of : (m : Mode) → IsRaisedByOne c (opened_or_idle c (at_repair c.coordinator m).1 (with_coordinator (at_repair c.coordinator m).0 c)).0
      of mode.Running = anew-counts _ refl refl refl refl refl
      of _ = same-counts

  discarded-counts : IsRaisedByOne c (discarded c).0
  unfolding discarded at_discard
  discarded-counts = by_test (is_recovery c.coordinator.mode)
      (λ r. rw r (of c.coordinator.mode (down_among c (parties c.coordinator)) (without_hosts (going_back c.coordinator (down_among c (parties c.coordinator))) c) refl refl))
      (λ r. rw r (of c.coordinator.mode (down_among c (parties c.coordinator)) c refl refl))
    where
      of : (m : Mode) (ps : List ℕ) (d : Cluster V A) → d.serial ≡ c.serial → d.flight ≡ c.flight → IsRaisedByOne c (discarded_or_idle c (at_discard c.coordinator ps m).1 (with_coordinator (at_discard c.coordinator ps m).0 d)).0
      of mode.Failed ps d s f = same-counts
      of mode.Done ps d s f = same-counts
      of mode.Lost ps d s f = same-counts
      of _ ps d s f = anew-counts _ s refl refl refl f

  taken-counts : (P : Program V A) → is_over c.coordinator.mode ≡ false → (e : Event) → IsRaisedByOne c (taken_step P c e).0
  taken-counts P o (event.Work p) = worked_at-counts P p (host c p)
  taken-counts P o (event.Deliver i) = delivered-counts P i (slice_get c.flight i) refl
  taken-counts P o (event.Discarded i) = dropped-counts P i (slice_get c.flight i) refl
  taken-counts P o (event.Crash p n) = crashed-counts P p n (host c p)
  taken-counts P o event.Barrier = barred-counts o
  taken-counts P o (event.Recover ps) = recovered-counts ps
  taken-counts P o event.Repair = repaired-counts
  taken-counts P o event.Discard = discarded-counts

pub step-counts : {V A : Type 0} (P : Program V A) (c : Cluster V A) (e : Event) → IsRaisedByOne c (step P c e).0
step-counts P c e = by_test (is_over c.coordinator.mode)
    (λ o. subst (IsRaisedByOne c) (sym (step-over P c o e)) (same-counts c))
    (λ o. subst (λ r. IsRaisedByOne c r.0) (sym (step-taken P c o e)) (taken-counts c P o e))
