-- Each canonical event inside an epoch leaves less, and no event leaves more.
use Rattle.std.proofs.Common.{◌≡◌, ℕ, ◌+◌, ◌<◌, ◌≤◌, [], true, false, not, ◌&&◌, refl, sym, ap, ◌∙◌, subst, arith, Option, Some, None, length, slice_get, take, le_refl, ⊎_elim}
use Rattle.std.specs.List.{list_any}
use Rattle.std.proofs.lemmas.Bool.{both_ways, and_from, true_from_ne_false, false_from_ne_true, not_from_false}
use Rattle.std.proofs.lemmas.List.Sums.{length-filter}
use Rattle.gr_base.specs.Rising.{has}
use Rattle.gr_program.specs.Program.{Program}
use Rattle.gr_sched.specs.declared.event.Event.{Event}
use Rattle.gr_sched.specs.declared.event.Event.TheVariants as event
use Rattle.gr_view.specs.Modes.{is_failed, is_over}
use Rattle.gr_view.specs.Decisions.{parties, looked_at, unready}
use Rattle.gr_cluster.specs.Tables.{Host, Cluster, host, is_up}
use Rattle.gr_cluster.specs.Todo.{todo, can_work}
use Rattle.gr_cluster.specs.Work.{worked_at}
use Rattle.gr_cluster.specs.Network.{delivered}
use Rattle.gr_cluster.specs.Step.{down_among, taken_step, step}
use Rattle.gr_cluster.specs.Canonical.{is_crash_unseen, next_canonical}
use Rattle.gr_cluster.specs.Left.{left}
use Rattle.gr_agree.specs.Truth.{Truth}
use Rattle.gr_agree.specs.Agree.{Agree}
use Rattle.gr_lists.proofs.Tests.{by_test}
use Rattle.gr_lists.proofs.Any.{has-filter}
use Rattle.gr_lists.proofs.Counts.{some-counted}
use Rattle.gr_law_rounds.proofs.Network.Frame.{within}
use Rattle.gr_law_runs.proofs.Left.Places.{unfinished, left-over, left-goes_on}
use Rattle.gr_law_rounds.proofs.Network.Unruled.{IsUnruled, worked-unruled, delivered-unruled, dropped-unruled, crashed-unruled}
use Rattle.gr_law_runs.proofs.Left.Losing.{delivered-less, delivered-no_more, dropped-no_more, crashed-no_more}
use Rattle.gr_law_runs.proofs.Left.Work.{goes-on-open, work-lowers}
use Rattle.gr_law_runs.proofs.Left.Deadlock.{all-ready}
use Rattle.gr_law_runs.proofs.Left.Decided.{IsDecided, IsRaised, barred-decided, barred-raises, recovered-decided, recovered-raises, repaired-decided, discarded-decided}
use Rattle.gr_law_runs.proofs.Left.Canonical.{IsQuiet, by-canonical, canonical-goes_on}

module _ {V A : Type 0} (P : Program V A) (c : Cluster V A) where
  pub step-over : is_over c.coordinator.mode ≡ true → (e : Event) → (step P c e).0 ≡ c
  unfolding step
  step-over o e = rw o refl

  pub step-taken : is_over c.coordinator.mode ≡ false → (e : Event) → step P c e ≡ taken_step P c e
  unfolding step
  step-taken o e = rw o refl

module _ {V A : Type 0} (P : Program V A) (t : Truth V) (c : Cluster V A) (AG : Agree P t c) where
  abbrev Keeps : Cluster V A → Type 0
  Keeps d = d.coordinator.epoch ≡ c.coordinator.epoch → left d ≤ left c

  abbrev Falls : Cluster V A → Type 0
  Falls d = d.coordinator.epoch ≡ c.coordinator.epoch → left d < left c

  module _ (goes_on : is_over c.coordinator.mode ≡ false) where
    here : left c ≡ 1 + unfinished c
    here = left-goes_on c goes_on

    -- an event that leaves the coordinator's mode
    there : (d : Cluster V A) → IsUnruled c.coordinator d.coordinator → left d ≡ 1 + unfinished d
    there d U = left-goes_on d (ap is_over U.mode ∙ goes_on)

    keeps : (d : Cluster V A) → IsUnruled c.coordinator d.coordinator → unfinished d ≤ unfinished c → Keeps d
    keeps d U le = λ _. let a = here in let b = there d U in omega (arith, a, b, le)

    falls : (d : Cluster V A) → IsUnruled c.coordinator d.coordinator → unfinished d < unfinished c → Falls d
    falls d U lt = λ _. let a = here in let b = there d U in omega (arith, a, b, lt)

    raised : {X : Type 0} (d : Cluster V A) → IsRaised c d → d.coordinator.epoch ≡ c.coordinator.epoch → X
    raised d r e = absurd (omega (arith, r, e))

    decided : (d : Cluster V A) → IsDecided c d → Keeps d
    decided d D = ⊎_elim
        (λ same e. let l : left d ≡ left c = ap left same in omega (arith, l))
        (λ r e. raised d r e) D

    -- the run is over
    ended : (d : Cluster V A) → is_over d.coordinator.mode ≡ true → left d < left c
    ended d o = let a = here in let b = left-over d o in omega (arith, a, b)

    work-keeps : (p : ℕ) (o : Option (Host V A)) → host c p ≡ o → Keeps (worked_at P c p o).0
    work-keeps p None at = λ _. le_refl _
    work-keeps p (Some h) at = keeps (worked_at P c p (Some h)).0 (worked-unruled P c p h (todo c.coordinator p h)) (work-lowers P t c AG p h at).no_more

    taken-keeps : (e : Event) → Keeps (taken_step P c e).0
    taken-keeps (event.Work p) = work-keeps p (host c p) refl
    taken-keeps (event.Deliver i) = keeps (taken_step P c (event.Deliver i)).0 (delivered-unruled P c i (slice_get c.flight i)) (delivered-no_more c i (slice_get c.flight i) refl)
    taken-keeps (event.Discarded i) = keeps (taken_step P c (event.Discarded i)).0 (dropped-unruled P c i (slice_get c.flight i)) (dropped-no_more c i (slice_get c.flight i) refl)
    taken-keeps (event.Crash p n) = keeps (taken_step P c (event.Crash p n)).0 (crashed-unruled P c p n (host c p)) (crashed-no_more c p n (host c p) refl)
    taken-keeps event.Barrier = decided (taken_step P c event.Barrier).0 (barred-decided c goes_on)
    taken-keeps (event.Recover ps) = ⊎_elim (decided (taken_step P c (event.Recover ps)).0) (λ o e. let l = ended (taken_step P c (event.Recover ps)).0 o in omega (arith, l)) (recovered-decided c ps)
    taken-keeps event.Repair = decided (taken_step P c event.Repair).0 (repaired-decided c)
    taken-keeps event.Discard = decided (taken_step P c event.Discard).0 (discarded-decided c)

    -- a barrier at which no place can work finds a crash, or commits
    module _ (Q : IsQuiet c) (B : (is_failed c.coordinator.mode && not (is_crash_unseen c)) ≡ false) where
      nobody-fails : down_among c (looked_at c.coordinator) ≡ [] → is_failed c.coordinator.mode ≡ false
      nobody-fails none = false_from_ne_true _ (λ f.
          let unseen : list_any (λ p. not (is_up c p)) c.coordinator.live ≡ true = true_from_ne_false _ (λ n. both_ways _ B (and_from _ _ f (not_from_false _ n))) in
          let some = some-counted (λ p. not (is_up c p)) c.coordinator.live unseen in
          let count = length-filter (λ p. not (is_up c p)) c.coordinator.live in
          let empty : length (down_among c c.coordinator.live) ≡ 0 = ap length (rw f at none) in omega (arith, some, count, empty))

      clear : down_among c (looked_at c.coordinator) ≡ [] → (is_failed c.coordinator.mode ≡ false) × (unready c.coordinator ≡ None)
      clear none =
          let f = nobody-fails none in
          let at_parties : down_among c (parties c.coordinator) ≡ [] = rw f at none in (
            f,
            all-ready P t c AG goes_on (goes-on-open c.coordinator.mode goes_on f) Q.flight
                (λ p party. true_from_ne_false _ (λ down.
                let listed = has-filter (λ q. not (is_up c q)) (parties c.coordinator) p in
                let nowhere : has (down_among c (parties c.coordinator)) p ≡ false = ap (λ l. has l p) at_parties in
                both_ways _ (sym listed ∙ nowhere) (and_from _ _ party (not_from_false _ down))))
                (λ p h at. sym (ap (can_work c.coordinator p) at) ∙ Q.places p (subst (λ n. p < n) AG.committed.shaped.hosts (within c p h h at))),
          )

    abbrev canonical_recovery : Event
    canonical_recovery = event.Recover (take c.coordinator.spares c.coordinator.dead)

    canonical-falls : (e : Event) → next_canonical c ≡ Some e → Falls (taken_step P c e).0
    canonical-falls e is = by-canonical c (λ e. Falls (taken_step P c e).0) e is (record {
      deliver = λ b bs f. let first : slice_get c.flight 0 ≡ Some b = ap (λ l. slice_get l 0) f in
          falls (taken_step P c (event.Deliver 0)).0 (delivered-unruled P c 0 (slice_get c.flight 0))
          (subst (λ o. unfinished (delivered c 0 o).0 < unfinished c) (sym first) (delivered-less c b 0 first));
      work = λ f p h lt at acts. falls (taken_step P c (event.Work p)).0
          (subst (λ o. IsUnruled c.coordinator (worked_at P c p o).0.coordinator) (sym at) (worked-unruled P c p h (todo c.coordinator p h)))
          (subst (λ o. unfinished (worked_at P c p o).0 < unfinished c) (sym at) ((work-lowers P t c AG p h at).less acts));
      recover = λ f u. ⊎_elim (λ r e. raised (taken_step P c canonical_recovery).0 r e) (λ o e. ended (taken_step P c canonical_recovery).0 o) (recovered-raises c f);
      barrier = λ Q B e. raised (taken_step P c event.Barrier).0 (barred-raises c goes_on (clear Q B)) e;
    })

  pub step-keeps : (e : Event) → Keeps (step P c e).0
  step-keeps e = by_test (is_over c.coordinator.mode)
      (λ o. let same = step-over P c o e in λ _. let l : left (step P c e).0 ≡ left c = ap left same in omega (arith, l))
      (λ o. subst (λ r. Keeps r.0) (sym (step-taken P c o e)) (taken-keeps o e))

  pub canonical-leaves-less : (e : Event) → next_canonical c ≡ Some e → (0 < left c) × Falls (step P c e).0
  canonical-leaves-less e is =
      let o = canonical-goes_on c e is in let a = here o in
      (omega (arith, a), subst (λ r. Falls r.0) (sym (step-taken P c o e)) (canonical-falls o e is))
