-- Each canonical event lowers the measure `to_go`, any other raises it by little, and it is bounded.
use Rattle.std.proofs.Common.{◌≡◌, ℕ, zero, suc, ◌+◌, ◌-◌, ◌*◌, ◌<◌, ◌≤◌, List, ◌∷◌, true, max, nat_lt, lt-ltb, refl, ap, ◌∙◌, arith, Some, length, get_or, slice_get, take, ⊎_elim, false}
use Rattle.std.specs.Prelude.{IsTrue}
use Rattle.std.proofs.Math.Nat.{mul-le-mul_left}
use Rattle.std.proofs.lemmas.Bool.{cases_lt, and_from}
use Rattle.std.proofs.lemmas.List.Elements.{All-get_or}
use Rattle.gr_base.specs.Places.{IsPlaces}
use Rattle.gr_base.specs.Rising.{has}
use Rattle.gr_program.specs.Program.{Program}
use Rattle.gr_program.specs.ProgramLaws.{ProgramLaws}
use Rattle.gr_batch.specs.declared.batch.Batch.{Batch}
use Rattle.gr_sched.specs.declared.event.Event.{Event}
use Rattle.gr_sched.specs.declared.event.Event.TheVariants as event
use Rattle.gr_sched.specs.declared.event.Line.TheVariants as line
use Rattle.gr_sched.specs.Reading.{places_of, are_below}
use Rattle.gr_view.specs.Modes.{is_over}
use Rattle.gr_view.specs.Decisions.{looked_at}
use Rattle.gr_cluster.specs.Tables.{Cluster}
use Rattle.gr_cluster.specs.Step.{step}
use Rattle.gr_cluster.specs.Network.{delivered}
use Rattle.gr_cluster.specs.Canonical.{next_canonical}
use Rattle.gr_cluster.specs.Left.{left}
use Rattle.gr_cluster.specs.ToGo.{most_left, most_added, epochs_due, to_go}
use Rattle.gr_agree.specs.Truth.{Truth}
use Rattle.gr_agree.specs.Agree.{Agree, Invariant}
use Rattle.gr_lists.proofs.Tests.{by_test}
use Rattle.gr_law_rebuilds.proofs.Epoch.Crashes.{looked-places}
use Rattle.gr_law_rebuilds.proofs.Epoch.Places.{dead-within}
use Rattle.gr_law_runs.proofs.Left.Bounded.{left-bounded}
use Rattle.gr_law_runs.proofs.Left.Canonical.{by-canonical, canonical-goes_on}
use Rattle.gr_law_runs.proofs.Left.Counts.{step-counts}
use Rattle.gr_law_runs.proofs.Left.Decided.{take-within}
use Rattle.gr_law_runs.proofs.Left.Less.{step-over, step-taken, step-keeps}
use Rattle.gr_law_runs.proofs.Left.Losing.{removed-shorter}
use Rattle.gr_law_runs.proofs.Left.Places.{left-goes_on}
use Rattle.gr_law_runs.proofs.Left.Same.{step-stays, recover-flight}
use Rattle.gr_law_runs.proofs.Events.Limit.{limit-step}
use Rattle.gr_law_runs.specs.ToGo.{GoesOn}
use Rattle.gr_law_runs.proofs.Bounds.Epochs.{few-epochs}
use Rattle.gr_law_runs.proofs.Bounds.Nearer.{canonical-nearer}
use Rattle.gr_law_runs.proofs.Bounds.Short.{canonical-agrees}

-- a set of places has 64 members at most
at-least : (ps : List ℕ) → IsPlaces ps → (i : ℕ) → i < length ps → i ≤ get_or ps i 0
at-least ps S zero lt = omega arith
at-least ps S (suc i) lt =
    let ih = at-least ps S i (omega (arith, lt)) in let up = S.rise i (suc i) 0 (omega arith) lt in omega (arith, ih, up)

places-few : (ps : List ℕ) → IsPlaces ps → length ps ≤ 64
places-few ps S = ⊎_elim
    (λ lt. absurd (let low = at-least ps S 64 lt in let high = All-get_or (λ p. p < 64) ps 64 0 lt S.below in omega (arith, low, high)))
    (λ le. le) (cases_lt 64 (length ps))

eight-squares : (n : ℕ) → n ≤ 64 → 8 * n * n + 1 ≤ most_left
eight-squares n few = let square : n * n ≤ n * 64 = mul-le-mul_left n few in omega (arith, square, few)

module _ {V A : Type 0} (P : Program V A) where
  -- what is left is few beside the batches in flight
  left-few : (c : Cluster V A) → Invariant P c → left c ≤ length c.flight + most_left
  left-few c I =
      let bound = left-bounded P I.0 c I.1 in
      let few = eight-squares (length (looked_at c.coordinator)) (places-few (looked_at c.coordinator) (looked-places P I.0 c I.1)) in
      omega (arith, bound, few)

  pub to_go-bounded : (c : Cluster V A) → Invariant P c → to_go c ≤ length c.flight + most_left * (c.coordinator.limit - c.coordinator.round + 4)
  to_go-bounded c I = let l = left-few c I in let few = few-epochs c in omega (arith, l, few)

  module _ (c : Cluster V A) (e : Event) (I : Invariant P c) (K : Invariant P (step P c e).0) where
    -- an event adds less than an epoch to what is left
    left-added : is_over c.coordinator.mode ≡ false → left (step P c e).0 < left c + most_left
    left-added o =
        let d = (step P c e).0 in let epoch = (step-counts P c e).epoch in ⊎_elim
        (λ raised.
        let l = left-few d K in let here = left-goes_on c o in
        let same : length d.flight ≡ length c.flight = ⊎_elim (λ stays. absurd (omega (arith, raised, stays))) (λ keeps. ap length keeps) (step-stays P c e) in
        omega (arith, l, here, same))
        (λ stays.
        let same : d.coordinator.epoch ≡ c.coordinator.epoch = omega (arith, epoch, stays) in
        let l = step-keeps P I.0 c I.1 e same in omega (arith, l))
        (cases_lt c.coordinator.epoch d.coordinator.epoch)

    -- and three epochs at most to those that may still come
    due-added : epochs_due (step P c e).0 ≤ epochs_due c + 3
    due-added =
        let d = (step P c e).0 in let round = (step-counts P c e).round in
        let few = few-epochs d in let limit = limit-step P c e in omega (arith, few, round, limit)

    pub to_go-added : to_go (step P c e).0 < to_go c + most_added
    to_go-added = by_test (is_over c.coordinator.mode)
        (λ o. let same : to_go (step P c e).0 ≡ to_go c = ap to_go (step-over P c o e) in omega (arith, same))
        (λ o. let l = left-added o in let due = due-added in omega (arith, l, due))

    -- a canonical event lowers it
    pub to_go-falls : ProgramLaws P → next_canonical c ≡ Some e → to_go (step P c e).0 < to_go c
    to_go-falls L is = ⊎_elim
        (λ fewer. let l = left-added (canonical-goes_on c e is) in omega (arith, l, fewer))
        (λ less. let due = less.0 in let lower = less.1 in omega (arith, due, lower))
        (canonical-nearer P L c e I is)

module _ {V A : Type 0} (P : Program V A) (t : Truth V) (c : Cluster V A) (AG : Agree P t c) where
  -- what else holds of a canonical event: it sends only where no batch is in flight, and it names places of the cluster
  pub record IsCanonical (e : Event) : Type 0 where
    pub flight : length (step P c e).0.flight ≤ max (length c.flight) 1
    pub placed : IsTrue (are_below c.places (places_of (line.Step e)))

  few-in-flight : (e : Event) → length c.flight ≡ 0 → length (step P c e).0.flight ≤ max (length c.flight) 1
  few-in-flight e empty = let more = (step-counts P c e).flight in omega (arith, more, empty)

  -- a batch less is in flight
  delivered-shorter : (b : Batch V A) (bs : List (Batch V A)) → c.flight ≡ b ∷ bs → is_over c.coordinator.mode ≡ false → length (step P c (event.Deliver 0)).0.flight ≤ max (length c.flight) 1
  unfolding delivered
  delivered-shorter b bs f o =
      let first : slice_get c.flight 0 ≡ Some b = ap (λ l. slice_get l 0) f in let less = removed-shorter c b 0 first in
      let same : length (step P c (event.Deliver 0)).0.flight ≡ length (delivered c 0 (Some b)).0.flight = (λ i. length (step-taken P c o (event.Deliver 0) i).0.flight) ∙ (λ i. length (delivered c 0 (first i)).0.flight) in
      omega (arith, less, same)

  -- a recovery leaves the batches in flight
  recovered-flight : (ps : List ℕ) → length (step P c (event.Recover ps)).0.flight ≤ max (length c.flight) 1
  recovered-flight ps = let same = ap length (recover-flight P c ps) in omega (arith, same)

  dead-below : (p : ℕ) → has c.coordinator.dead p ≡ true → nat_lt p c.places ≡ true
  dead-below p m = lt-ltb p c.places (dead-within c.coordinator c.places p (AG.committed.places.one_set p) m)

  pub canonical-is : (e : Event) → next_canonical c ≡ Some e → IsCanonical e
  canonical-is e is = by-canonical c IsCanonical e is (record {
    deliver = λ b bs f. record { flight = delivered-shorter b bs f (canonical-goes_on c e is); placed = refl };
    work = λ none p h lt at acts. record { flight = few-in-flight (event.Work p) (ap length none); placed = and_from _ _ (lt-ltb p c.places lt) refl };
    recover = λ f seen. record {
      flight = recovered-flight (take c.coordinator.spares c.coordinator.dead);
      placed = take-within (λ p. nat_lt p c.places) c.coordinator.spares c.coordinator.dead dead-below;
    };
    barrier = λ Q B. record { flight = few-in-flight event.Barrier (ap length Q.flight); placed = refl };
  })

pub canonical-goes : {V A : Type 0} (P : Program V A) → ProgramLaws P → (c : Cluster V A) (e : Event) → Invariant P c → next_canonical c ≡ Some e → GoesOn P c e
canonical-goes P L c e I is =
    let C = canonical-is P I.0 c I.1 e is in record {
      nearer = to_go-falls P c e I (canonical-agrees P L c e I is) L is;
      flight = C.flight;
      placed = C.placed;
    }
