-- The cases of the canonical event, each with what its tests said.
use Rattle.std.proofs.Common.{◌≡◌, ℕ, ◌<◌, List, [], ◌∷◌, true, false, not, ◌&&◌, find, take, refl, sym, ap, ◌∙◌, subst, arith, Option, Some, None}
use Rattle.std.proofs.lemmas.Bool.{and_parts, not-true}
use Rattle.gr_base.specs.Places.{below}
use Rattle.gr_batch.specs.declared.batch.Batch.{Batch}
use Rattle.gr_sched.specs.declared.event.Event.{Event}
use Rattle.gr_sched.specs.declared.event.Event.TheVariants as event
use Rattle.gr_view.specs.Modes.{is_failed, is_over}
use Rattle.gr_rules.specs.Todo.{is_act}
use Rattle.gr_cluster.specs.Tables.{Host, Cluster, host}
use Rattle.gr_cluster.specs.Todo.{todo, can_work}
use Rattle.gr_cluster.specs.Canonical.{is_crash_unseen, canonical_decision, canonical_work, canonical_among, next_canonical}
use Rattle.gr_lists.proofs.Tests.{by_test, by_option}
use Rattle.gr_lists.proofs.Any.{find-none_of, find-one_of}
use Rattle.gr_base.proofs.Ranges.{has-range, range-within}

module _ {V A : Type 0} (c : Cluster V A) where
  -- no batch is in flight, and no place can work
  pub record IsQuiet : Type 0 where
    pub flight : c.flight ≡ []
    pub places : (p : ℕ) → p < c.places → can_work c.coordinator p (host c p) ≡ false

  pub record CanonicalCases (R : Event → Type 0) : Type 0 where
    pub deliver : (b : Batch V A) (bs : List (Batch V A)) → c.flight ≡ b ∷ bs → R (event.Deliver 0)
    pub work : c.flight ≡ [] → (p : ℕ) (h : Host V A) → p < c.places → host c p ≡ Some h → is_act (todo c.coordinator p h) ≡ true → R (event.Work p)
    pub recover : is_failed c.coordinator.mode ≡ true → is_crash_unseen c ≡ false → R (event.Recover (take c.coordinator.spares c.coordinator.dead))
    pub barrier : IsQuiet → (is_failed c.coordinator.mode && not (is_crash_unseen c)) ≡ false → R event.Barrier

  module _ (R : Event → Type 0) (C : CanonicalCases R) where
    decides : IsQuiet → R (canonical_decision c)
    decides Q = by_test (is_failed c.coordinator.mode && not (is_crash_unseen c))
        (λ e. let k = and_parts (is_failed c.coordinator.mode) (not (is_crash_unseen c)) e in rw e (C.recover k.0 (not-true _ k.1)))
        (λ e. rw e (C.barrier Q e))

    works : c.flight ≡ [] → (o : Option ℕ) → find (λ p. can_work c.coordinator p (host c p)) (below c.places) ≡ o → R (canonical_work c o)
    works empty None is = decides (record { flight = empty; places = λ p lt. find-none_of (λ q. can_work c.coordinator q (host c q)) (below c.places) p is (has-range 0 c.places p (omega arith) (omega (arith, lt))) })
    works empty (Some p) is =
        let f = find-one_of (λ q. can_work c.coordinator q (host c q)) (below c.places) p is in let lt = range-within 0 c.places p f.1 in by_option (host c p)
        (λ n. absurd (let bad : false ≡ true = sym (ap (can_work c.coordinator p) n) ∙ f.0 in cc))
        (λ h at. C.work empty p h (omega (arith, lt)) at (sym (ap (can_work c.coordinator p) at) ∙ f.0))

    among : (bs : List (Batch V A)) → c.flight ≡ bs → R (canonical_among c bs)
    among [] is = works is (find (λ p. can_work c.coordinator p (host c p)) (below c.places)) refl
    among (b ∷ bs) is = C.deliver b bs is

  -- the canonical event comes while the run is not over
  pub canonical-goes_on : (e : Event) → next_canonical c ≡ Some e → is_over c.coordinator.mode ≡ false
  unfolding next_canonical
  canonical-goes_on e is = by_test (is_over c.coordinator.mode)
      (λ o. absurd (let bad : None ≡ Some e = rw o at is in cc))
      (λ o. o)

  pub by-canonical : (R : Event → Type 0) (e : Event) → next_canonical c ≡ Some e → CanonicalCases R → R e
  unfolding next_canonical
  by-canonical R e is C =
      let o = canonical-goes_on e is in let some : Some (canonical_among c c.flight) ≡ Some e = rw o at is in
      let same : canonical_among c c.flight ≡ e = cc in subst R same (among R C c.flight refl)
