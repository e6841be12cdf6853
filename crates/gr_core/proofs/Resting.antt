-- The places that rest, and what the work of a place and a delivery leave of them.
use Rattle.std.proofs.Common.{◌≡◌, ◌≢◌, ◌∙◌, ℕ, Bool, true, false, eqb, ◌==◌, eq-eqb, List, [], Option, Some, None, refl, sym, ap, get_or, set, slice_get, get_or-set_other}
use Rattle.std.specs.Prelude.{◌||◌, ◌&&◌, not, option_map}
use Rattle.std.proofs.lemmas.Bool.{eqb-true}
use Rattle.gr_base.specs.Rising.{has}
use Rattle.gr_base.specs.Places.{with_place, without_place}
use Rattle.gr_base.proofs.WithPlace.{has-with_place}
use Rattle.gr_lists.proofs.Any.{has-filter}
use Rattle.gr_lists.proofs.Tests.{by_test, by_same}
use Rattle.gr_program.specs.Program.{Program}
use Rattle.gr_batch.specs.declared.batch.Batch.{Batch}
use Rattle.gr_batch.specs.declared.outcome.Outcome.{Outcome}
use Rattle.gr_sched.specs.declared.event.Event.{Event}
use Rattle.gr_sched.specs.declared.event.Event.TheVariants as event
use Rattle.gr_view.specs.declared.coordinator.Coordinator.{Coordinator}
use Rattle.gr_view.specs.Modes.{is_over}
use Rattle.gr_view.specs.Decisions.{reported}
use Rattle.gr_rules.specs.Todo.{Todo}
use Rattle.gr_cluster.specs.Tables.{Host, Cluster, host}
use Rattle.gr_cluster.specs.Todo.{todo, can_work}
use Rattle.gr_cluster.specs.Network.{delivered}
use Rattle.gr_cluster.specs.Work.{worked, worked_at}
use Rattle.gr_cluster.specs.Step.{step}
use Rattle.gr_core.specs.Resting.{AreAtRest}
use Rattle.gr_core.proofs.Network.{step-taken}

-- no place stands in an empty set
pub nobody : (places : List ℕ) → places ≡ [] → (p : ℕ) → has places p ≡ true → ⊥
nobody places none p here = let bad : false ≡ true = sym (ap (λ l. has l p) none) ∙ here in cc

module _ {V A : Type 0} where
  -- whether the place q of a cluster can work
  abbrev can_work_in : Cluster V A → ℕ → Bool
  can_work_in c q = can_work c.coordinator q (host c q)

  reported-elsewhere : (co : Coordinator) (p n q : ℕ) (o : Option (Host V A)) → can_work (reported co p n) q o ≡ can_work co q o
  unfolding todo
  reported-elsewhere co p n q None = refl
  reported-elsewhere co p n q (Some h) = refl

  set-elsewhere : (c : Cluster V A) (p q : ℕ) (o : Option (Host V A)) → q ≢ p → can_work c.coordinator q (get_or (set c.hosts p o) q None) ≡ can_work_in c q
  set-elsewhere c p q o ne = ap (can_work c.coordinator q) (get_or-set_other c.hosts p q o None ne)

  -- the work of a place changes nothing for another
  worked-elsewhere : (P : Program V A) (c : Cluster V A) (p q : ℕ) (h : Host V A) (x : Todo) → q ≢ p → can_work_in (worked P c p h x).0 q ≡ can_work_in c q
  unfolding worked
  worked-elsewhere P c p q h Todo.Install ne = set-elsewhere c p q _ ne
  worked-elsewhere P c p q h Todo.Adopt ne = set-elsewhere c p q _ ne
  worked-elsewhere P c p q h Todo.Compute ne = set-elsewhere c p q _ ne
  worked-elsewhere P c p q h (Todo.Send r) ne = set-elsewhere c p q _ ne
  worked-elsewhere P c p q h Todo.Append ne = set-elsewhere c p q _ ne
  worked-elsewhere P c p q h Todo.Report ne = reported-elsewhere c.coordinator p _ q _ ∙ set-elsewhere c p q _ ne
  worked-elsewhere P c p q h (Todo.Wait s r) ne = refl
  worked-elsewhere P c p q h Todo.Rest ne = refl

  at-work : (P : Program V A) (c : Cluster V A) (p q : ℕ) (o : Option (Host V A)) → q ≢ p → can_work_in (worked_at P c p o).0 q ≡ can_work_in c q
  at-work P c p q None ne = refl
  at-work P c p q (Some h) ne = worked-elsewhere P c p q h (todo c.coordinator p h) ne

  pub work-elsewhere : (P : Program V A) (c : Cluster V A) (p q : ℕ) → is_over c.coordinator.mode ≡ false → q ≢ p → can_work_in (step P c (event.Work p)).0 q ≡ can_work_in c q
  work-elsewhere P c p q over ne = ap (λ x. can_work_in x.0 q) (step-taken P c (event.Work p) over) ∙ at-work P c p q (host c p) ne

  -- a delivery changes nothing except for its receiver
  at-delivery : (c : Cluster V A) (i q : ℕ) (r : Option (Batch V A)) → ((b : Batch V A) → r ≡ Some b → q ≢ b.receiver) → can_work_in (delivered c i r).0 q ≡ can_work_in c q
  unfolding delivered
  at-delivery c i q None ne = refl
  at-delivery c i q (Some b) ne = set-elsewhere c b.receiver q _ (ne b refl)

  pub receiver-is : (r : Option (Batch V A)) (p : ℕ) → option_map (λ b. b.receiver) r ≡ Some p → (b : Batch V A) → r ≡ Some b → b.receiver ≡ p
  receiver-is None p is b at = absurd (cc)
  receiver-is (Some d) p is b at = cc

  pub delivery-elsewhere : (P : Program V A) (c : Cluster V A) (i q : ℕ) → is_over c.coordinator.mode ≡ false → ((b : Batch V A) → slice_get c.flight i ≡ Some b → q ≢ b.receiver)
      → can_work_in (step P c (event.Deliver i)).0 q ≡ can_work_in c q
  delivery-elsewhere P c i q over ne = ap (λ x. can_work_in x.0 q) (step-taken P c (event.Deliver i) over) ∙ at-delivery c i q (slice_get c.flight i) ne

  -- what rested rests after a step that changes nothing for it
  pub rest-after : (P : Program V A) (c d : Cluster V A) (o : Outcome V A) (e : Event) (resting : List ℕ) (q : ℕ) → (d, o) ≡ step P c e → can_work_in (step P c e).0 q ≡ can_work_in c q
      → AreAtRest c resting → has resting q ≡ true → can_work_in d q ≡ false
  rest-after P c d o e resting q is same rest here = ap (λ x. can_work_in x.0 q) is ∙ (same ∙ rest q here)

  -- a place that cannot work rests with the others
  pub rest-with : (c : Cluster V A) (resting after : List ℕ) (p : ℕ) → ((q : ℕ) → q ≢ p → has resting q ≡ true → can_work_in c q ≡ false) → can_work_in c p ≡ false
      → after ≡ with_place resting p → AreAtRest c after
  rest-with c resting after p others off is = λ q here. by_same q p
      (λ same. ap (can_work_in c) same ∙ off)
      (λ ne. let both : (has resting q || eqb p q) ≡ true = sym (has-with_place resting p q) ∙ (ap (λ l. has l q) (sym is) ∙ here) in
      others q ne (by_test (has resting q) (λ k. k) (λ k. absurd (ne (sym (eqb-true p q (rw k at both)))))))

  -- and one that can does not
  pub rest-without : (c : Cluster V A) (resting after : List ℕ) (p : ℕ) → ((q : ℕ) → q ≢ p → has resting q ≡ true → can_work_in c q ≡ false)
      → after ≡ without_place resting p → AreAtRest c after
  rest-without c resting after p others is = λ q here.
      let both : (has resting q && not (q == p)) ≡ true = sym (has-filter (λ r. not (r == p)) resting q) ∙ (ap (λ l. has l q) (sym is) ∙ here) in
      let rest : has resting q ≡ true = by_test (has resting q) (λ k. k) (λ k. absurd (let bad : false ≡ true = rw k at both in cc)) in
      others q (λ same. let on : (q == p) ≡ true = eq-eqb q p same in absurd (let bad : false ≡ true = rw (rest, on) at both in cc)) rest
