-- What a delivery and a drop make of a cluster.
use Rattle.std.proofs.Common.{◌≡◌, ℕ, ◌≤◌, List, Bool, true, false, cond, ◌==◌, refl, sym, ap, ◌∙◌, subst, arith, Option, Some, None, slice_get, remove, eq-eqb, get_or, set, Result, Ok, Err}
use Rattle.std.specs.Prelude.{count_by, IfOk, OnErr}
use Rattle.std.specs.List.{list_any}
use Rattle.gr_program.specs.Program.{Program}
use Rattle.gr_batch.specs.declared.batch.Batch.{Batch}
use Rattle.gr_batch.specs.declared.stage.Stage.{Stage}
use Rattle.gr_batch.specs.declared.stage.Stage.TheVariants as stage
use Rattle.gr_batch.specs.declared.outcome.Fate.{Fate}
use Rattle.gr_batch.specs.declared.outcome.Outcome.{Outcome}
use Rattle.gr_batch.specs.declared.outcome.Outcome.TheVariants as outcome
use Rattle.gr_batch.specs.Stages.{is_stage}
use Rattle.gr_batch.specs.Bodies.{is_from, is_of, stage_of_body}
use Rattle.gr_sched.specs.declared.event.Event.{Event}
use Rattle.gr_sched.specs.declared.event.Event.TheVariants as event
use Rattle.gr_view.specs.Modes.{is_over}
use Rattle.gr_cluster.specs.Tables.{Host, Cluster, host, inbox_of}
use Rattle.gr_cluster.specs.Network.{fate_at, received, delivered, dropped}
use Rattle.gr_cluster.specs.Step.{step, taken_step}
use Rattle.gr_agree.specs.Truth.{Truth}
use Rattle.gr_agree.specs.Agree.{Agree}
use Rattle.gr_agree.specs.Network.{standing}
use Rattle.gr_lists.proofs.Counts.{count_by-remove, some-counted}
use Rattle.gr_lists.proofs.Tests.{by_test}
use Rattle.gr_signal.specs.declared.target.Target.{Target}
use Rattle.gr_core.specs.Steps.{may_drop}
use Rattle.gr_core.specs.Targets.{TargetsFit, forgotten}
use Rattle.gr_core.proofs.Standing.{fit-delivered, fit-forgotten}

none-counted : {X : Type 0} (f : X → Bool) (xs : List X) → count_by f xs ≡ 0 → list_any f xs ≡ false
none-counted f xs zero = by_test (list_any f xs) (λ e. absurd (let some = some-counted f xs e in omega (arith, some, zero))) (λ e. e)

stage-itself : (s : Stage) → is_stage s s ≡ true
stage-itself stage.Gather = refl
stage-itself stage.Update = refl
stage-itself stage.Signal = refl
stage-itself stage.Call = refl
stage-itself stage.Ask = refl
stage-itself stage.Grant = refl
stage-itself stage.End = refl

-- a batch is that of its sender, receiver, epoch and stage
from-itself : {V A : Type 0} (b : Batch V A) → is_from b.sender b.receiver b.epoch (stage_of_body b.body) b ≡ true
from-itself b =
    let r : (b.receiver == b.receiver) ≡ true = eq-eqb b.receiver b.receiver refl in
    let s : (b.sender == b.sender) ≡ true = eq-eqb b.sender b.sender refl in
    let e : (b.epoch == b.epoch) ≡ true = eq-eqb b.epoch b.epoch refl in
    rw (r, s, e) (stage-itself (stage_of_body b.body))

module _ {V A : Type 0} (P : Program V A) (c : Cluster V A) where
  -- until the run is over each event is taken
  pub step-taken : (e : Event) → is_over c.coordinator.mode ≡ false → step P c e ≡ taken_step P c e
  unfolding step
  step-taken e o = rw o refl

  -- no batch in flight lies in the inbox of its receiver
  pub flight-fresh : (i : ℕ) (b : Batch V A) (t : Truth V) → Agree P t c → slice_get c.flight i ≡ Some b
      → list_any (is_of b.sender b.epoch (stage_of_body b.body)) (inbox_of (host c b.receiver)) ≡ false
  flight-fresh i b t agree is =
      let s = stage_of_body b.body in
      let once : standing c.flight (host c b.receiver) b.sender b.receiver b.epoch s ≤ 1 = agree.open_work.network.at_most_one b.sender b.receiver b.epoch s in
      let less = count_by-remove (is_from b.sender b.receiver b.epoch s) b c.flight i is in
      let one : cond {A = ℕ} (is_from b.sender b.receiver b.epoch s b) 1 0 ≡ 1 = ap (λ x. cond x 1 0) (from-itself b) in
      none-counted (is_of b.sender b.epoch s) (inbox_of (host c b.receiver)) (omega (arith, once, less, one))

  -- a batch that may not be dropped changes nothing
  pub dropped-kept : (i : ℕ) (o : Option (Batch V A)) → may_drop c o ≡ false → dropped c i o ≡ (c, outcome.Idle)
  unfolding dropped
  dropped-kept i None e = refl
  dropped-kept i (Some b) e = rw e refl

  pub dropped-gone : (i : ℕ) (o : Option (Batch V A)) (r : Outcome V A) → may_drop c o ≡ true → ((b : Batch V A) → o ≡ Some b → r ≡ outcome.Dropped b.serial)
      → dropped c i o ≡ (record c { flight = remove c.flight i }, r)
  unfolding dropped
  dropped-gone i None r e is = absurd (let bad : false ≡ true = e in cc)
  dropped-gone i (Some b) r e is = rw (e, is b refl) refl

module _ {V A : Type 0} (k : Cluster V A) (i : ℕ) (hs : List (Option (Host V A))) (fl : List (Batch V A)) (at : k.hosts ≡ hs) (in_flight : k.flight ≡ fl) where
  -- none where there are not so many batches
  pub delivered-none : (o : Option (Batch V A)) → o ≡ None → (record k { hosts = hs; flight = fl }, outcome.Idle) ≡ delivered k i o
  unfolding delivered
  delivered-none o none = rw none (λ j. (record k { hosts = sym at j; flight = sym in_flight j }, outcome.Idle))

  -- the batch at its receiver
  pub delivered-some : (o : Option (Batch V A)) (b b' : Batch V A) (f : Fate) (hs' : List (Option (Host V A))) (fl' : List (Batch V A)) → o ≡ Some b → o ≡ Some b'
      → hs' ≡ set hs b'.receiver (received b' (get_or hs b'.receiver None)) → fl' ≡ remove fl i → f ≡ fate_at b' (get_or hs b'.receiver None)
      → (record k { hosts = hs'; flight = fl' }, outcome.Delivered b f) ≡ delivered k i o
  unfolding delivered
  delivered-some o b b' f hs' fl' is is' hosts flight fate =
      let e : Some b ≡ Some b' = sym is ∙ is' in
      let same : b ≡ b' = cc in
      let hosts' : hs' ≡ set k.hosts b'.receiver (received b' (get_or k.hosts b'.receiver None)) = hosts ∙ ap (λ l. set l b'.receiver (received b' (get_or l b'.receiver None))) (sym at) in
      let flight' : fl' ≡ remove k.flight i = flight ∙ ap (λ l. remove l i) (sym in_flight) in
      let fate' : f ≡ fate_at b' (get_or k.hosts b'.receiver None) = fate ∙ ap (λ l. fate_at b' (get_or l b'.receiver None)) (sym at) in
      rw is' (λ j. (record k { hosts = hosts' j; flight = flight' j }, outcome.Delivered (same j) (fate' j)))

module _ {V A E : Type 0} (P : Program V A) (c : Cluster V A) (i : ℕ) (r : Result (Outcome V A) E) (hs : List (Option (Host V A))) (fl : List (Batch V A)) where
  pub IfOk-delivered : is_over c.coordinator.mode ≡ false
      → IfOk r (λ o. (k : Cluster V A) → k.hosts ≡ c.hosts → k.flight ≡ c.flight → (record k { hosts = hs; flight = fl }, o) ≡ delivered k i (slice_get c.flight i))
      → IfOk r (λ o. (record c { hosts = hs; flight = fl }, o) ≡ step P c (event.Deliver i))
  IfOk-delivered over is = of r is
    where
      of : (r : Result (Outcome V A) E) → IfOk r (λ o. (k : Cluster V A) → k.hosts ≡ c.hosts → k.flight ≡ c.flight → (record k { hosts = hs; flight = fl }, o) ≡ delivered k i (slice_get c.flight i))
          → IfOk r (λ o. (record c { hosts = hs; flight = fl }, o) ≡ step P c (event.Deliver i))
      of (Ok o) is = is c refl refl ∙ sym (step-taken P c (event.Deliver i) over)
      of (Err e) is = tt

  -- the targets that are kept fit the hosts after a delivery
  pub fit-result : (n : ℕ) (ps : List ℕ) (kept : List (Option (List Target)))
      → IfOk r (λ o. (k : Cluster V A) → k.hosts ≡ c.hosts → k.flight ≡ c.flight → (record k { hosts = hs; flight = fl }, o) ≡ delivered k i (slice_get c.flight i)) → OnErr r (hs ≡ c.hosts)
      → TargetsFit P n ps c.hosts kept → TargetsFit P n ps hs (forgotten (slice_get c.flight i) kept)
  fit-result n ps kept ok err fit = of r ok err
    where
      left : List (Option (List Target))
      left = forgotten (slice_get c.flight i) kept

      of : (r : Result (Outcome V A) E) → IfOk r (λ o. (k : Cluster V A) → k.hosts ≡ c.hosts → k.flight ≡ c.flight → (record k { hosts = hs; flight = fl }, o) ≡ delivered k i (slice_get c.flight i))
          → OnErr r (hs ≡ c.hosts) → TargetsFit P n ps hs left
      of (Ok o) ok err = subst (λ (x : Cluster V A × Outcome V A). TargetsFit P n ps x.0.hosts left) (sym (ok c refl refl)) (fit-delivered P n ps c i (slice_get c.flight i) kept fit)
      of (Err e) ok err = subst (λ l. TargetsFit P n ps l left) (sym err) (fit-forgotten P n ps c.hosts kept (slice_get c.flight i) fit)

  pub OnErr-kept : OnErr r (hs ≡ c.hosts) → OnErr r (fl ≡ c.flight) → OnErr r (record c { hosts = hs; flight = fl } ≡ c)
  OnErr-kept a b = of r a b
    where
      of : (r : Result (Outcome V A) E) → OnErr r (hs ≡ c.hosts) → OnErr r (fl ≡ c.flight) → OnErr r (record c { hosts = hs; flight = fl } ≡ c)
      of (Ok o) a b = tt
      of (Err e) a b = λ j. record c { hosts = a j; flight = b j }

module _ {V A : Type 0} (P : Program V A) (c : Cluster V A) (i : ℕ) (over : is_over c.coordinator.mode ≡ false) where
  pub drop-idle : may_drop c (slice_get c.flight i) ≡ false → (c, outcome.Idle) ≡ step P c (event.Discarded i)
  drop-idle kept = sym (step-taken P c (event.Discarded i) over ∙ dropped-kept P c i (slice_get c.flight i) kept)

  pub drop-step : (fl : List (Batch V A)) (r : Outcome V A) → may_drop c (slice_get c.flight i) ≡ true → fl ≡ remove c.flight i
      → ((b : Batch V A) → slice_get c.flight i ≡ Some b → r ≡ outcome.Dropped b.serial) → (record c { flight = fl }, r) ≡ step P c (event.Discarded i)
  drop-step fl r may rest told = (λ j. (record c { flight = rest j }, r)) ∙ sym (step-taken P c (event.Discarded i) over ∙ dropped-gone P c i (slice_get c.flight i) r may told)

-- after the end of the run nothing happens
pub step-over : {V A : Type 0} (P : Program V A) (c : Cluster V A) (e : Event) → is_over c.coordinator.mode ≡ true → (c, outcome.Idle) ≡ step P c e
unfolding step
step-over P c e o = rw o refl
