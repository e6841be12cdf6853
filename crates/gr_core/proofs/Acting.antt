-- What a place does in a round is what the step of the cluster makes of it.
use Rattle.std.proofs.Common.{◌≡◌, ℕ, ◌+◌, List, [], ◌∷◌, ◌++◌, true, false, refl, sym, ap, ◌∙◌, subst, arith, Option, Some, None, get_or, set, Result, Ok, Err}
use Rattle.std.specs.Prelude.{IsTrue, IsSome, IfSome, is_some, IfOk, OnOk, OnErr}
use Rattle.gr_base.specs.Places.{without_place}
use Rattle.gr_program.specs.Program.{Program}
use Rattle.gr_batch.specs.declared.batch.Batch.{Batch}
use Rattle.gr_batch.specs.declared.stage.Stage.{Stage}
use Rattle.gr_batch.specs.declared.stage.Stage.TheVariants as stage
use Rattle.gr_batch.specs.declared.outcome.Outcome.{Outcome}
use Rattle.gr_batch.specs.declared.outcome.Outcome.TheVariants as outcome
use Rattle.gr_batch.specs.Bodies.{stage_of_body}
use Rattle.gr_batch.specs.Stages.{is_end}
use Rattle.gr_sched.specs.declared.event.Event.TheVariants as event
use Rattle.gr_view.specs.declared.coordinator.Coordinator.{Coordinator}
use Rattle.gr_view.specs.Modes.{is_rebuild}
use Rattle.gr_view.specs.Decisions.{parties, reported}
use Rattle.gr_rules.specs.Exchange.{unsent}
use Rattle.gr_rules.specs.Todo.{Todo}
use Rattle.gr_rules.specs.AtPlace.{round_rows, round_body, due_count}
use Rattle.gr_round.specs.declared.act.Act.{Act}
use Rattle.gr_round.specs.declared.act.Act.TheVariants as act
use Rattle.gr_round.specs.declared.view.RoundView.{RoundView}
use Rattle.gr_round.specs.Line.{is_of_round}
use Rattle.gr_round.specs.Acts as round
use Rattle.gr_round.specs.Todo.{is_told}
use Rattle.gr_cluster.specs.Tables.{Host, Cluster, host}
use Rattle.gr_cluster.specs.Todo.{others, todo}
use Rattle.gr_cluster.specs.Place.{staged_rows, staged_arcs, batch_to, body_to}
use Rattle.gr_cluster.specs.Work.{computed_host, sent_host, worked}
use Rattle.gr_law_rounds.proofs.Network.Frame.{with_host-same}
use Rattle.gr_law_work.specs.InRebuild.{MayReport}
use Rattle.gr_law_rounds.proofs.Round.Todo.{case-todo}
use Rattle.gr_core.specs.Steps.{line_of, copies_of, next_of, answer_of, acted_host, takes_memory}
use Rattle.gr_core.specs.Works.{MayWork, MaySend, NeedsHold}

-- a stage of a round has the body of a round
module _ {V A : Type 0} (P : Program V A) (k : Cluster V A) (p : ℕ) (h : Host V A) where
  body-round : (q : ℕ) (s : Stage) → IsTrue (is_of_round s) → body_to P k p h q s ≡ round_body P p h.epoch (others k.coordinator p) h.inbox h.stable h.arcs k.theta q s
  body-round q stage.Gather r = refl
  body-round q stage.Update r = refl
  body-round q stage.Signal r = refl
  body-round q stage.Call r = refl
  body-round q stage.End r = refl
  body-round q stage.Ask r = absurd (let bad : false ≡ true = r in cc)
  body-round q stage.Grant r = absurd (let bad : false ≡ true = r in cc)

  stage-round : (q : ℕ) (s : Stage) → IsTrue (is_of_round s) → is_end s ≡ false → stage_of_body (round_body P p h.epoch (others k.coordinator p) h.inbox h.stable h.arcs k.theta q s) ≡ s
  stage-round q stage.Gather r e = refl
  stage-round q stage.Update r e = refl
  stage-round q stage.Signal r e = refl
  stage-round q stage.Call r e = refl
  stage-round q stage.End r e = absurd (let bad : true ≡ false = e in cc)
  stage-round q stage.Ask r e = absurd (let bad : false ≡ true = r in cc)
  stage-round q stage.Grant r e = absurd (let bad : false ≡ true = r in cc)

  module _ (none : is_rebuild k.coordinator.mode ≡ false) where
    arcs-kept : (s : Stage) → staged_arcs P k p h s ≡ h.pending_arcs
    arcs-kept stage.Gather = refl
    arcs-kept stage.Update = refl
    arcs-kept stage.Signal = refl
    arcs-kept stage.Call = refl
    arcs-kept stage.Ask = refl
    arcs-kept stage.Grant = refl
    arcs-kept stage.End = rw none refl

    rows-round : (s : Stage) → staged_rows P k p h s ≡ round_rows P p h.epoch (others k.coordinator p) h.inbox h.stable h.arcs s h.pending
    rows-round s = rw none refl

-- the cases of an answer
module _ {V A : Type 0} (P : Program V A) (p : ℕ) (w : RoundView) (h : Host V A) where
  pub computed-is : (x : Todo) (s : Stage) → answer_of P p w h x ≡ act.Computed s → (x ≡ Todo.Compute) × (h.stage ≡ s)
  computed-is Todo.Compute s e = (refl, cc)
  computed-is Todo.Install s e = absurd (cc)
  computed-is Todo.Adopt s e = absurd (cc)
  computed-is Todo.Append s e = absurd (cc)
  computed-is Todo.Report s e = absurd (cc)
  computed-is Todo.Rest s e = absurd (cc)
  computed-is (Todo.Send q) s e = absurd (cc)
  computed-is (Todo.Wait r q) s e = absurd (cc)

  pub record Sends (x : Todo) (b : Batch V A) : Type 0 where
    pub to : ℕ
    pub is : x ≡ Todo.Send to
    pub batch : round.batch_to P p w h.inbox h.arcs (line_of h) (copies_of h) to ≡ b

  pub sent-is : (x : Todo) (b : Batch V A) → answer_of P p w h x ≡ act.Sent b → Sends x b
  sent-is (Todo.Send q) b e = record { to = q; is = refl; batch = cc }
  sent-is Todo.Compute s e = absurd (cc)
  sent-is Todo.Install s e = absurd (cc)
  sent-is Todo.Adopt s e = absurd (cc)
  sent-is Todo.Append s e = absurd (cc)
  sent-is Todo.Report s e = absurd (cc)
  sent-is Todo.Rest s e = absurd (cc)
  sent-is (Todo.Wait r q) s e = absurd (cc)

  pub ready-is : (x : Todo) (n : ℕ) → answer_of P p w h x ≡ act.Ready n → (x ≡ Todo.Report) × (due_count p h.pending ≡ n)
  ready-is Todo.Report n e = (refl, cc)
  ready-is Todo.Compute s e = absurd (cc)
  ready-is Todo.Install s e = absurd (cc)
  ready-is Todo.Adopt s e = absurd (cc)
  ready-is Todo.Append s e = absurd (cc)
  ready-is (Todo.Send q) s e = absurd (cc)
  ready-is Todo.Rest s e = absurd (cc)
  ready-is (Todo.Wait r q) s e = absurd (cc)

  pub waiting-is : (x : Todo) (s : Stage) (q : ℕ) → answer_of P p w h x ≡ act.Waiting s q → x ≡ Todo.Wait s q
  waiting-is (Todo.Wait r q) s q' e = cc
  waiting-is Todo.Compute s q e = absurd (cc)
  waiting-is Todo.Install s q e = absurd (cc)
  waiting-is Todo.Adopt s q e = absurd (cc)
  waiting-is Todo.Append s q e = absurd (cc)
  waiting-is (Todo.Send r) s q e = absurd (cc)
  waiting-is Todo.Rest s q e = absurd (cc)
  waiting-is Todo.Report s q e = absurd (cc)

module _ {V A : Type 0} (P : Program V A) (co : Coordinator) (p : ℕ) (h : Host V A) (M : MayWork P co p h) where
  none : is_rebuild co.mode ≡ false
  none = ap is_rebuild M.running

  -- what is to be done at the place is what it does in the round
  pub next-is : (serial theta : ℕ) → next_of p (record { epoch = co.epoch; round = co.round; parties = parties co; serial = serial; theta = theta }) h ≡ todo co p h
  next-is serial theta = ap (λ e. next_of p (record { epoch = e; round = co.round; parties = parties co; serial = serial; theta = theta }) h) (sym M.now) ∙ sym M.needs.next

  pub rest-is : (w : RoundView) → answer_of P p w h (todo co p h) ≡ act.Rest → todo co p h ≡ Todo.Rest
  rest-is w = case-todo co p h none (λ x. answer_of P p w h x ≡ act.Rest → x ≡ Todo.Rest)
      (λ e. refl)
      (λ s q e. absurd (cc))
      (λ o lt e. absurd (let i = M.installed in omega (arith, lt, i)))
      (λ o le lt e. absurd (let n = M.now in omega (arith, lt, n)))
      (λ o le le' comp runs needs e. absurd (cc))
      (λ q o le le' comp no_end un e. absurd (cc))
      (λ o le le' comp rep end e. absurd (cc))

  pub record SendsTo (q : ℕ) : Type 0 where
    pub computed : h.computed ≡ true
    pub unfinished : is_end h.stage ≡ false
    pub left : unsent (others co p) h.sent ≡ Some q

  -- what is known where it sends
  pub sends-to : (q : ℕ) → todo co p h ≡ Todo.Send q → SendsTo q
  sends-to q is = case-todo co p h none (λ x. x ≡ Todo.Send q → SendsTo q)
      (λ e. absurd (cc))
      (λ s r e. absurd (cc))
      (λ o lt e. absurd (cc))
      (λ o le lt e. absurd (cc))
      (λ o le le' comp runs needs e. absurd (cc))
      (λ r o le le' comp no_end un e. record { computed = comp; unfinished = no_end; left = un ∙ ap Some (let e' : r ≡ q = cc in e') })
      (λ o le le' comp rep end e. absurd (cc))
      is

-- the cluster after what it does
module _ {V A : Type 0} (P : Program V A) (k : Cluster V A) (p : ℕ) (h : Host V A) (M : MayWork P k.coordinator p h) where
  abbrev pub view : RoundView
  view = record { epoch = k.coordinator.epoch; round = k.coordinator.round; parties = parties k.coordinator; serial = k.serial; theta = k.theta }

  none' : is_rebuild k.coordinator.mode ≡ false
  none' = ap is_rebuild M.running

  pub computed-acted : acted_host P p view h Todo.Compute ≡ computed_host (others k.coordinator p) (staged_rows P k p h h.stage) (staged_arcs P k p h h.stage) h
  computed-acted =
      let rows : round_rows P p k.coordinator.epoch (others k.coordinator p) h.inbox h.stable h.arcs h.stage h.pending ≡ staged_rows P k p h h.stage
      = ap (λ e. round_rows P p e (others k.coordinator p) h.inbox h.stable h.arcs h.stage h.pending) (sym M.now) ∙ sym (rows-round P k p h none' h.stage) in
      let arcs : h.pending_arcs ≡ staged_arcs P k p h h.stage = sym (arcs-kept P k p h none' h.stage) in
      λ j. computed_host (others k.coordinator p) (rows j) (arcs j) h

  pub batch-acted : (q : ℕ) → round.batch_to P p view h.inbox h.arcs (line_of h) (copies_of h) q ≡ batch_to P k p h q
  batch-acted q =
      let body : round_body P p k.coordinator.epoch (others k.coordinator p) h.inbox h.stable h.arcs k.theta q h.stage ≡ body_to P k p h q h.stage
      = ap (λ e. round_body P p e (others k.coordinator p) h.inbox h.stable h.arcs k.theta q h.stage) (sym M.now) ∙ sym (body-round P k p h q h.stage M.stage) in
      ap (λ b. record { serial = k.serial; epoch = k.coordinator.epoch; round = k.coordinator.round; sender = p; receiver = q; body = b }) body

  pub batch-stage : (q : ℕ) → is_end h.stage ≡ false → stage_of_body (batch_to P k p h q).body ≡ h.stage
  batch-stage q unfinished = ap stage_of_body (body-round P k p h q h.stage M.stage) ∙ stage-round P k p h q h.stage M.stage unfinished

  module _ (at : host k p ≡ Some h) where
    same-here : (hs : List (Option (Host V A))) → hs ≡ set k.hosts p (Some h) → hs ≡ k.hosts
    same-here hs is = is ∙ with_host-same k p (Some h) at

    next : next_of p view h ≡ todo k.coordinator p h
    next = next-is P k.coordinator p h M k.serial k.theta

    pub done-computed : (hs : List (Option (Host V A))) (s : Stage) → act.Computed s ≡ answer_of P p view h (next_of p view h)
        → hs ≡ set k.hosts p (Some (acted_host P p view h (next_of p view h))) → (record k { hosts = hs }, outcome.Computed s) ≡ worked P k p h (todo k.coordinator p h)
    unfolding worked
    done-computed hs s answer is =
        let I = computed-is P p view h (todo k.coordinator p h) s (sym (answer ∙ ap (answer_of P p view h) next)) in
        let is' : hs ≡ set k.hosts p (Some (computed_host (others k.coordinator p) (staged_rows P k p h h.stage) (staged_arcs P k p h h.stage) h))
        = is ∙ (ap (λ x. set k.hosts p (Some (acted_host P p view h x))) (next ∙ I.0) ∙ ap (λ o. set k.hosts p (Some o)) computed-acted) in
        let s' : s ≡ h.stage = sym I.1 in
        (λ j. (record k { hosts = is' j }, outcome.Computed (s' j))) ∙ ap (worked P k p h) (sym I.0)

    pub done-waiting : (hs : List (Option (Host V A))) (s : Stage) (q : ℕ) → act.Waiting s q ≡ answer_of P p view h (next_of p view h)
        → hs ≡ set k.hosts p (Some (acted_host P p view h (next_of p view h))) → (record k { hosts = hs }, outcome.Waiting s q) ≡ worked P k p h (todo k.coordinator p h)
    unfolding worked
    done-waiting hs s q answer is =
        let x = waiting-is P p view h (todo k.coordinator p h) s q (sym (answer ∙ ap (answer_of P p view h) next)) in
        let is' : hs ≡ k.hosts = same-here hs (is ∙ ap (λ x. set k.hosts p (Some (acted_host P p view h x))) (next ∙ x)) in
        (λ j. (record k { hosts = is' j }, outcome.Waiting s q)) ∙ ap (worked P k p h) (sym x)

    pub done-rest : (hs : List (Option (Host V A))) → act.Rest ≡ answer_of P p view h (next_of p view h)
        → hs ≡ set k.hosts p (Some (acted_host P p view h (next_of p view h))) → (record k { hosts = hs }, outcome.Idle) ≡ worked P k p h (todo k.coordinator p h)
    unfolding worked
    done-rest hs answer is =
        let x = rest-is P k.coordinator p h M view (sym (answer ∙ ap (answer_of P p view h) next)) in
        let is' : hs ≡ k.hosts = same-here hs (is ∙ ap (λ x. set k.hosts p (Some (acted_host P p view h x))) (next ∙ x)) in
        (λ j. (record k { hosts = is' j }, outcome.Idle)) ∙ ap (worked P k p h) (sym x)

    pub ready-next : (n : ℕ) → act.Ready n ≡ answer_of P p view h (next_of p view h) → (todo k.coordinator p h ≡ Todo.Report) × (due_count p h.pending ≡ n)
    ready-next n answer = ready-is P p view h (todo k.coordinator p h) n (sym (answer ∙ ap (answer_of P p view h) next))

    pub done-ready : (hs : List (Option (Host V A))) (co : Coordinator) (n : ℕ) → act.Ready n ≡ answer_of P p view h (next_of p view h)
        → hs ≡ set k.hosts p (Some (acted_host P p view h (next_of p view h))) → co ≡ reported k.coordinator p n
        → (record k { hosts = hs; coordinator = co }, outcome.Ready n) ≡ worked P k p h (todo k.coordinator p h)
    unfolding worked
    done-ready hs co n answer is told =
        let I = ready-next n answer in
        let n' : n ≡ due_count p h.pending = sym I.1 in
        let is' : hs ≡ set k.hosts p (Some (record h { reported = true })) = is ∙ ap (λ x. set k.hosts p (Some (acted_host P p view h x))) (next ∙ I.0) in
        let co' : co ≡ reported k.coordinator p (due_count p h.pending) = told ∙ ap (reported k.coordinator p) n' in
        (λ j. (record k { hosts = is' j; coordinator = co' j }, outcome.Ready (n' j))) ∙ ap (worked P k p h) (sym I.0)

    pub sent-next : (b : Batch V A) → act.Sent b ≡ answer_of P p view h (next_of p view h) → Sends P p view h (todo k.coordinator p h) b
    sent-next b answer = sent-is P p view h (todo k.coordinator p h) b (sym (answer ∙ ap (answer_of P p view h) next))

    -- what is answered and not yet sent leaves the host as it was
    pub sent-same : (hs : List (Option (Host V A))) (b : Batch V A) → act.Sent b ≡ answer_of P p view h (next_of p view h)
        → hs ≡ set k.hosts p (Some (acted_host P p view h (next_of p view h))) → hs ≡ k.hosts
    sent-same hs b answer is = let I = sent-next b answer in same-here hs (is ∙ ap (λ x. set k.hosts p (Some (acted_host P p view h x))) (next ∙ I.is))

    pub may-send : (b : Batch V A) → act.Sent b ≡ answer_of P p view h (next_of p view h) → MaySend (others k.coordinator p) h
    may-send b answer =
        let I = sent-next b answer in let S = sends-to P k.coordinator p h M I.to I.is in
        record { computed = S.computed; unfinished = S.unfinished; left = ap is_some S.left }

    pub done-sent : (hs : List (Option (Host V A))) (fl : List (Batch V A)) (n : ℕ) (b : Batch V A) (o : Outcome V A) → act.Sent b ≡ answer_of P p view h (next_of p view h)
        → ((q : ℕ) → unsent (others k.coordinator p) h.sent ≡ Some q → hs ≡ set k.hosts p (Some (sent_host (others k.coordinator p) q h)))
        → fl ≡ k.flight ++ b ∷ [] → n ≡ k.serial + 1 → o ≡ outcome.Sent k.serial (stage_of_body b.body) b.receiver
        → (record k { hosts = hs; flight = fl; serial = n }, o) ≡ worked P k p h (todo k.coordinator p h)
    unfolding worked
    done-sent hs fl n b o answer hosts flight serial told =
        let I = sent-next b answer in
        let S = sends-to P k.coordinator p h M I.to I.is in
        let b' : b ≡ batch_to P k p h I.to = sym I.batch ∙ batch-acted I.to in
        let hs' = hosts I.to S.left in
        let fl' : fl ≡ k.flight ++ batch_to P k p h I.to ∷ [] = flight ∙ ap (λ x. k.flight ++ x ∷ []) b' in
        let o' : o ≡ outcome.Sent k.serial h.stage I.to = told ∙ (ap (λ (x : Batch V A). outcome.Sent k.serial (stage_of_body x.body) x.receiver) b' ∙ ap (λ s. outcome.Sent k.serial s I.to) (batch-stage I.to S.unfinished)) in
        (λ j. (record k { hosts = hs' j; flight = fl' j; serial = serial j }, o' j)) ∙ ap (worked P k p h) (sym I.is)

  -- what takes no memory only tells something
  pub told-next : takes_memory (event.Work p) (worked P k p h (todo k.coordinator p h)).1 ≡ false → IsTrue (is_told (todo k.coordinator p h))
  unfolding worked
  told-next = case-todo k.coordinator p h none' (λ x. takes_memory (event.Work p) (worked P k p h x).1 ≡ false → IsTrue (is_told x))
      (λ e. refl)
      (λ s q e. refl)
      (λ o lt e. absurd (let i = M.installed in omega (arith, lt, i)))
      (λ o le lt e. absurd (let n = M.now in omega (arith, lt, n)))
      (λ o le le' comp runs needs e. absurd (let bad : true ≡ false = e in cc))
      (λ q o le le' comp no_end un e. absurd (let bad : true ≡ false = e in cc))
      (λ o le le' comp rep end e. refl)

-- what a call that succeeds gives, by another name of it
pub IfOk-same : {V A E : Type 0} (d : Cluster V A) (a b : Cluster V A × Outcome V A) (r : Result (Outcome V A) E) → a ≡ b → IfOk r (λ o. (d, o) ≡ a) → IfOk r (λ o. (d, o) ≡ b)
IfOk-same d a b (Ok o) same is = is ∙ same
IfOk-same d a b (Err e) same is = tt

module _ {V A E : Type 0} (k : Cluster V A) (hs : List (Option (Host V A))) (fl : List (Batch V A)) (n : ℕ) (co : Coordinator) where
  pub OnErr-all : (r : Result (Outcome V A) E) → OnErr r (hs ≡ k.hosts) → OnErr r (fl ≡ k.flight) → OnErr r (n ≡ k.serial) → OnErr r (co ≡ k.coordinator)
      → OnErr r (record k { hosts = hs; flight = fl; serial = n; coordinator = co } ≡ k)
  OnErr-all (Ok o) a b c d = tt
  OnErr-all (Err e) a b c d = λ j. record k { hosts = a j; flight = b j; serial = c j; coordinator = d j }

pub record Up {X : Type 0} (o : Option X) : Type 0 where
  pub it : X
  pub is : o ≡ Some it

pub up-is : {X : Type 0} (o : Option X) → IsSome o → Up o
up-is None s = absurd (let bad : false ≡ true = s in cc)
up-is (Some x) s = record { it = x; is = refl }

-- what holds of whatever an option has
pub IfSome-each : {X : Type 0} {R : X → Type 0} (o : Option X) → ((x : X) → o ≡ Some x → R x) → IfSome o R
IfSome-each None each = tt
IfSome-each (Some x) each = each x refl

pub OnErr-then : {X E Y : Type 0} (r : Result X E) (a b c : Y) → b ≡ c → OnErr r (a ≡ b) → OnErr r (a ≡ c)
OnErr-then (Ok o) a b c e is = tt
OnErr-then (Err o) a b c e is = is ∙ e

-- what the work of a place needs, where the parties have another name
pub needs-here : {V A : Type 0} (P : Program V A) (co : Coordinator) (p : ℕ) (h : Host V A) (serial theta : ℕ) (ps : List ℕ) → ps ≡ parties co → MayWork P co p h
    → NeedsHold P p (record { epoch = co.epoch; round = co.round; parties = ps; serial = serial; theta = theta }) h
needs-here P co p h serial theta ps is M = let N = M.needs in
    subst (λ qs. NeedsHold P p (record { epoch = co.epoch; round = co.round; parties = qs; serial = serial; theta = theta }) h) (sym is)
    (record {
      news = record { sources = N.sources; values = N.values; gathers = N.gathers; updates = N.updates; staged = N.staged };
      signals = N.signals;
      calls = N.calls;
      pending = N.pending;
    })

module _ {V A : Type 0} (P : Program V A) (k : Cluster V A) (p : ℕ) (h : Host V A) (M : MayWork P k.coordinator p h) (at : host k p ≡ Some h) (ps : List ℕ) (parties_is : ps ≡ parties k.coordinator) where
  abbrev seen : List ℕ → RoundView
  seen qs = record { epoch = k.coordinator.epoch; round = k.coordinator.round; parties = qs; serial = k.serial; theta = k.theta }

  pub answer-seen : (x y : Act V A) → y ≡ x → y ≡ answer_of P p (seen ps) h (next_of p (seen ps) h) → x ≡ answer_of P p (view P k p h M) h (next_of p (view P k p h M) h)
  answer-seen x y same is = subst (λ qs. x ≡ answer_of P p (seen qs) h (next_of p (seen qs) h)) parties_is (sym same ∙ is)

  pub hosts-seen : (hs : List (Option (Host V A))) → hs ≡ set k.hosts p (Some (acted_host P p (seen ps) h (next_of p (seen ps) h)))
      → hs ≡ set k.hosts p (Some (acted_host P p (view P k p h M) h (next_of p (view P k p h M) h)))
  hosts-seen hs is = subst (λ qs. hs ≡ set k.hosts p (Some (acted_host P p (seen qs) h (next_of p (seen qs) h)))) parties_is is

  pub report-fits : (n : ℕ) → act.Ready n ≡ answer_of P p (view P k p h M) h (next_of p (view P k p h M) h) → MayReport k.coordinator p n
  report-fits n answer = let I = ready-next P k p h M at n answer in subst (MayReport k.coordinator p) I.1 (M.report I.0)

  module _ (hs : List (Option (Host V A))) (b : Batch V A) (answer : act.Sent b ≡ answer_of P p (view P k p h M) h (next_of p (view P k p h M) h)) (same : hs ≡ k.hosts) where
    pub line-fits : IfSome (get_or hs p None) (λ g. MaySend (without_place ps p) g)
    line-fits = subst (λ o. IfSome o (λ g. MaySend (without_place ps p) g)) (sym (ap (λ l. get_or l p None) same ∙ at))
        (subst (λ qs. MaySend (without_place qs p) h) (sym parties_is) (may-send P k p h M at b answer))

    pub sent-ok : {E : Type 0} (r : Result (Outcome V A) E) (hs' : List (Option (Host V A))) (fl : List (Batch V A)) (n : ℕ)
        → IfOk r (λ o. o ≡ outcome.Sent k.serial (stage_of_body b.body) b.receiver)
        → OnOk r ((g : Host V A) (q : ℕ) → get_or hs p None ≡ Some g → unsent (without_place ps p) g.sent ≡ Some q → hs' ≡ set hs p (Some (sent_host (without_place ps p) q g)))
        → OnOk r (fl ≡ k.flight ++ b ∷ []) → OnOk r (n ≡ k.serial + 1)
        → IfOk r (λ o. (record k { hosts = hs'; flight = fl; serial = n }, o) ≡ worked P k p h (todo k.coordinator p h))
    sent-ok (Ok o) hs' fl n told hosts flight serial = done-sent P k p h M at hs' fl n b o answer
        (λ q left. hosts h q (ap (λ l. get_or l p None) same ∙ at) (ap (λ qs. unsent (without_place qs p) h.sent) parties_is ∙ left)
        ∙ (ap (λ qs. set hs p (Some (sent_host (without_place qs p) q h))) parties_is ∙ ap (λ l. set l p (Some (sent_host (others k.coordinator p) q h))) same))
        flight serial told
    sent-ok (Err e) hs' fl n told hosts flight serial = tt
