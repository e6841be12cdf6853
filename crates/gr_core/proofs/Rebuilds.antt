-- What a place does in a rebuild is what the step of the cluster makes of it.
use Rattle.std.proofs.Common.{◌≡◌, ℕ, ◌+◌, ◌<◌, ◌≤◌, List, [], ◌∷◌, ◌++◌, true, false, refl, sym, ap, ◌∙◌, subst, arith, Option, Some, None, get_or, set, length, Result, Ok, Err, ltb-false}
use Rattle.std.specs.Prelude.{IsTrue, IfSome, is_some, unwrap_or, IfOk, OnOk, OnErr}
use Rattle.gr_base.specs.Places.{without_place}
use Rattle.gr_program.specs.Program.{Program}
use Rattle.gr_program.specs.ProgramLaws.{ProgramLaws}
use Rattle.gr_log.specs.Bytes.{size_of}
use Rattle.gr_log.specs.Log.{Log, with_records}
use Rattle.gr_batch.specs.declared.stage.Stage.{Stage}
use Rattle.gr_batch.specs.declared.body.Body.{Body}
use Rattle.gr_batch.specs.declared.batch.Batch.{Batch}
use Rattle.gr_batch.specs.declared.outcome.Outcome.{Outcome}
use Rattle.gr_batch.specs.declared.outcome.Outcome.TheVariants as outcome
use Rattle.gr_batch.specs.Bodies.{stage_of_body}
use Rattle.gr_batch.specs.Stages.{is_end}
use Rattle.gr_sched.specs.declared.event.Event.TheVariants as event
use Rattle.gr_view.specs.declared.coordinator.Coordinator.{Coordinator}
use Rattle.gr_view.specs.Decisions.{parties, reported}
use Rattle.gr_rules.specs.Exchange.{unsent}
use Rattle.gr_rules.specs.Taken.{Ends, log_at}
use Rattle.gr_rules.specs.Todo.{Todo}
use Rattle.gr_rules.specs.AtPlace.{due_count}
use Rattle.gr_round.specs.Todo.{todo_in_rebuild}
use Rattle.gr_migrate.specs.Ends.{MastersKnown, retired_edges}
use Rattle.gr_migrate.proofs.RetiredParts.{retired-set}
use Rattle.gr_rebuild.specs.Ending.{IsAllCommitted}
use Rattle.gr_rebuild.specs.declared.place.PlaceInRebuild.{PlaceInRebuild}
use Rattle.gr_cluster.specs.Tables.{Host, Cluster, host, view_of}
use Rattle.gr_cluster.specs.Todo.{others}
use Rattle.gr_cluster.specs.Work.{exchange_of, computed_host, sent_host, worked}
use Rattle.gr_cluster.specs.Step.{step}
use Rattle.gr_law_rebuilds.proofs.Rebuild.InEpoch.{at-epoch, is-now}
use Rattle.gr_law_work.specs.AtPlace.{place_in, rows_after, arcs_after, body_after, appended_by, ReadyToRebuild}
use Rattle.gr_law_work.specs.InRebuild.{MayRebuild, MayReport}
use Rattle.gr_law_work.proofs.Relies.AtPlace.{ready, computed-work, sent-work, appended-work, reported-work}
use Rattle.gr_law_work.proofs.Relies.Line.{not-over}
use Rattle.gr_law_work.proofs.Relies.Next.{computes-fresh, sends-to, reports-end}
use Rattle.gr_law_work.proofs.Relies.Rebuild.{may-rebuild}
use Rattle.gr_core.specs.declared.turn.Turn.TheVariants as turn
use Rattle.gr_core.specs.Rebuilds.{HasToDo}
use Rattle.gr_core.specs.Steps.{takes_memory}
use Rattle.gr_core.specs.Tables.{Tables, Agrees, RetiredFit}
use Rattle.gr_core.specs.Turns.{turn_of}
use Rattle.gr_core.specs.Works.{MaySend}
use Rattle.gr_core.proofs.Kept.{keeps, keeps-stepped, fit-same}
use Rattle.gr_core.proofs.Turns.{turn-rebuild, work-step}

module _ {V A : Type 0} (P : Program V A) (c : Cluster V A) (p : ℕ) where
  step-is : (x : Todo) (N : HasToDo c p x) → worked P c p N.at x ≡ step P c (event.Work p)
  step-is x N = sym (work-step P c p (not-over c.coordinator.mode N.rebuilding) N.at x N.is N.next)

  -- a place that waits or rests changes nothing
  pub waiting-step : (s : Stage) (q : ℕ) → HasToDo c p (Todo.Wait s q) → (c, outcome.Waiting s q) ≡ step P c (event.Work p)
  unfolding worked
  waiting-step s q N = step-is (Todo.Wait s q) N

  pub resting-step : HasToDo c p Todo.Rest → (c, outcome.Idle) ≡ step P c (event.Work p)
  unfolding worked
  resting-step N = step-is Todo.Rest N

  -- what computes, sends or appends takes memory
  pub computing-takes : HasToDo c p Todo.Compute → takes_memory (event.Work p) (step P c (event.Work p)).1 ≡ true
  unfolding worked
  computing-takes N = sym (ap (λ (x : Cluster V A × Outcome V A). takes_memory (event.Work p) x.1) (step-is Todo.Compute N))

  pub sending-takes : (q : ℕ) → HasToDo c p (Todo.Send q) → takes_memory (event.Work p) (step P c (event.Work p)).1 ≡ true
  unfolding worked
  sending-takes q N = sym (ap (λ (x : Cluster V A × Outcome V A). takes_memory (event.Work p) x.1) (step-is (Todo.Send q) N))

  pub appending-takes : HasToDo c p Todo.Append → takes_memory (event.Work p) (step P c (event.Work p)).1 ≡ true
  unfolding worked
  appending-takes N = sym (ap (λ (x : Cluster V A × Outcome V A). takes_memory (event.Work p) x.1) (step-is Todo.Append N))

module _ {V A : Type 0} (P : Program V A) (c : Cluster V A) (K : Agrees P c) (p : ℕ) where
  -- what is next at the place, where its turn is a rebuild
  pub has-to-do : turn_of c.coordinator (host c p) ≡ turn.Rebuild → (x : Todo)
      → ((h : Host V A) → host c p ≡ Some h → x ≡ todo_in_rebuild h.inbox h.epoch (others c.coordinator p) (exchange_of h) h.appended h.reported) → HasToDo c p x
  has-to-do is x next =
      let T = turn-rebuild c.coordinator (host c p) is in
      let W = T.0 in
      let rebuilding = T.1 in
      let le = ltb-false W.at.installed c.coordinator.commits W.installed in
      let le' = ltb-false W.at.epoch c.coordinator.epoch W.adopted in
      let now = is-now P K.state c K.holds rebuilding p W.at W.is le le' in
      let installed = (at-epoch P K.state c K.holds rebuilding p W.at W.is le le').installed in
      let M = may-rebuild P K.state c p W.at K.holds rebuilding W.is installed now in
      record { rebuilding = rebuilding; at = W.at; is = W.is; installed = installed; now = now; next = M.next ∙ sym (next W.at W.is) }

-- what a call knows of the cluster and of what a place goes by, with the parts of the cluster that it changes
module _ {T V A : Type 0} {inside now : Tables T V A} (same : inside ≡ now) {p : ℕ} where
  module _ {x : Todo} where
    pub next-inside : HasToDo now.cluster p x → HasToDo inside.cluster p x
    next-inside N = subst (λ (t : Tables T V A). HasToDo t.cluster p x) (sym same) N

  pub place-inside : (program : T → Program V A) {w : PlaceInRebuild} → w ≡ place_in (program now.program) now.cluster p → w ≡ place_in (program inside.program) inside.cluster p
  place-inside program is = is ∙ ap (λ (t : Tables T V A). place_in (program t.program) t.cluster p) (sym same)

-- a place has something to do, by what it goes by
module _ {V A : Type 0} {P : Program V A} {c : Cluster V A} (K : Agrees P c) {p : ℕ} {x : Todo} (N : HasToDo c p x) where
  may : MayRebuild P c p N.at
  may = may-rebuild P K.state c p N.at K.holds N.rebuilding N.is N.installed N.now

  pub up-within : p < length c.hosts
  up-within =
      let M = may.place in
      let many : length c.hosts ≡ c.places = K.holds.committed.shaped.hosts in
      omega (arith, M, many)

  module _ {w : PlaceInRebuild} (place_is : w ≡ place_in P c p) where
    at-place : get_or c.hosts w.place None ≡ Some N.at
    at-place = ap (λ (v : PlaceInRebuild). get_or c.hosts v.place None) place_is ∙ N.is

    pub place-within : w.place < length c.hosts
    place-within = subst (λ (v : PlaceInRebuild). v.place < length c.hosts) (sym place_is) up-within

    pub log-within : w.place < length c.logs
    log-within =
        let e : w.place ≡ p = ap (λ (v : PlaceInRebuild). v.place) place_is in
        let M = may.place in
        let many : length c.logs ≡ c.places = K.holds.committed.shaped.logs in
        omega (arith, e, M, many)

    pub few-here : w.view.places ≤ 64
    few-here = subst (λ (v : PlaceInRebuild). v.view.places ≤ 64) (sym place_is) may.places

    module _ {logs : List Log} (same : logs ≡ c.logs) where
      pub masters-here : MastersKnown w.view logs
      masters-here = subst (λ (v : PlaceInRebuild). MastersKnown v.view logs) (sym place_is) (subst (λ (ls : List Log). MastersKnown (view_of P c) ls) (sym same) may.masters)

      edges-here : retired_edges w.view logs ≡ retired_edges (view_of P c) c.logs
      edges-here = λ j. retired_edges (place_is j).view (same j)

      -- the edges of places that retire, as they were kept before
      pub fits-here : (r : Option (List Ends)) → RetiredFit (view_of P c) c.logs r → RetiredFit w.view logs r
      fits-here r fit = fit-same (view_of P c) w.view c.logs logs r edges-here fit

      -- and as they are kept now
      pub fits-kept : {r : Option (List Ends)} → r ≡ Some (retired_edges w.view logs) → RetiredFit (view_of P c) c.logs r
      fits-kept is = subst (λ (o : Option (List Ends)). RetiredFit (view_of P c) c.logs o) (sym is) edges-here

      pub retired-here : {r : Option (List Ends)} {edges : List Ends} → r ≡ Some (retired_edges w.view logs) → edges ≡ unwrap_or r [] → edges ≡ retired_edges (view_of P c) c.logs
      retired-here is told = told ∙ (ap (λ (o : Option (List Ends)). unwrap_or o []) is ∙ edges-here)

    module _ {retired : List Ends} (retired_is : retired ≡ retired_edges (view_of P c) c.logs) where
      pub ready-at : ReadyToRebuild w retired N.at
      ready-at = subst (λ (v : PlaceInRebuild). ReadyToRebuild v retired N.at) (sym place_is) (ready P c p N.at N.now retired retired_is may)

      pub ready-here : IfSome (get_or c.hosts w.place None) (λ h. ReadyToRebuild w retired h)
      ready-here = subst (λ o. IfSome o (λ h. ReadyToRebuild w retired h)) (sym at-place) ready-at

module _ {V A : Type 0} {P : Program V A} {c : Cluster V A} (K : Agrees P c) {p : ℕ} where
  -- a stage is computed
  module _ (N : HasToDo c p Todo.Compute) {w : PlaceInRebuild} (place_is : w ≡ place_in P c p) where
    pub fresh-here : IfSome (get_or c.hosts w.place None) (λ h. h.computed ≡ false)
    fresh-here = subst (λ o. IfSome o (λ h. h.computed ≡ false)) (sym (at-place K N place_is)) (computes-fresh c.coordinator p N.at N.rebuilding N.next)

    module _ {retired : List Ends} (retired_is : retired ≡ retired_edges (view_of P c) c.logs) where
      pub computed-step : (hs : List (Option (Host V A))) (s : Stage)
          → ((h : Host V A) → get_or c.hosts w.place None ≡ Some h → s ≡ h.stage)
          → ((h : Host V A) → get_or c.hosts w.place None ≡ Some h → hs ≡ set c.hosts w.place (Some (computed_host w.others (rows_after w retired h h.stage) (arcs_after w retired h h.stage) h)))
          → (record c { hosts = hs }, outcome.Computed s) ≡ step P c (event.Work p)
      computed-step hs s stage hosts =
          let h = N.at in
          let at = at-place K N place_is in
          let is : hs ≡ set c.hosts p (Some (computed_host (others c.coordinator p) (rows_after (place_in P c p) retired h h.stage) (arcs_after (place_in P c p) retired h h.stage) h))
          = hosts h at ∙ (λ j. set c.hosts (place_is j).place (Some (computed_host (place_is j).others (rows_after (place_is j) retired h h.stage) (arcs_after (place_is j) retired h h.stage) h))) in
          computed-work P c p h N.now retired retired_is N.rebuilding hs s (stage h at) is ∙ step-is P c p Todo.Compute N

  -- it appends to its log
  module _ (N : HasToDo c p Todo.Append) {w : PlaceInRebuild} (place_is : w ≡ place_in P c p) where
    pub committed-here : IsAllCommitted (log_at c.logs w.place)
    committed-here = subst (λ (v : PlaceInRebuild). IsAllCommitted (log_at c.logs v.place)) (sym place_is) ((may K N).append N.next)

    module _ {retired : List Ends} (retired_is : retired ≡ retired_edges (view_of P c) c.logs) (ls : List Log)
        (logs : (h : Host V A) → get_or c.hosts w.place None ≡ Some h → ls ≡ set c.logs w.place (with_records (appended_by w retired h) (log_at c.logs w.place))) where
      pub appended-step : (hs : List (Option (Host V A))) (n : ℕ)
          → ((h : Host V A) → get_or c.hosts w.place None ≡ Some h → n ≡ size_of (appended_by w retired h))
          → ((h : Host V A) → get_or c.hosts w.place None ≡ Some h → hs ≡ set c.hosts w.place (Some (record h { appended = true })))
          → (record c { hosts = hs; logs = ls }, outcome.Appended n) ≡ step P c (event.Work p)
      appended-step hs n bytes hosts =
          let h = N.at in
          let at = at-place K N place_is in
          let bytes' : n ≡ size_of (appended_by (place_in P c p) retired h) = bytes h at ∙ (λ j. size_of (appended_by (place_is j) retired h)) in
          let hosts' : hs ≡ set c.hosts p (Some (record h { appended = true })) = hosts h at ∙ (λ j. set c.hosts (place_is j).place (Some (record h { appended = true }))) in
          let logs' : ls ≡ set c.logs p (with_records (appended_by (place_in P c p) retired h) (log_at c.logs p))
          = logs h at ∙ (λ j. set c.logs (place_is j).place (with_records (appended_by (place_is j) retired h) (log_at c.logs (place_is j).place))) in
          appended-work P c p h N.now retired retired_is hs ls n bytes' hosts' logs' ∙ step-is P c p Todo.Append N

      -- what it appends is not committed, so the edges that are kept stay those of the logs
      pub appended-fits : (r : Option (List Ends)) → RetiredFit (view_of P c) c.logs r → RetiredFit (view_of P c) ls r
      appended-fits r fit =
          let l = with_records (appended_by w retired N.at) (log_at c.logs w.place) in
          fit-same (view_of P c) (view_of P c) c.logs ls r (ap (retired_edges (view_of P c)) (logs N.at (at-place K N place_is)) ∙ retired-set (view_of P c) c.logs w.place l (log-within K N place_is) refl) fit

  -- it reports
  module _ (N : HasToDo c p Todo.Report) where
    pub computed-here : IfSome (get_or c.hosts p None) (λ h. IsTrue h.computed)
    computed-here = subst (λ o. IfSome o (λ h. IsTrue h.computed)) (sym N.is) (reports-end c.coordinator p N.at N.rebuilding N.next).0

    pub end-here : IfSome (get_or c.hosts p None) (λ h. IsTrue (is_end h.stage))
    end-here = subst (λ o. IfSome o (λ h. IsTrue (is_end h.stage))) (sym N.is) (reports-end c.coordinator p N.at N.rebuilding N.next).1

    pub report-fits : (n : ℕ) → ((h : Host V A) → get_or c.hosts p None ≡ Some h → n ≡ due_count p h.pending) → MayReport c.coordinator p n
    report-fits n due = subst (MayReport c.coordinator p) (sym (due N.at N.is)) ((may K N).report N.next)

    pub reported-step : (hs : List (Option (Host V A))) (co : Coordinator) (n : ℕ)
        → ((h : Host V A) → get_or c.hosts p None ≡ Some h → hs ≡ set c.hosts p (Some (record h { reported = true })))
        → ((h : Host V A) → get_or c.hosts p None ≡ Some h → n ≡ due_count p h.pending) → co ≡ reported c.coordinator p n
        → (record c { hosts = hs; coordinator = co }, outcome.Ready n) ≡ step P c (event.Work p)
    reported-step hs co n hosts due told = reported-work P c p N.at hs co n (due N.at N.is) (hosts N.at N.is) told ∙ step-is P c p Todo.Report N

    -- the view of the copies stays the same
    pub reported-fits : (co : Coordinator) (n : ℕ) → co ≡ reported c.coordinator p n → (r : Option (List Ends)) → RetiredFit (view_of P c) c.logs r → RetiredFit (view_of P (record c { coordinator = co })) c.logs r
    reported-fits co n told r fit = fit-same (view_of P c) (view_of P (record c { coordinator = co })) c.logs c.logs r (ap (λ k. retired_edges (view_of P (record c { coordinator = k })) c.logs) told) fit

-- a send that fails leaves all as it was
sent-kept : {V A E : Type 0} (k : Cluster V A) (hs : List (Option (Host V A))) (fl : List (Batch V A)) (n : ℕ) (r : Result (Outcome V A) E)
    → OnErr r (hs ≡ k.hosts) → OnErr r (fl ≡ k.flight) → OnErr r (n ≡ k.serial) → OnErr r (record k { hosts = hs; flight = fl; serial = n } ≡ k)
sent-kept k hs fl n (Ok o) a b c = tt
sent-kept k hs fl n (Err e) a b c = λ j. record k { hosts = a j; flight = b j; serial = c j }

-- a batch is sent
module _ {V A : Type 0} {P : Program V A} {c : Cluster V A} (K : Agrees P c) {p q : ℕ} (N : HasToDo c p (Todo.Send q)) where
  pub line-here : (ps : List ℕ) → ps ≡ parties c.coordinator → IfSome (get_or c.hosts p None) (λ h. MaySend (without_place ps p) h)
  line-here ps same = subst (λ o. IfSome o (λ h. MaySend (without_place ps p) h)) (sym N.is)
      (subst (λ qs. MaySend (without_place qs p) N.at) (sym same)
      (let S = sends-to c.coordinator p N.at N.rebuilding q N.next in record { computed = S.computed; unfinished = S.unfinished; left = ap is_some S.left }))

  abbrev pub batch-with : Body V A → Batch V A
  batch-with b = record { serial = c.serial; epoch = c.coordinator.epoch; round = c.coordinator.round; sender = p; receiver = q; body = b }

  module _ {w : PlaceInRebuild} (place_is : w ≡ place_in P c p) {retired : List Ends} (retired_is : retired ≡ retired_edges (view_of P c) c.logs) (ps : List ℕ) (parties_are : ps ≡ parties c.coordinator) (b : Body V A)
      (slot : Option (Host V A)) (slot_is : slot ≡ host c p) (body : (h : Host V A) → slot ≡ Some h → b ≡ body_after w retired h q h.stage) where
    pub sent-step : {E : Type 0} (r : Result (Outcome V A) E) (hs : List (Option (Host V A))) (fl : List (Batch V A)) (n : ℕ)
        → IfOk r (λ o. o ≡ outcome.Sent c.serial (stage_of_body b) q)
        → OnOk r ((h : Host V A) (q' : ℕ) → get_or c.hosts p None ≡ Some h → unsent (without_place ps p) h.sent ≡ Some q' → hs ≡ set c.hosts p (Some (sent_host (without_place ps p) q' h)))
        → OnOk r (fl ≡ c.flight ++ batch-with b ∷ []) → OnOk r (n ≡ c.serial + 1)
        → IfOk r (λ o. (record c { hosts = hs; flight = fl; serial = n }, o) ≡ step P c (event.Work p))
    sent-step (Ok o) hs fl n told hosts flight serial =
        let h = N.at in
        let S = sends-to c.coordinator p h N.rebuilding q N.next in
        let body' : b ≡ body_after (place_in P c p) retired h q h.stage = body h (slot_is ∙ N.is) ∙ (λ j. body_after (place_is j) retired h q h.stage) in
        let hosts' : hs ≡ set c.hosts p (Some (sent_host (others c.coordinator p) q h))
        = hosts h q N.is (ap (λ qs. unsent (without_place qs p) h.sent) parties_are ∙ S.left) ∙ ap (λ qs. set c.hosts p (Some (sent_host (without_place qs p) q h))) parties_are in
        sent-work P c p h N.now retired retired_is (may K N).stage S.unfinished q hs fl n b o body' told hosts' flight serial ∙ step-is P c p (Todo.Send q) N
    sent-step (Err e) hs fl n told hosts flight serial = tt

  pub sent-agrees : {E : Type 0} (L : ProgramLaws P) (r : Result (Outcome V A) E) (hs : List (Option (Host V A))) (fl : List (Batch V A)) (n : ℕ)
      → IfOk r (λ o. (record c { hosts = hs; flight = fl; serial = n }, o) ≡ step P c (event.Work p))
      → OnErr r (hs ≡ c.hosts) → OnErr r (fl ≡ c.flight) → OnErr r (n ≡ c.serial) → Agrees P (record c { hosts = hs; flight = fl; serial = n })
  sent-agrees L r hs fl n ok hosts flight serial =
      keeps-stepped P c (record c { hosts = hs; flight = fl; serial = n }) (step P c (event.Work p)) r ok (sent-kept c hs fl n r hosts flight serial) K (keeps P L c K (event.Work p) tt)
