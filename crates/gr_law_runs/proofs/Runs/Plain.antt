-- What an undisturbed cluster keeps: it agrees with a committed state of the graph, and every place is up and live.
use Rattle.std.proofs.Common.{◌≡◌, ℕ, ◌+◌, ◌<◌, List, [], ◌∷◌, Bool, true, false, not, ◌==◌, ◌||◌, nat_lt, refl, sym, ap, ◌∙◌, subst, arith, Option, Some, None, slice_get, if◌then◌else◌}
use Rattle.std.specs.Prelude.{IsTrue, is_some, is_none, option_map}
use Rattle.std.specs.List.{AllByRecursion as Each}
use Rattle.std.proofs.lemmas.Bool.{not-false}
use Rattle.gr_base.specs.declared.records.Edge.{Edge}
use Rattle.gr_base.specs.Rising.{has, union}
use Rattle.gr_log.specs.Log.{committed_log}
use Rattle.gr_program.specs.Program.{Program}
use Rattle.gr_program.specs.ProgramLaws.{ProgramLaws}
use Rattle.gr_program.proofs.LastRound.{last_round-least}
use Rattle.gr_batch.specs.declared.batch.Batch.{Batch}
use Rattle.gr_sched.specs.declared.event.Event.{Event}
use Rattle.gr_sched.specs.declared.event.Event.TheVariants as event
use Rattle.gr_view.specs.declared.coordinator.Coordinator.{Coordinator}
use Rattle.gr_view.specs.declared.coordinator.Mode.{Mode}
use Rattle.gr_view.specs.declared.coordinator.Mode.TheVariants as mode
use Rattle.gr_view.specs.declared.coordinator.Verdict.{Verdict}
use Rattle.gr_view.specs.declared.coordinator.Verdict.TheVariants as verdict
use Rattle.gr_view.specs.Modes.{is_over, is_failed, is_rebuild}
use Rattle.gr_view.specs.Decisions.{parties, looked_at, unready, rebuild_committed, round_committed, commit_unless, at_barrier}
use Rattle.gr_rules.specs.Todo.{Todo}
use Rattle.gr_cluster.specs.Tables.{Host, Cluster, changed_at, host, is_up, effective}
use Rattle.gr_cluster.specs.Todo.{todo}
use Rattle.gr_cluster.specs.Work.{worked, worked_at}
use Rattle.gr_cluster.specs.Network.{delivered, dropped}
use Rattle.gr_cluster.specs.Step.{down_among, after_verdict, barred, with_coordinator, step}
use Rattle.gr_agree.specs.Truth.{Truth, edge_list}
use Rattle.gr_agree.specs.TrueRound.{next}
use Rattle.gr_agree.specs.Agree.{Agree}
use Rattle.gr_law_rounds.specs.Network.{IsKept}
use Rattle.gr_law_rounds.proofs.Network.Kept.{deliver-kept, drop-kept}
use Rattle.gr_law_rounds.proofs.Round.Work.{work-kept}
use Rattle.gr_law_rounds.proofs.Commit.Commit.{commit-kept}
use Rattle.gr_law_runs.specs.Runs.{after_events}
use Rattle.gr_law_runs.specs.Undisturbed.{is_plain, is_undisturbed, Undisturbed, UndisturbedIn}
use Rattle.gr_lists.proofs.Tests.{by_test}
use Rattle.gr_lists.proofs.Any.{find-none_of, filter-none, list_any-none}
use Rattle.gr_lists.proofs.Each.{Each-has}

-- what of the coordinator no undisturbed event changes but a commit
pub record IsSameCoordinator (c d : Coordinator) : Type 0 where
  pub mode : d.mode ≡ c.mode
  pub limit : d.limit ≡ c.limit

pub record IsUndisturbed {V A : Type 0} (P : Program V A) (es : List Edge) (vs : List ℕ) (rounds : ℕ) (c : Cluster V A) : Type 0 where
  pub state : Truth V
  pub agrees : Agree P state c
  pub edges : edge_list state ≡ es
  pub vertices : state.vertices ≡ vs
  pub mode : is_undisturbed c.coordinator.mode ≡ true
  pub limit : c.coordinator.limit ≡ rounds
  pub none_retired : c.coordinator.retired ≡ []
  pub all_up : (p : ℕ) → has (parties c.coordinator) p ≡ true → is_up c p ≡ true

module _ {V A : Type 0} (P : Program V A) (es : List Edge) (vs : List ℕ) (limit : ℕ) (c : Cluster V A) where
  pub undisturbed-in : IsUndisturbed P es vs limit c → UndisturbedIn P es vs c
  undisturbed-in U = record {
    state = U.state;
    holds = record { agrees = U.agrees; mode = U.mode; none_retired = U.none_retired; all_up = U.all_up };
    edges = U.edges;
    vertices = U.vertices;
  }

  pub in-undisturbed : UndisturbedIn P es vs c → c.coordinator.limit ≡ limit → IsUndisturbed P es vs limit c
  in-undisturbed G l = record {
    state = G.state;
    agrees = G.holds.agrees;
    edges = G.edges;
    vertices = G.vertices;
    mode = G.holds.mode;
    limit = l;
    none_retired = G.holds.none_retired;
    all_up = G.holds.all_up;
  }

module _ {V A : Type 0} (P : Program V A) (c : Cluster V A) where
  worked-same : (p : ℕ) (h : Host V A) (x : Todo) → IsSameCoordinator c.coordinator (worked P c p h x).0.coordinator
  unfolding worked
  worked-same p h Todo.Install = record { mode = refl; limit = refl }
  worked-same p h _ = record { mode = refl; limit = refl }

  worked_at-same : (p : ℕ) (o : Option (Host V A)) → IsSameCoordinator c.coordinator (worked_at P c p o).0.coordinator
  worked_at-same p None = record { mode = refl; limit = refl }
  worked_at-same p (Some h) = worked-same p h (todo c.coordinator p h)

  delivered-same : (i : ℕ) (o : Option (Batch V A)) → IsSameCoordinator c.coordinator (delivered c i o).0.coordinator
  unfolding delivered
  delivered-same i None = record { mode = refl; limit = refl }
  delivered-same i (Some b) = record { mode = refl; limit = refl }

  dropped-same : (i : ℕ) (o : Option (Batch V A)) → IsSameCoordinator c.coordinator (dropped c i o).0.coordinator
  unfolding dropped
  dropped-same i None = record { mode = refl; limit = refl }
  dropped-same i (Some b) = by_test (nat_lt b.epoch c.coordinator.epoch)
      (λ e. rw e (record { mode = refl; limit = refl }))
      (λ e. by_test (is_none (host c b.sender)) (λ k. rw (e, k) (record { mode = refl; limit = refl })) (λ k. rw (e, k) (record { mode = refl; limit = refl })))

  work-same : (p : ℕ) → IsSameCoordinator c.coordinator (step P c (event.Work p)).0.coordinator
  unfolding step
  work-same p = by_test (is_over c.coordinator.mode)
      (λ o. rw o (record { mode = refl; limit = refl }))
      (λ o. rw o (worked_at-same p (host c p)))

  deliver-same : (i : ℕ) → IsSameCoordinator c.coordinator (step P c (event.Deliver i)).0.coordinator
  unfolding step
  deliver-same i = by_test (is_over c.coordinator.mode)
      (λ o. rw o (record { mode = refl; limit = refl }))
      (λ o. rw o (delivered-same i (slice_get c.flight i)))

  drop-same : (i : ℕ) → IsSameCoordinator c.coordinator (step P c (event.Discarded i)).0.coordinator
  unfolding step
  drop-same i = by_test (is_over c.coordinator.mode)
      (λ o. rw o (record { mode = refl; limit = refl }))
      (λ o. rw o (dropped-same i (slice_get c.flight i)))

pub no-rebuild : (m : Mode) → is_undisturbed m ≡ true → (is_rebuild m ≡ false) × (is_failed m ≡ false)
no-rebuild mode.Running u = (refl, refl)
no-rebuild mode.Done u = (refl, refl)
no-rebuild _ u = absurd (let bad : false ≡ true = u in cc)

some-of : {X Y : Type 0} (f : X → Y) (o : Option X) → is_some (option_map f o) ≡ is_some o
some-of f None = refl
some-of f (Some x) = refl

pub mode-running : (m : Mode) → is_undisturbed m ≡ true → is_over m ≡ false → m ≡ mode.Running
mode-running mode.Running u o = refl
mode-running mode.Done u o = absurd (let bad : true ≡ false = o in cc)
mode-running _ u o = absurd (let bad : false ≡ true = u in cc)

-- where all of some places are up, none of them is seen as crashed
pub none-down : {V A : Type 0} (c : Cluster V A) (ps : List ℕ) → ((p : ℕ) → has ps p ≡ true → is_up c p ≡ true) → down_among c ps ≡ []
none-down c ps up = filter-none (λ p. not (is_up c p)) ps (list_any-none _ ps (Each-has _ ps (λ p m. ap not (up p m))))

-- until the run is over the committed rounds are below the limit
pub round-below : {V A : Type 0} (P : Program V A) (t : Truth V) (c : Cluster V A) → Agree P t c → is_over c.coordinator.mode ≡ false → c.coordinator.round < c.coordinator.limit
round-below P t c AG o =
    let lt = AG.open_work.end.not_done (λ d. let bad : true ≡ false = sym (ap is_over d) ∙ o in cc) in
    let within = (last_round-least P (edge_list t) t.vertices c.coordinator.limit).within in omega (arith, lt, within)

module _ {V A : Type 0} (P : Program V A) (L : ProgramLaws P) (es : List Edge) (vs : List ℕ) (limit : ℕ) where
  module _ (c : Cluster V A) (U : IsUndisturbed P es vs limit c) where
    -- an event that keeps the committed state
    kept-undisturbed : (d : Cluster V A) → IsKept P U.state c d → IsSameCoordinator c.coordinator d.coordinator → IsUndisturbed P es vs limit d
    kept-undisturbed d K same = record {
      state = U.state;
      agrees = K.1;
      edges = U.edges;
      vertices = U.vertices;
      mode = ap is_undisturbed same.mode ∙ U.mode;
      limit = same.limit ∙ U.limit;
      none_retired = (K.0).retired ∙ U.none_retired;
      all_up = λ p m. sym (some-of (effective d.coordinator.commits) (host d p)) ∙ (ap is_some ((K.0).rows p) ∙ (some-of (effective c.coordinator.commits) (host c p)
          ∙ U.all_up p (sym ((λ i. has (union ((K.0).live i) ((K.0).reborn i)) p)) ∙ m)));
    }

    -- nobody is seen as crashed
    pub nobody-down : down_among c (parties c.coordinator) ≡ []
    nobody-down = none-down c (parties c.coordinator) U.all_up

    pub looks-at-parties : looked_at c.coordinator ≡ parties c.coordinator
    looks-at-parties = ap (λ b. if b then c.coordinator.live else parties c.coordinator) (no-rebuild c.coordinator.mode U.mode).1

    running : is_over c.coordinator.mode ≡ false → c.coordinator.mode ≡ mode.Running
    running o = mode-running c.coordinator.mode U.mode o

    -- the cluster after the commit of a round
    abbrev next_cluster : Cluster V A
    next_cluster = with_coordinator (round_committed c.coordinator) c

    next-undisturbed : is_over c.coordinator.mode ≡ false → unready c.coordinator ≡ None → IsUndisturbed P es vs limit next_cluster
    next-undisturbed o none = record {
      state = next P U.state;
      agrees = commit-kept P U.state c L U.agrees (running o) U.all_up (λ p m. not-false (has c.coordinator.ready p) (find-none_of (λ q. not (has c.coordinator.ready q)) (parties c.coordinator) p none m));
      edges = U.edges;
      vertices = U.vertices;
      mode = done-or-on ((c.coordinator.due == 0) || (c.coordinator.round + 1 == c.coordinator.limit));
      limit = U.limit;
      none_retired = U.none_retired;
      all_up = U.all_up;
    }
      where
        done-or-on : (b : Bool) → is_undisturbed (if b then mode.Done else mode.Running) ≡ true
        done-or-on true = refl
        done-or-on false = refl

    committed-or-not : is_over c.coordinator.mode ≡ false → (u : Option ℕ) → unready c.coordinator ≡ u
        → IsUndisturbed P es vs limit (after_verdict c [] (commit_unless c.coordinator u).0 (commit_unless c.coordinator u).1).0
    committed-or-not o (Some p) is = U
    committed-or-not o None is =
        let no = (no-rebuild c.coordinator.mode U.mode).0 in
        subst (IsUndisturbed P es vs limit)
        (λ i. with_coordinator (if sym no i then rebuild_committed c.coordinator else round_committed c.coordinator) (if sym no i then record c { logs = changed_at (parties c.coordinator) (λ _. committed_log) c.logs } else c))
        (next-undisturbed o is)

    barred-is : is_over c.coordinator.mode ≡ false → barred c ≡ after_verdict c [] (commit_unless c.coordinator (unready c.coordinator)).0 (commit_unless c.coordinator (unready c.coordinator)).1
    unfolding barred at_barrier
    barred-is o =
        ap (λ ps. after_verdict c ps (at_barrier c.coordinator ps).0 (at_barrier c.coordinator ps).1) (ap (down_among c) looks-at-parties ∙ nobody-down)
        ∙ (ap (λ b. after_verdict c [] (decided b).0 (decided b).1) o ∙ ap (λ b. after_verdict c [] (unfailed b).0 (unfailed b).1) (no-rebuild c.coordinator.mode U.mode).1)
      where
        unfailed : Bool → Coordinator × Verdict
        unfailed b = if b then (c.coordinator, verdict.Idle) else commit_unless c.coordinator (unready c.coordinator)

        decided : Bool → Coordinator × Verdict
        decided b = if b then (c.coordinator, verdict.Idle) else unfailed (is_failed c.coordinator.mode)

    -- a barrier commits a round, or changes nothing
    barrier-undisturbed : IsUndisturbed P es vs limit (step P c event.Barrier).0
    unfolding step
    barrier-undisturbed = by_test (is_over c.coordinator.mode)
        (λ o. rw o U)
        (λ o. rw o (subst (λ r. IsUndisturbed P es vs limit r.0) (sym (barred-is o)) (committed-or-not o (unready c.coordinator) refl)))

    no-rebuild-here : is_rebuild c.coordinator.mode ≡ false
    no-rebuild-here = (no-rebuild c.coordinator.mode U.mode).0

    pub step-undisturbed : (e : Event) → IsTrue (is_plain e) → IsUndisturbed P es vs limit (step P c e).0
    step-undisturbed (event.Work p) y = kept-undisturbed (step P c (event.Work p)).0 (work-kept P L U.state c U.agrees no-rebuild-here p) (work-same P c p)
    step-undisturbed (event.Deliver i) y = kept-undisturbed (step P c (event.Deliver i)).0 (deliver-kept P U.state c U.agrees i) (deliver-same P c i)
    step-undisturbed (event.Discarded i) y = kept-undisturbed (step P c (event.Discarded i)).0 (drop-kept P U.state c U.agrees i) (drop-same P c i)
    step-undisturbed event.Barrier y = barrier-undisturbed
    step-undisturbed _ y = absurd (let bad : false ≡ true = y in cc)

  pub run-undisturbed : (events : List Event) → Each (λ e. IsTrue (is_plain e)) events → (c : Cluster V A) → IsUndisturbed P es vs limit c → IsUndisturbed P es vs limit (after_events P events c)
  run-undisturbed [] h c U = U
  run-undisturbed (e ∷ events) h c U = run-undisturbed events h.1 (step P c e).0 (step-undisturbed c U e h.0)

-- a plain event disturbs nothing
pub plain-undisturbed : {V A : Type 0} (P : Program V A) → ProgramLaws P → (t : Truth V) (c : Cluster V A) (e : Event) → IsTrue (is_plain e) → Undisturbed P t c
    → UndisturbedIn P (edge_list t) t.vertices (step P c e).0 × ((step P c e).0.coordinator.limit ≡ c.coordinator.limit)
plain-undisturbed P L t c e y U =
    let here : UndisturbedIn P (edge_list t) t.vertices c = record { state = t; holds = U; edges = refl; vertices = refl } in
    let D = step-undisturbed P L (edge_list t) t.vertices c.coordinator.limit c (in-undisturbed P (edge_list t) t.vertices c.coordinator.limit c here refl) e y in
    (undisturbed-in P (edge_list t) t.vertices c.coordinator.limit (step P c e).0 D, D.limit)
