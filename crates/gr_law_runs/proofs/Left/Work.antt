-- A work of a place lowers what is left, or does nothing.
use Rattle.std.proofs.Common.{◌≡◌, ℕ, ◌+◌, ◌<◌, ◌≤◌, [], ◌∷◌, true, false, cond, ◌==◌, refl, ap, arith, Some, eq-eqb, ⊎_elim}
use Rattle.std.proofs.lemmas.List.{length-append}
use Rattle.std.proofs.lemmas.Bool.{both_ways}
use Rattle.gr_base.specs.Rising.{has}
use Rattle.gr_program.specs.Program.{Program}
use Rattle.gr_batch.specs.Stages.{is_end}
use Rattle.gr_batch.specs.Order.{place_in}
use Rattle.gr_batch.specs.declared.stage.Stage.{Stage}
use Rattle.gr_view.specs.declared.coordinator.Mode.{Mode}
use Rattle.gr_view.specs.declared.coordinator.Mode.TheVariants as mode
use Rattle.gr_view.specs.Decisions.{parties}
use Rattle.gr_view.specs.Modes.{is_open, is_over, is_failed, is_rebuild}
use Rattle.gr_rules.specs.Exchange.{unsent}
use Rattle.gr_rules.specs.Todo.{Todo, is_act}
use Rattle.gr_cluster.specs.Tables.{Host, Cluster, host, log, view_of, wanted_in}
use Rattle.gr_cluster.specs.Todo.{others, todo}
use Rattle.gr_cluster.specs.Place.{staged_rows, staged_arcs, batch_to}
use Rattle.gr_cluster.specs.Work.{worked, installed_host, adopted_host, computed_host, sent_host}
use Rattle.gr_agree.specs.Truth.{Truth}
use Rattle.gr_agree.specs.Hosts.{HostOpen, AtEpoch, progress}
use Rattle.gr_agree.specs.Agree.{Agree}
use Rattle.gr_lists.proofs.Tests.{by_test}
use Rattle.gr_law_rounds.proofs.Network.Kept.{up-party}
use Rattle.gr_law_runs.proofs.Left.AtPlace.{install-lowers, adopt-lowers, compute-lowers, send-lowers, append-lowers, report-lowers}
use Rattle.gr_law_runs.proofs.Left.Cases.{IsCurrent, by-todo}
use Rattle.gr_law_runs.proofs.Left.Places.{unfinished, parties-lower}

-- a mode that is not over and in which no places failed is open
pub goes-on-open : (m : Mode) → is_over m ≡ false → is_failed m ≡ false → is_open m ≡ true
goes-on-open mode.Failed o f = absurd (let bad : true ≡ false = f in cc)
goes-on-open mode.Done o f = absurd (let bad : true ≡ false = o in cc)
goes-on-open mode.Lost o f = absurd (let bad : true ≡ false = o in cc)
goes-on-open _ o f = refl

module _ {V A : Type 0} (P : Program V A) (t : Truth V) (c : Cluster V A) (AG : Agree P t c) where
  -- the line of a party
  pub line : (p : ℕ) (h : Host V A) → host c p ≡ Some h → HostOpen P (view_of P c) (wanted_in P c) t c.coordinator p h (log c p)
  line p h at = AG.open_work.hosts p h at (up-party P t c AG p h at)

  module _ (p : ℕ) (h : Host V A) (at : host c p ≡ Some h) (K : IsCurrent c.coordinator p h) where
    pub current-epoch : h.epoch ≡ c.coordinator.epoch
    current-epoch = let le = (line p h at).epoch in let ge = K.epoch in omega (arith, le, ge)

    pub at-epoch : AtEpoch P (view_of P c) (wanted_in P c) t c.coordinator p h (log c p)
    at-epoch = (line p h at).at_epoch current-epoch

    -- where a stage is computed, a round or a rebuild is open
    pub computed-open : is_over c.coordinator.mode ≡ false → h.computed ≡ true → is_open c.coordinator.mode ≡ true
    computed-open o y = goes-on-open c.coordinator.mode o (by_test (is_failed c.coordinator.mode)
        (λ f. absurd (
        let none = at-epoch.idle f in
        let one : progress h ≡ place_in h.stage + 1 = ap (λ b. place_in h.stage + cond b 1 0) y in omega (arith, none, one)))
        (λ f. f))

  module _ (p : ℕ) (h : Host V A) (at : host c p ≡ Some h) where
    -- what a work makes of what is left
    pub record Lowers (x : Todo) : Type 0 where
      pub no_more : unfinished (worked P c p h x).0 ≤ unfinished c
      pub less : is_act x ≡ true → unfinished (worked P c p h x).0 < unfinished c

    lowers : (x : Todo) → unfinished (worked P c p h x).0 < unfinished c → Lowers x
    lowers x l = record { no_more = omega (arith, l); less = λ y. l }

    stays : (x : Todo) → unfinished (worked P c p h x).0 ≡ unfinished c → is_act x ≡ false → Lowers x
    stays x e idle = record { no_more = omega (arith, e); less = λ y. absurd (both_ways _ idle y) }

    party : has (parties c.coordinator) p ≡ true
    party = up-party P t c AG p h at

    now : IsCurrent c.coordinator p h → (h.epoch == c.coordinator.epoch) ≡ true
    now K = eq-eqb _ _ (current-epoch p h at K)

    installs : h.installed < c.coordinator.commits → Lowers Todo.Install
    unfolding worked
    installs lt =
        let is : h.installed + 1 ≡ c.coordinator.commits = ⊎_elim (λ e. absurd (omega (arith, lt, e))) (λ k. k.0) (line p h at).installed in
        let l = parties-lower c p h (installed_host h) at 1 party (install-lowers c.coordinator p h lt is) in lowers Todo.Install (omega (arith, l))

    adopts : h.epoch < c.coordinator.epoch → Lowers Todo.Adopt
    unfolding worked
    adopts lt = let l = parties-lower c p h (adopted_host c.coordinator.epoch c.coordinator.mode h) at 1 party (adopt-lowers c.coordinator p h lt) in lowers Todo.Adopt (omega (arith, l))

    computes : IsCurrent c.coordinator p h → is_open c.coordinator.mode ≡ true → h.computed ≡ false → Lowers Todo.Compute
    unfolding worked
    computes K w n =
        let rows = staged_rows P c p h h.stage in let arcs = staged_arcs P c p h h.stage in
        let l = parties-lower c p h (computed_host (others c.coordinator p) rows arcs h) at 1 party (compute-lowers c.coordinator p h (now K) rows arcs n ((at-epoch p h at K).stage w)) in
        lowers Todo.Compute (omega (arith, l))

    sends : IsCurrent c.coordinator p h → is_over c.coordinator.mode ≡ false → h.computed ≡ true → is_end h.stage ≡ false → (q : ℕ) → unsent (others c.coordinator p) h.sent ≡ Some q → Lowers (Todo.Send q)
    unfolding worked
    sends K o y e q u =
        let m = (at-epoch p h at K).stage (computed-open p h at K o y) in
        let l = parties-lower c p h (sent_host (others c.coordinator p) q h) at 2 party (send-lowers c.coordinator p h (now K) q u e m) in
        let more = length-append c.flight (batch_to P c p h q ∷ []) in
        lowers (Todo.Send q) (omega (arith, l, more))

    appends : IsCurrent c.coordinator p h → is_rebuild c.coordinator.mode ≡ true → h.appended ≡ false → Lowers Todo.Append
    unfolding worked
    appends K r n = let l = parties-lower c p h (record h { appended = true }) at 1 party (append-lowers c.coordinator p h (now K) r n) in lowers Todo.Append (omega (arith, l))

    reports : IsCurrent c.coordinator p h → is_open c.coordinator.mode ≡ true → h.reported ≡ false → Lowers Todo.Report
    unfolding worked
    reports K w n = let l = parties-lower c p h (record h { reported = true }) at 1 party (report-lowers c.coordinator p h (now K) w n) in lowers Todo.Report (omega (arith, l))

    rests : Lowers Todo.Rest
    unfolding worked
    rests = stays Todo.Rest refl refl

    waits : (s : Stage) (q : ℕ) → Lowers (Todo.Wait s q)
    unfolding worked
    waits s q = stays (Todo.Wait s q) refl refl

    pub work-lowers : Lowers (todo c.coordinator p h)
    work-lowers = by-todo c.coordinator p h Lowers (record {
      over = λ o. rests;
      install = installs;
      adopt = adopts;
      start = λ K w n. record { compute = computes K w n; wait = λ s q is m. waits s q };
      idle = λ K o w n. rests;
      send = sends;
      all_sent = λ K y e u. rests;
      append = λ K y r n. appends K r n;
      report = λ K o y n. reports K (computed-open p h at K o y) n;
      rest = λ K y r. rests;
    })
