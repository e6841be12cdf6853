-- What the code of a place does in a rebuild, by what it goes by, is the work of the place in the cluster.
use Rattle.std.proofs.Common.{◌≡◌, ◌+◌, ℕ, List, [], ◌∷◌, ◌++◌, true, false, refl, sym, ap, ◌∙◌, subst, Option, Some, set, if◌then◌else◌}
use Rattle.std.specs.Prelude.{IsTrue}
use Rattle.std.specs.List.{All}
use Rattle.gr_program.specs.Program.{Program}
use Rattle.gr_log.specs.Bytes.{size_of}
use Rattle.gr_log.specs.Directory.{with_items}
use Rattle.gr_log.specs.Log.{Log, with_records}
use Rattle.gr_batch.specs.declared.stage.Stage.{Stage}
use Rattle.gr_batch.specs.declared.stage.Stage.TheVariants as stage
use Rattle.gr_batch.specs.declared.body.Body.{Body}
use Rattle.gr_batch.specs.declared.body.Body.TheVariants as body
use Rattle.gr_batch.specs.declared.batch.Batch.{Batch}
use Rattle.gr_batch.specs.declared.outcome.Outcome.{Outcome}
use Rattle.gr_batch.specs.declared.outcome.Outcome.TheVariants as outcome
use Rattle.gr_batch.specs.Bodies.{stage_of_body}
use Rattle.gr_batch.specs.Stages.{is_end}
use Rattle.gr_view.specs.declared.coordinator.Coordinator.{Coordinator}
use Rattle.gr_view.specs.declared.coordinator.Mode.{Mode}
use Rattle.gr_view.specs.declared.coordinator.Mode.TheVariants as mode
use Rattle.gr_view.specs.Modes.{is_rebuild, is_repair}
use Rattle.gr_view.specs.Decisions.{reported}
use Rattle.gr_rules.specs.Todo.{Todo}
use Rattle.gr_rules.specs.AtPlace.{due_count, round_rows}
use Rattle.gr_rules.specs.Grants.{records_after}
use Rattle.gr_rules.specs.Taken.{Ends}
use Rattle.gr_migrate.specs.Asks.{taken_among, asked_among}
use Rattle.gr_migrate.specs.Ends.{KnowsMasters, retired_edges}
use Rattle.gr_migrate.proofs.Known.{retired-known}
use Rattle.gr_migrate.proofs.RetiredParts.{taken-retired, asked-retired}
use Rattle.gr_round.specs.Line.{is_of_rebuild}
use Rattle.gr_rebuild.specs.Granted as all
use Rattle.gr_rebuild.specs.Granted.{RepairReady}
use Rattle.gr_rebuild.specs.declared.place.PlaceInRebuild.{PlaceInRebuild}
use Rattle.gr_cluster.specs.Tables.{Host, Cluster, log, view_of, wanted_in}
use Rattle.gr_cluster.specs.Todo.{others}
use Rattle.gr_cluster.specs.Place as place
use Rattle.gr_cluster.specs.Work.{computed_host, sent_host, worked}
use Rattle.gr_law_work.specs.AtPlace.{place_in, granted_to, granted, taken, rows_after, arcs_after, body_after, appended_by, ReadyToRebuild}
use Rattle.gr_law_work.specs.InRebuild.{MayRebuild}

repairing : (m : Mode) → is_repair m ≡ true → m ≡ mode.Repairing
repairing mode.Repairing e = refl
repairing _ e = absurd (let bad : false ≡ true = e in cc)

module _ {V A : Type 0} (P : Program V A) (c : Cluster V A) (p : ℕ) (h : Host V A) (now : h.epoch ≡ c.coordinator.epoch)
    (retired : List Ends) (retired_is : retired ≡ retired_edges (view_of P c) c.logs) where
  abbrev w : PlaceInRebuild
  w = place_in P c p

  pub ready : MayRebuild P c p h → ReadyToRebuild w retired h
  ready M = record {
    places = M.places;
    masters = subst (All KnowsMasters) (sym retired_is) (retired-known (view_of P c) c.logs M.masters);
    holders = M.holders;
    repair = λ e. subst (λ n. RepairReady h.inbox n (others c.coordinator p) (view_of P c) h.stable) now (M.repair (repairing c.coordinator.mode e)).ready;
    same_rows = λ fresh. (M.same_layers fresh).0;
    same_arcs = λ fresh. (M.same_layers fresh).1;
  }

  granted-is : granted w retired h ≡ place.granted P c p h
  granted-is = ap (λ n. all.granted h.inbox n (others c.coordinator p) (view_of P c) (wanted_in P c) p h.stable) (sym now)

  granted_to-is : (q : ℕ) → granted_to w retired h q ≡ place.granted_to P c p h q
  granted_to-is q = ap (λ n. all.granted_to h.inbox n (others c.coordinator p) (view_of P c) (wanted_in P c) p h.stable q) (sym now)

  taken-is : taken w retired h ≡ place.taken P c p h
  taken-is = ap (taken_among (view_of P c) p) retired_is ∙ taken-retired (view_of P c) c.logs p

  module _ (rebuilding : is_rebuild c.coordinator.mode ≡ true) where
    rows-are : (s : Stage) → rows_after w retired h s ≡ place.staged_rows P c p h s
    rows-are s = of s ∙ sym (λ i. if rebuilding i then place.rebuild_rows P c p h s else round_rows P p h.epoch (others c.coordinator p) h.inbox h.stable h.arcs s h.pending)
      where
        of : (x : Stage) → rows_after w retired h x ≡ place.rebuild_rows P c p h x
        of stage.End = ap (λ l. with_items (λ r. r.vertex) l h.pending) granted-is
        of _ = refl

    arcs-are : (s : Stage) → arcs_after w retired h s ≡ place.staged_arcs P c p h s
    arcs-are stage.End =
        ap (λ l. with_items (λ a. a.number) l h.pending_arcs) taken-is
        ∙ sym (λ i. if rebuilding i then with_items (λ a. a.number) (place.taken P c p h) h.pending_arcs else h.pending_arcs)
    arcs-are _ = refl

    -- a stage is computed
    pub computed-work : (hs : List (Option (Host V A))) (s : Stage) → s ≡ h.stage
        → hs ≡ set c.hosts p (Some (computed_host (others c.coordinator p) (rows_after w retired h h.stage) (arcs_after w retired h h.stage) h))
        → (record c { hosts = hs }, outcome.Computed s) ≡ worked P c p h Todo.Compute
    unfolding worked
    computed-work hs s same is =
        let is' : hs ≡ set c.hosts p (Some (computed_host (others c.coordinator p) (place.staged_rows P c p h h.stage) (place.staged_arcs P c p h h.stage) h))
        = is ∙ (λ j. set c.hosts p (Some (computed_host (others c.coordinator p) (rows-are h.stage j) (arcs-are h.stage j) h))) in
        λ j. (record c { hosts = is' j }, outcome.Computed (same j))

  body-is : (q : ℕ) (s : Stage) → IsTrue (is_of_rebuild s) → is_end s ≡ false → body_after w retired h q s ≡ place.body_to P c p h q s
  body-is q stage.Ask r e = ap body.Ask (ap (asked_among (view_of P c) p h.stable q) retired_is ∙ asked-retired (view_of P c) p h.stable q c.logs)
  body-is q stage.Grant r e = ap body.Grant (granted_to-is q)
  body-is q stage.End r e = absurd (let bad : true ≡ false = e in cc)
  body-is q _ r e = absurd (let bad : false ≡ true = r in cc)

  stage-is : (q : ℕ) (s : Stage) → IsTrue (is_of_rebuild s) → is_end s ≡ false → stage_of_body (body_after w retired h q s) ≡ s
  stage-is q stage.Ask r e = refl
  stage-is q stage.Grant r e = refl
  stage-is q stage.End r e = absurd (let bad : true ≡ false = e in cc)
  stage-is q _ r e = absurd (let bad : false ≡ true = r in cc)

  -- its batch is sent
  abbrev pub batch_after : Body V A → ℕ → Batch V A
  batch_after b q = record { serial = c.serial; epoch = c.coordinator.epoch; round = c.coordinator.round; sender = p; receiver = q; body = b }

  pub sent-work : IsTrue (is_of_rebuild h.stage) → is_end h.stage ≡ false → (q : ℕ) (hs : List (Option (Host V A))) (fl : List (Batch V A)) (n : ℕ) (b : Body V A) (o : Outcome V A)
      → b ≡ body_after w retired h q h.stage → o ≡ outcome.Sent c.serial (stage_of_body b) q
      → hs ≡ set c.hosts p (Some (sent_host (others c.coordinator p) q h)) → fl ≡ c.flight ++ batch_after b q ∷ [] → n ≡ c.serial + 1
      → (record c { hosts = hs; flight = fl; serial = n }, o) ≡ worked P c p h (Todo.Send q)
  unfolding worked
  sent-work of_rebuild unfinished q hs fl n b o body told hosts flight serial =
      let told' : o ≡ outcome.Sent c.serial h.stage q = told ∙ ap (λ s. outcome.Sent c.serial s q) (ap stage_of_body body ∙ stage-is q h.stage of_rebuild unfinished) in
      let flight' : fl ≡ c.flight ++ batch_after (place.body_to P c p h q h.stage) q ∷ [] = flight ∙ ap (λ x. c.flight ++ batch_after x q ∷ []) (body ∙ body-is q h.stage of_rebuild unfinished) in
      λ j. (record c { hosts = hosts j; flight = flight' j; serial = serial j }, told' j)

  -- what is granted and taken over is appended to its log
  pub appended-work : (hs : List (Option (Host V A))) (ls : List Log) (n : ℕ) → n ≡ size_of (appended_by w retired h)
      → hs ≡ set c.hosts p (Some (record h { appended = true })) → ls ≡ set c.logs p (with_records (appended_by w retired h) (log c p))
      → (record c { hosts = hs; logs = ls }, outcome.Appended n) ≡ worked P c p h Todo.Append
  unfolding worked
  appended-work hs ls n bytes hosts logs =
      let same : appended_by w retired h ≡ place.new_records P c p h = λ j. records_after (granted-is j) (taken-is j) in
      let bytes' : n ≡ size_of (place.new_records P c p h) = bytes ∙ ap size_of same in
      let logs' : ls ≡ set c.logs p (with_records (place.new_records P c p h) (log c p)) = logs ∙ ap (λ l. set c.logs p (with_records l (log c p))) same in
      λ j. (record c { hosts = hosts j; logs = logs' j }, outcome.Appended (bytes' j))

module _ {V A : Type 0} (P : Program V A) (c : Cluster V A) (p : ℕ) (h : Host V A) where
  -- it reports
  pub reported-work : (hs : List (Option (Host V A))) (co : Coordinator) (n : ℕ) → n ≡ due_count p h.pending
      → hs ≡ set c.hosts p (Some (record h { reported = true })) → co ≡ reported c.coordinator p n
      → (record c { hosts = hs; coordinator = co }, outcome.Ready n) ≡ worked P c p h Todo.Report
  unfolding worked
  reported-work hs co n due hosts told =
      let told' : co ≡ reported c.coordinator p (due_count p h.pending) = told ∙ ap (reported c.coordinator p) due in
      λ j. (record c { hosts = hosts j; coordinator = told' j }, outcome.Ready (due j))
