-- The invariant as a test: each part of it that is an equation of plain data, or yes or no, in one cluster and one committed state.
use Rattle.std.proofs.Common.{ℕ, zero, suc, ◌+◌, ◌*◌, Bool, true, false, not, ◌&&◌, ◌||◌, List, [], ◌∷◌, map}
use Rattle.std.specs.Prelude.{◌==◌, nat_lt, nat_le, Option, Some, None, cond, length, count_by, if◌then◌else◌}
use Rattle.std.specs.List.{list_all, list_any}
use Rattle.gr_base.specs.Rising.{has, includes}
use Rattle.gr_base.specs.Places.{below}
use Rattle.gr_program.specs.Program.{Program}
use Rattle.gr_program.specs.Rounds.{state_after, last_round}
use Rattle.gr_log.specs.Directory.{directory_in, edges_in, kept_edges}
use Rattle.gr_batch.specs.declared.batch.Batch.{Batch}
use Rattle.gr_batch.specs.declared.body.Body.{Body}
use Rattle.gr_batch.specs.declared.body.Body.TheVariants as body
use Rattle.gr_batch.specs.declared.stage.Stage.{Stage}
use Rattle.gr_batch.specs.declared.stage.Stage.TheVariants as stage
use Rattle.gr_batch.specs.Stages.{is_end}
use Rattle.gr_batch.specs.Order.{place_in}
use Rattle.gr_batch.specs.Bodies.{stage_of_body, is_of}
use Rattle.gr_sched.specs.declared.event.Event.{Event}
use Rattle.gr_view.specs.declared.coordinator.Mode.{Mode}
use Rattle.gr_view.specs.declared.coordinator.Mode.TheVariants as mode
use Rattle.gr_view.specs.declared.coordinator.Coordinator.{Coordinator}
use Rattle.gr_view.specs.Modes.{is_round, is_recovery, is_rebuild, is_failed, is_open}
use Rattle.gr_view.specs.Decisions.{parties}
use Rattle.gr_rules.specs.Rows.{blank_rows}
use Rattle.gr_cluster.specs.Tables.{Host, Cluster, host, is_up, log, effective, effective_arcs, inbox_of, view_of, wanted_in}
use Rattle.gr_rules.specs.Exchange.{needed}
use Rattle.gr_cluster.specs.Stages.{stages_of, has_stage}
use Rattle.gr_cluster.specs.Todo.{others}
use Rattle.gr_cluster.specs.Step.{step}
use Rattle.gr_cluster.specs.Runs.{Position, next_event, next_position, is_commit}
use Rattle.gr_agree.specs.Truth.{Truth, edge_list, held, hidden, arcs_at, entries_at, rows_at}
use Rattle.gr_agree.specs.TrueRound.{next, active_next, true_parts, true_values, true_signals, true_calls}
use Rattle.gr_agree.specs.Rebuilt.{rebuilt, true_asks, true_grants, true_records}
use Rattle.gr_agree.specs.Places.{sets_with, may_have_dead}
use Rattle.gr_agree.specs.Hosts.{progress, pending_rows, pending_arcs}
use Rattle.gr_agree.specs.Network.{is_shown, standing}
use Rattle.gr_worked.proofs.Numbers.{same, bit, items, rows_numbers, arcs_numbers, records_numbers, entry_numbers, body_numbers}

abbrev implies : Bool → Bool → Bool
implies a b = not a || b

abbrev is_done : Mode → Bool
is_done mode.Done = true
is_done _ = false

abbrev all_stages : List Stage
all_stages = stage.Gather ∷ stage.Update ∷ stage.Signal ∷ stage.Call ∷ stage.Ask ∷ stage.Grant ∷ stage.End ∷ []

-- the sets of places fit the mode and the machines
abbrev places_hold : Cluster ℕ ℕ → Bool
places_hold c = let co = c.coordinator in
    list_all (λ p. sets_with co p == cond (nat_lt p c.places) 1 0) (below (c.places + 2))
    && (includes co.dead co.reborn
    && (implies (not (may_have_dead co.mode)) (length co.dead == 0)
    && (implies (not (is_recovery co.mode)) (length co.reborn == 0)
    && (list_all (λ p. not (is_up c p)) co.retired
    && (list_all (λ p. has co.reborn p || not (is_up c p)) co.dead
    && (implies (is_done co.mode) (list_all (is_up c) co.live)
    && nat_le (co.spares + length co.reborn) 255))))))

module _ (P : Program ℕ ℕ) where
  -- the marks, the masters and the holders of a vertex
  abbrev vertex_holds : Coordinator → Truth ℕ → ℕ → Bool
  vertex_holds co t v =
      implies (t.state.active v) (t.due v)
      && (implies (not (hidden P t v)) (bit (t.due v) == bit (t.state.active v))
      && (implies (not (t.due v)) (t.kept v)
      && (held t (t.master v) v
      && (implies (is_done co.mode) (t.kept v && (bit (t.due v) == bit (t.state.active v)))
      && (implies (is_recovery co.mode) (not (includes co.dead (t.holders v)))
      && list_all (λ p. not (has co.retired p)) (t.holders v))))))

  -- the committed values are those of the rounds, and the run is done at the last round alone
  abbrev round_holds : Coordinator → Truth ℕ → Bool
  round_holds co t =
      let s = state_after P (edge_list t) co.round in
      let last = last_round P (edge_list t) t.vertices co.limit in
      same (map t.state.value t.vertices) (map s.value t.vertices)
      && (same (map (λ v. bit (t.state.active v)) t.vertices) (map (λ v. bit (s.active v)) t.vertices)
      && (if is_done co.mode then co.round == last else nat_lt co.round last))

  -- the log of a place says its entries and its edges, each edge once
  abbrev log_holds : Cluster ℕ ℕ → Truth ℕ → ℕ → Bool
  log_holds c t p =
      has c.coordinator.retired p
      || (same (items entry_numbers (directory_in (log c p).committed)) (items entry_numbers (entries_at t p))
      && (same (arcs_numbers (edges_in (log c p).committed)) (arcs_numbers (arcs_at t p))
      && (length (kept_edges (log c p).committed) == length (arcs_at t p))))

  -- the effective rows of a live place, and the stable ones of a reborn place
  abbrev rows_hold : Cluster ℕ ℕ → Truth ℕ → ℕ → Host ℕ ℕ → Bool
  rows_hold c t p h = let co = c.coordinator in
      implies (has co.live p) (same (rows_numbers (effective co.commits h)) (rows_numbers (rows_at P t p)) && same (arcs_numbers (effective_arcs co.commits h)) (arcs_numbers (arcs_at t p)))
      && implies (has co.reborn p) ((h.epoch == co.epoch) && (same (rows_numbers h.stable) (rows_numbers (blank_rows (log c p).committed)) && same (arcs_numbers h.arcs) (arcs_numbers (edges_in (log c p).committed))))

  abbrev has_needed : List ℕ → Host ℕ ℕ → Option Stage → Bool
  has_needed others h None = true
  has_needed others h (Some s) = list_all (λ q. list_any (is_of q h.epoch s) h.inbox) others

  -- the work of a party that is up and has adopted the epoch
  abbrev at_epoch : Cluster ℕ ℕ → Truth ℕ → ℕ → Host ℕ ℕ → Bool
  at_epoch c t p h = let co = c.coordinator in let l = log c p in let rebuild = is_rebuild co.mode in
      (h.installed == co.commits)
      && (implies (is_open co.mode) (has_stage (stages_of co.mode) h.stage)
      && (implies (is_failed co.mode) (progress h == 0)
      && (implies (not h.computed) (length h.sent == 0)
      && (implies (h.computed && not (is_end h.stage)) (list_any (λ q. not (has h.sent q)) (others co p))
      && (list_all (λ s. implies (nat_lt (place_in s) (progress h)) (has_needed (others co p) h (needed (is_rebuild co.mode) s))) (stages_of co.mode)
      && (same (rows_numbers h.pending) (rows_numbers (pending_rows P (view_of P c) (wanted_in P c) t p (progress h) rebuild))
      && (same (arcs_numbers h.pending_arcs) (arcs_numbers (pending_arcs P (view_of P c) (wanted_in P c) t p (progress h) rebuild))
      && (same (records_numbers l.appended) (records_numbers (if h.appended then true_records P (view_of P c) (wanted_in P c) t p else []))
      && ((length l.torn == 0)
      && implies h.reported ((progress h == 5) && implies rebuild h.appended))))))))))

  abbrev host_holds : Cluster ℕ ℕ → Truth ℕ → ℕ → Option (Host ℕ ℕ) → Bool
  host_holds c t p None = true
  host_holds c t p (Some h) = let co = c.coordinator in
      rows_hold c t p h
      && (nat_le h.epoch co.epoch
      && (((h.installed == co.commits) || ((h.installed + 1 == co.commits) && nat_lt h.epoch co.epoch))
      && (implies (h.epoch == co.epoch) (at_epoch c t p h)
      && (bit (has co.ready p) == bit ((h.epoch == co.epoch) && h.reported)))))

  abbrev true_body : Cluster ℕ ℕ → Truth ℕ → ℕ → ℕ → Stage → Body ℕ ℕ
  true_body c t p q stage.Gather = body.Gather (true_parts P t p q)
  true_body c t p q stage.Update = body.Update (true_values P t p q)
  true_body c t p q stage.Signal = body.Signal (true_signals P t p q)
  true_body c t p q stage.Call = body.Call (true_calls P t p q)
  true_body c t p q stage.Ask = body.Ask (true_asks (view_of P c) t p q)
  true_body c t p q stage.Grant = body.Grant (true_grants P (view_of P c) (wanted_in P c) t p q)
  true_body c t p q stage.End = body.Call []

  -- one batch
  abbrev batch_holds : Cluster ℕ ℕ → Truth ℕ → Batch ℕ ℕ → Bool
  batch_holds c t b = let co = c.coordinator in let s = stage_of_body b.body in
      not (b.sender == b.receiver)
      && (nat_le b.epoch co.epoch
      && implies (b.epoch == co.epoch) (has (parties co) b.sender && (has (parties co) b.receiver && (has_stage (stages_of co.mode) s && same (body_numbers b.body) (body_numbers (true_body c t b.sender b.receiver s))))))

  -- the batches of a sender, a receiver and a stage, by their number
  abbrev count_holds : Cluster ℕ ℕ → ℕ → ℕ → Stage → Bool
  count_holds c p q s = let co = c.coordinator in
      let stands = standing c.flight (host c q) p q co.epoch s in
      let shown = bit (is_shown co q (host c p) s) in
      list_all (λ e. nat_le (standing c.flight (host c q) p q e s) 1) (below (co.epoch + 1))
      && (implies (is_up c p) (nat_le stands shown)
      && implies (is_up c p && (is_up c q && (has (parties co) p && (has (parties co) q && not (p == q))))) (stands == shown))

  abbrev network_holds : Cluster ℕ ℕ → Truth ℕ → Bool
  network_holds c t =
      list_all (batch_holds c t) c.flight
      && (list_all (λ q. list_all (λ b. batch_holds c t b && (b.receiver == q)) (inbox_of (host c q))) (below c.places)
      && list_all (λ p. list_all (λ q. list_all (count_holds c p q) all_stages) (below c.places)) (below c.places))

  -- the reports
  abbrev reports_hold : Coordinator → Truth ℕ → Bool
  reports_hold co t =
      implies (not (is_open co.mode)) ((length co.ready == 0) && (co.due == 0))
      && (implies (is_round co.mode) (co.due == count_by (λ v. active_next P t v && has co.ready (t.master v)) t.vertices)
      && implies (is_rebuild co.mode) (nat_le co.due (length t.vertices * length co.ready)))

  abbrev state_holds : Cluster ℕ ℕ → Truth ℕ → Bool
  state_holds c t =
      places_hold c
      && (list_all (vertex_holds c.coordinator t) t.vertices
      && (round_holds c.coordinator t
      && (list_all (log_holds c t) (below c.places)
      && (list_all (λ p. host_holds c t p (host c p)) (below c.places)
      && (network_holds c t
      && reports_hold c.coordinator t)))))

  -- the committed state after a step: a commit alone changes it
  abbrev truth_by : Position ℕ ℕ → Option Event → Truth ℕ → Truth ℕ
  truth_by s None t = t
  truth_by s (Some e) t = let c = s.cluster in
      if is_commit (step P c e).1 then (if is_rebuild c.coordinator.mode then rebuilt P (view_of P c) (wanted_in P c) t else next P t) else t

  -- in how many of the first n states of a run the invariant holds
  unfoldable pub holding : ℕ → Position ℕ ℕ → Truth ℕ → ℕ
  holding zero s t = 0
  holding (suc n) s t = bit (state_holds s.cluster t) + holding n (next_position P s) (truth_by s (next_event s) t)
