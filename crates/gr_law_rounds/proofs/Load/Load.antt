-- A loaded cluster agrees with the committed state before the first round.
use Rattle.std.proofs.Common.{◌≡◌, ◌≢◌, ◌<◌, ℕ, ◌+◌, List, [], ◌∷◌, ◌++◌, Bool, true, false, cond, not, ◌==◌, ◌&&◌, ◌||◌, nat_lt, map, filter, filter_map, length, refl, sym, ap, ◌∙◌, subst, arith, Option, Some, None, inl, inr, ◌⊎◌, lt-ltb, le-ltb, ltb-true, le_refl, ⊎_elim, if◌then◌else◌}
use Rattle.std.specs.Prelude.{IsTrue, is_some, count_by}
use Rattle.std.specs.List.{AllByRecursion as Each}
use Rattle.std.proofs.lemmas.Bool.{and_right, cases_lt}
use Rattle.std.proofs.lemmas.List.{get_or_past}
use Rattle.std.proofs.lemmas.List.FromFn.{length-map-range_with_len, get_or-map-range_with_len}
use Rattle.std.proofs.lemmas.List.Elements.{All-nil}
use Rattle.gr_base.specs.declared.records.Edge.{Edge}
use Rattle.gr_base.specs.declared.records.NumberedEdge.{NumberedEdge}
use Rattle.gr_base.specs.Degrees.{indegree, outdegree}
use Rattle.gr_base.specs.Rising.{RisesBy, has}
use Rattle.gr_base.specs.Places.{IsPlaces, below}
use Rattle.gr_base.proofs.Rising.{rises-nil, filter-rises}
use Rattle.gr_program.specs.declared.copy.VertexCopy.{VertexCopy}
use Rattle.gr_program.specs.Program.{Program}
use Rattle.gr_program.specs.Rounds.{first_state, state_after, last_round, is_on}
use Rattle.gr_program.proofs.LastRound.{last_round-least}
use Rattle.gr_cut.specs.Cut.{home, is_high, place_at_load, numbered}
use Rattle.gr_copies.specs.Holders.{first_holders}
use Rattle.gr_log.specs.declared.record.LogRecord.{LogRecord}
use Rattle.gr_log.specs.declared.record.LogRecord.TheVariants as item
use Rattle.gr_log.specs.Log.{Log, empty_log}
use Rattle.gr_log.specs.Directory.{Entry, entry_of, with_items, directory_in, kept_edges, edges_in}
use Rattle.gr_batch.specs.declared.stage.Stage.{Stage}
use Rattle.gr_batch.specs.declared.stage.Stage.TheVariants as stage
use Rattle.gr_batch.specs.Stages.{is_stage, is_end}
use Rattle.gr_batch.specs.Order.{place_in}
use Rattle.gr_batch.specs.Bodies.{is_of}
use Rattle.gr_view.specs.declared.coordinator.Mode.{Mode}
use Rattle.gr_view.specs.declared.coordinator.Mode.TheVariants as mode
use Rattle.gr_view.specs.declared.coordinator.Coordinator.{Coordinator}
use Rattle.gr_view.specs.Modes.{is_open, is_rebuild, is_failed}
use Rattle.gr_view.specs.Decisions.{first_coordinator}
use Rattle.gr_rules.specs.Rows.{entry, record_of}
use Rattle.gr_rules.specs.Grants.{records_after}
use Rattle.gr_cluster.specs.Tables.{Host, Cluster, host, is_up, log, inbox_of, effective, effective_arcs, view_of, wanted_in}
use Rattle.gr_cluster.specs.Stages.{stages_of, has_stage}
use Rattle.gr_cluster.specs.GraphIn.{graph_of, graph_in}
use Rattle.gr_cluster.specs.Load.{Setting, fresh_host, first_value, first_copy, first_rows, first_arcs, first_host, first_log, load}
use Rattle.gr_agree.specs.Truth.{Truth, edge_list, held, held_at, place_of, arcs_at, true_entry, entries_at, copy_at, rows_at}
use Rattle.gr_agree.specs.TrueRound.{active_next}
use Rattle.gr_agree.specs.Accepted.{IsGraph, IsSetting}
use Rattle.gr_agree.specs.FirstTruth.{first_truth}
use Rattle.gr_agree.specs.Places.{sets_with}
use Rattle.gr_agree.specs.Logs.{Sound}
use Rattle.gr_agree.specs.Hosts.{HostOpen, pending_rows, pending_arcs}
use Rattle.gr_agree.specs.Network.{standing, is_shown}
use Rattle.gr_agree.specs.Agree.{Agree}
use Rattle.gr_lists.proofs.Counts.{count_by-cons}
use Rattle.gr_lists.proofs.Items.{items-rising}
use Rattle.gr_lists.proofs.Maps.{map-rises, rises-map}
use Rattle.gr_base.proofs.Ranges.{range-rises}
use Rattle.gr_lists.proofs.Each.{Each-weaker}
use Rattle.gr_law_rounds.proofs.Bodies.Values.{rows-staged}
use Rattle.gr_law_rounds.proofs.Logs.Logged.{graph-in}
use Rattle.gr_law_rounds.proofs.Load.Ranges.{range-below, has-below, numbered-edges, numbered-numbers, numbered-length, numbered-each}
use Rattle.gr_law_rounds.proofs.Load.Holders.{holders-places, holder-below, home-holds, ends-held}

-- what records of copies and of kept edges say
module _ {V : Type 0} where
  pub entries-kept : (rows : List (VertexCopy V)) (arcs : List NumberedEdge) → filter_map entry_of (map record_of rows ++ map item.Kept arcs) ≡ map entry rows
  entries-kept [] [] = refl
  entries-kept [] (a ∷ arcs) = entries-kept [] arcs
  entries-kept (r ∷ rows) arcs = ap (λ l. entry r ∷ l) (entries-kept rows arcs)

  pub edges-kept : (rows : List (VertexCopy V)) (arcs : List NumberedEdge) → kept_edges (map record_of rows ++ map item.Kept arcs) ≡ arcs
  edges-kept [] [] = refl
  edges-kept [] (a ∷ arcs) = ap (λ l. a ∷ l) (edges-kept [] arcs)
  edges-kept (r ∷ rows) arcs = edges-kept rows arcs

module _ {V A : Type 0} (P : Program V A) (s : Setting) (es : List Edge) (vs : List ℕ) (IS : IsSetting s) (IG : IsGraph es vs) where
  abbrev t : Truth V
  t = first_truth P s es vs

  abbrev c : Cluster V A
  c = load P s es vs

  -- the edges of the state are those of the graph
  pub same-edges : edge_list t ≡ es
  same-edges = numbered-edges es

  value-same : (p v : ℕ) → (if P.forgetful && (outdegree es v == 0) && not ((home s.places v == p) && true) then None else Some (P.start v (indegree es v) (outdegree es v))) ≡ first_value P s es vs p v
  value-same p v = choose P.forgetful (outdegree es v == 0) (home s.places v == p) (P.start v (indegree es v) (outdegree es v))
    where
      choose : (f o h : Bool) (x : V) → (if (f && o) && not (h && true) then None else Some x) ≡ (if f && (o && not h) then None else Some x)
      choose true true true x = refl
      choose true true false x = refl
      choose true false h x = refl
      choose false o h x = refl

  copy-same : (p v : ℕ) → copy_at P t p v ≡ first_copy P s es vs p v
  unfolding first_state
  copy-same p v = (λ i. record {
    vertex = v;
    indeg = indegree (same-edges i) v;
    outdeg = outdegree (same-edges i) v;
    master = home s.places v;
    holders = first_holders s.places s.theta s.losses es v;
    value = if (P.forgetful && (outdegree (same-edges i) v == 0)) && not ((home s.places v == p) && true) then None else Some (P.start v (indegree es v) (outdegree es v));
    due = true;
  }) ∙ ap (λ (x : Option V). record (first_copy P s es vs p v) { value = x }) (value-same p v)

  rows-same : (p : ℕ) → first_rows P s es vs p ≡ rows_at P t p
  unfolding first_rows rows_at
  rows-same p = same (filter (λ v. has (first_holders s.places s.theta s.losses es v) p) vs)
    where
      same : (ws : List ℕ) → map (first_copy P s es vs p) ws ≡ map (copy_at P t p) ws
      same [] = refl
      same (w ∷ ws) = λ i. sym (copy-same p w) i ∷ same ws i

  place-same : (a : NumberedEdge) → place_of t a ≡ place_at_load s.places s.theta es a.edge
  place-same a = ap (λ l. cond (is_high s.theta (indegree l a.edge.dst)) (home s.places a.edge.src) (home s.places a.edge.dst)) same-edges

  arcs-same : (p : ℕ) → first_arcs P s es vs p ≡ arcs_at t p
  unfolding first_arcs arcs_at
  arcs-same p = same (numbered es)
    where
      same : (xs : List NumberedEdge) → filter (λ a. place_at_load s.places s.theta es a.edge == p) xs ≡ filter (λ a. place_of t a == p) xs
      same [] = refl
      same (a ∷ xs) = λ i. cond (sym (place-same a) i == p) (a ∷ same xs i) (same xs i)

  -- what the logs say
  rises-held : (p : ℕ) → RisesBy (λ v. v) (held_at t p)
  rises-held p = filter-rises (λ v. v) (held t p) vs IG.rise

  arcs-rise : (p : ℕ) → RisesBy (λ (a : NumberedEdge). a.number) (arcs_at t p)
  unfolding arcs_at
  arcs-rise p = filter-rises (λ (a : NumberedEdge). a.number) (λ a. place_of t a == p) (numbered es)
      (rises-map (λ (a : NumberedEdge). a.number) (λ q. q) (numbered es) (subst (RisesBy (λ q. q)) (sym (numbered-numbers es)) (range-rises 0 (length es))))

  entries-of : (ws : List ℕ) (p : ℕ) → map entry (map (copy_at P t p) ws) ≡ map (true_entry t) ws
  entries-of [] p = refl
  entries-of (w ∷ ws) p = ap (λ l. true_entry t w ∷ l) (entries-of ws p)

  abbrev records : ℕ → List LogRecord
  records p = records_after (first_rows P s es vs p) (first_arcs P s es vs p)

  records-same : (p : ℕ) → records p ≡ map record_of (rows_at P t p) ++ map item.Kept (arcs_at t p)
  unfolding records_after
  records-same p = λ i. map record_of (rows-same p i) ++ map item.Kept (arcs-same p i)

  directory-same : (p : ℕ) → directory_in (records p) ≡ entries_at t p
  unfolding directory_in entries_at rows_at
  directory-same p =
      ap (λ rs. with_items (λ (e : Entry). e.vertex) (filter_map entry_of rs) []) (records-same p)
      ∙ (ap (λ l. with_items (λ (e : Entry). e.vertex) l []) (entries-kept (map (copy_at P t p) (held_at t p)) (arcs_at t p) ∙ entries-of (held_at t p) p)
      ∙ items-rising (λ (e : Entry). e.vertex) (map (true_entry t) (held_at t p)) (map-rises (true_entry t) (λ (e : Entry). e.vertex) (held_at t p) (rises-held p)))

  kept-same : (p : ℕ) → kept_edges (records p) ≡ arcs_at t p
  kept-same p = ap kept_edges (records-same p) ∙ edges-kept (rows_at P t p) (arcs_at t p)

  edges-same : (p : ℕ) → edges_in (records p) ≡ arcs_at t p
  unfolding edges_in
  edges-same p = ap (λ l. with_items (λ (a : NumberedEdge). a.number) l []) (kept-same p) ∙ items-rising (λ (a : NumberedEdge). a.number) (arcs_at t p) (arcs-rise p)

  -- the tables at load
  hosts-length : length c.hosts ≡ s.places
  unfolding load
  hosts-length = length-map-range_with_len (first_host P s es vs) 0 s.places

  logs-length : length c.logs ≡ s.places
  unfolding load
  logs-length = length-map-range_with_len (first_log P s es vs) 0 s.places

  host-at : (p : ℕ) → p < s.places → host c p ≡ first_host P s es vs p
  unfolding load
  host-at p lt = get_or-map-range_with_len (first_host P s es vs) 0 s.places p p None lt (omega arith)

  log-at : (p : ℕ) → p < s.places → log c p ≡ first_log P s es vs p
  unfolding load
  log-at p lt = get_or-map-range_with_len (first_log P s es vs) 0 s.places p p empty_log lt (omega arith)

  place-of-host : (p : ℕ) (h : Host V A) → host c p ≡ Some h → p < s.places
  place-of-host p h at = ⊎_elim (λ l. l)
      (λ g. absurd (let len = hosts-length in let e : None ≡ Some h = sym (get_or_past c.hosts p None (omega (arith, g, len))) ∙ at in cc))
      (cases_lt p s.places)

  is-fresh : (p : ℕ) (h : Host V A) → host c p ≡ Some h → h ≡ fresh_host (first_rows P s es vs p) (first_arcs P s es vs p) 0 0 stage.Gather
  is-fresh p h at = let e : first_host P s es vs p ≡ Some h = sym (host-at p (place-of-host p h at)) ∙ at in cc

  abbrev co : Coordinator
  co = first_coordinator s.places s.spares s.limit (nat_lt 0 (length vs))

  -- the mode at load: a graph without a vertex is done
  abbrev mode_of : Bool → Mode
  mode_of b = if b then mode.Running else mode.Done

  two-modes : (b : Bool) → (mode_of b ≡ mode.Running) ⊎ (mode_of b ≡ mode.Done)
  two-modes true = inl refl
  two-modes false = inr refl

  no-rebuild : (b : Bool) → is_rebuild (mode_of b) ≡ false
  no-rebuild true = refl
  no-rebuild false = refl

  not-failed : (b : Bool) → is_failed (mode_of b) ≡ false
  not-failed true = refl
  not-failed false = refl

  first-stage : (b : Bool) → IsTrue (is_open (mode_of b)) → IsTrue (has_stage (stages_of (mode_of b)) stage.Gather)
  first-stage true o = refl
  first-stage false o = absurd (let bad : false ≡ true = o in cc)

  not-recovering : (b : Bool) → mode_of b ≢ mode.Recovering
  not-recovering b e = ⊎_elim (λ k. let bad : mode.Running ≡ mode.Recovering = sym k ∙ e in cc) (λ k. let bad : mode.Done ≡ mode.Recovering = sym k ∙ e in cc) (two-modes b)

  abbrev any : Bool
  any = nat_lt 0 (length vs)

  -- whether the run is over at once
  last-at-load : mode_of any ≡ mode.Done → 0 ≡ last_round P (edge_list t) vs s.limit
  last-at-load is = let L = last_round-least P (edge_list t) vs s.limit in ⊎_elim
      (λ lt. absurd (let on = L.least 0 lt in none-on vs is on))
      (λ le. omega (arith, le))
      (cases_lt 0 (last_round P (edge_list t) vs s.limit))
    where
      none-on : (ws : List ℕ) → (if nat_lt 0 (length ws) then mode.Running else mode.Done) ≡ mode.Done → is_on P (edge_list t) ws 0 ≡ true → ⊥
      none-on [] e on = let bad : false ≡ true = on in cc
      none-on (w ∷ ws) e on = let yes : nat_lt 0 (length (w ∷ ws)) ≡ true = lt-ltb 0 (length (w ∷ ws)) (omega arith) in
          let bad : mode.Running ≡ mode.Done = sym (ap (λ b. if b then mode.Running else mode.Done) yes) ∙ e in cc

  not-last-at-load : mode_of any ≢ mode.Done → 0 < last_round P (edge_list t) vs s.limit
  unfolding state_after first_state
  not-last-at-load ne = let L = last_round-least P (edge_list t) vs s.limit in ⊎_elim
      (λ lt. lt)
      (λ le. let zero' : 0 ≡ last_round P (edge_list t) vs s.limit = omega (arith, le) in absurd (⊎_elim
      (λ e. let one = IS.some_round in omega (arith, e, zero', one))
      (λ off. some-on vs ne (ap (is_on P (edge_list t) vs) zero' ∙ off))
      L.ended))
      (cases_lt 0 (last_round P (edge_list t) vs s.limit))
    where
      some-on : (ws : List ℕ) → (if nat_lt 0 (length ws) then mode.Running else mode.Done) ≢ mode.Done → is_on P (edge_list t) ws 0 ≡ false → ⊥
      some-on [] ne off = ne refl
      some-on (w ∷ ws) ne off = let bad : true ≡ false = off in cc

  -- nothing is shown as sent
  shows-none : (q : ℕ) (p : ℕ) (k : Stage) (o : Option (Host V A)) → host c p ≡ o → is_shown co q o k ≡ false
  shows-none q p k None at = refl
  shows-none q p k (Some h) at =
      let fresh = is-fresh p h at in
      ap (λ (x : Host V A). is_shown co q (Some x) k) fresh
      ∙ and_right (0 == 0) _ (and_right (has_stage (stages_of co.mode) k && not (is_end k)) _ (ap (λ b. b || (is_stage k stage.Gather && false)) (le-ltb (place_in k) 0 (omega arith)) ∙ and_right (is_stage k stage.Gather) false refl))

  no-inbox : (q : ℕ) (o : Option (Host V A)) → host c q ≡ o → inbox_of o ≡ []
  no-inbox q None at = refl
  no-inbox q (Some h) at = ap (λ (x : Host V A). x.inbox) (is-fresh q h at)

  none-stands : (p q e : ℕ) (k : Stage) → standing c.flight (host c q) p q e k ≡ 0
  unfolding load
  none-stands p q e k = ap (λ l. 0 + count_by (is_of p e k) l) (no-inbox q (host c q) refl)

  sound : Sound P t
  unfolding first_state
  sound = record {
    rise = IG.rise;
    few = IG.few_vertices;
    ids = IG.ids;
    numbers = numbered-numbers es ∙ ap below (sym (numbered-length es));
    sources = numbered-each (λ e. IsTrue (has vs e.src)) es IG.sources;
    targets = numbered-each (λ e. IsTrue (has vs e.dst)) es IG.targets;
    sources_held = held-at (λ e. e.src) (λ e. λ k. k.0);
    targets_held = held-at (λ e. e.dst) (λ e. λ k. k.1);
    holders = λ v there. holders-places s.places s.theta s.losses es IS.some_place IS.few_places v;
    master_holds = λ v there. home-holds s.places s.theta s.losses es IS.some_place IS.few_places v;
    active_due = λ v a. refl;
    due_active = λ v h. refl;
    not_due_kept = λ v e. refl;
  }
    where
      held-at : (end : Edge → ℕ) → ((e : Edge) → (has (first_holders s.places s.theta s.losses es e.src) (place_at_load s.places s.theta es e) ≡ true) × (has (first_holders s.places s.theta s.losses es e.dst) (place_at_load s.places s.theta es e) ≡ true) → has (first_holders s.places s.theta s.losses es (end e)) (place_at_load s.places s.theta es e) ≡ true)
          → Each (λ (a : NumberedEdge). IsTrue (held t (place_of t a) (end a.edge))) (numbered es)
      held-at end pick = Each-weaker _ _ (λ a k. ap (λ q. held t q (end a.edge)) (place-same a) ∙ pick a.edge k) (numbered es)
          (numbered-each (λ e. (has (first_holders s.places s.theta s.losses es e.src) (place_at_load s.places s.theta es e) ≡ true) × (has (first_holders s.places s.theta s.losses es e.dst) (place_at_load s.places s.theta es e) ≡ true)) es
          (ends-held s.places s.theta s.losses es IS.some_place IS.few_places))

  pub up-at : (p : ℕ) → p < s.places → is_up c p ≡ true
  up-at p lt = ap is_some (host-at p lt)

  fresh-open : (p : ℕ) → p < s.places → HostOpen P (view_of P c) (wanted_in P c) t co p (fresh_host (first_rows P s es vs p) (first_arcs P s es vs p) 0 0 stage.Gather) (log c p)
  fresh-open p lt = record {
    epoch = le_refl _;
    installed = inl refl;
    at_epoch = λ e. record {
      installed = refl;
      stage = first-stage any;
      idle = λ f. refl;
      not_sent = λ x. refl;
      unsent_left = λ x. absurd (let bad : false ≡ true = x in cc);
      needed = λ k m l. absurd (omega (arith, l));
      rows = rows-same p ∙ ((rows-staged P t p).0 ∙ ap (λ b. pending_rows P (view_of P c) (wanted_in P c) t p 0 b) (sym (no-rebuild any)));
      arcs = arcs-same p ∙ ap (λ b. pending_arcs P (view_of P c) (wanted_in P c) t p 0 b) (sym (no-rebuild any));
      tail = ap (λ (l : Log). l.appended) (log-at p lt);
      not_torn = ap (λ (l : Log). l.torn) (log-at p lt);
      reported = λ x. absurd (let bad : false ≡ true = x in cc);
    };
  }

  empty-set : IsPlaces []
  empty-set = record { rise = rises-nil (λ p. p); below = All-nil (λ p. p < 64) }

  none-counted : (ws : List ℕ) → count_by (λ v. active_next P t v && false) ws ≡ 0
  none-counted [] = refl
  none-counted (w ∷ ws) =
      let ih = none-counted ws in let k = count_by-cons (λ v. active_next P t v && false) w ws in
      let one : cond {A = ℕ} (active_next P t w && false) 1 0 ≡ 0 = ap (λ x. cond x 1 0) (and_right (active_next P t w) false refl) in omega (arith, ih, k, one)

  one-set : (p : ℕ) → sets_with co p ≡ cond (nat_lt p s.places) 1 0
  one-set p = ap (λ b. cond {A = ℕ} b 1 0 + 0 + 0) (has-below s.places p) ∙ omega arith

  pub load-agrees : Agree P t c
  unfolding load state_after first_state
  load-agrees = record {
    committed = record {
      shaped = record {
        few = IS.few_places;
        hosts = hosts-length;
        logs = logs-length;
        live = record { rise = range-rises 0 s.places; below = range-below 0 s.places 64 (let f = IS.few_places in omega (arith, f)) };
        dead = empty-set;
        retired = empty-set;
        reborn = empty-set;
        ready = empty-set;
      };
      places = record {
        one_set = one-set;
        reborn_dead = λ p r. r;
        none_dead = λ e. refl;
        none_reborn = λ e. refl;
        retired_down = λ p r. absurd (let bad : false ≡ true = r in cc);
        dead_down = λ p d r. absurd (let bad : false ≡ true = d in cc);
        done_up = λ e p l. up-at p (ltb-true p s.places (sym (has-below s.places p) ∙ l));
        spares = let f = IS.spares in omega (arith, f);
      };
      sound = sound;
      logs = record {
        theta = refl;
        holders = λ v p there h. (holder-below s.places s.theta s.losses es IS.some_place IS.few_places v p h, refl);
        alive = λ e. absurd (not-recovering any e);
        entries = λ p lt r. ap (λ (l : Log). directory_in l.committed) (log-at p lt) ∙ directory-same p;
        edges = λ p lt r. ap (λ (l : Log). edges_in l.committed) (log-at p lt) ∙ edges-same p;
        edges_once = λ p lt r. ap (λ (l : Log). length (edges_in l.committed)) (log-at p lt) ∙ (ap length (edges-same p) ∙ (sym (ap length (kept-same p)) ∙ sym (ap (λ (l : Log). length (kept_edges l.committed)) (log-at p lt))));
      };
      hosts = λ p h at live. let fresh = is-fresh p h at in record {
        rows = ap (effective 0) fresh ∙ rows-same p;
        arcs = ap (effective_arcs 0) fresh ∙ arcs-same p;
      };
      round = record { state = ap (first_state P) (sym same-edges); settled = λ e v. (refl, refl) };
    };
    open_work = record {
      network = record {
        in_flight = tt;
        in_inbox = λ q. subst (Each _) (sym (no-inbox q (host c q) refl)) tt;
        at_most_one = λ p q e k. let z = none-stands p q e k in omega (arith, z);
        only_sent = λ p q k y. let z = none-stands p q 0 k in omega (arith, z);
        all_sent = λ p q k y y' a b ne. none-stands p q 0 k ∙ sym (ap (λ x. cond x 1 0) (shows-none q p k (host c p) refl));
      };
      hosts = λ p h at y. subst (λ k. HostOpen P (view_of P c) (wanted_in P c) t co p k (log c p)) (sym (is-fresh p h at)) (fresh-open p (place-of-host p h at));
      reborn = λ p h at y. absurd (let bad : false ≡ true = y in cc);
      end = record { done = last-at-load; not_done = not-last-at-load };
      reports = record {
        ready = λ p h at y. sym (ap (λ (x : Host V A). (x.epoch == 0) && x.reported) (is-fresh p h at) ∙ and_right (0 == 0) false refl);
        none = λ e. (refl, refl);
        due = λ e. sym (none-counted vs);
        due_bounded = λ e. omega arith;
      };
    };
  }

  -- its logs say the graph
  pub load-holds : Agree P t c × (graph_in c ≡ graph_of es vs)
  load-holds = (load-agrees, graph-in P t c load-agrees ∙ ap (λ l. graph_of l vs) same-edges)
