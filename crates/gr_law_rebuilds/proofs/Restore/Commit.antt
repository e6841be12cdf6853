-- The commit of a rebuild.
use Rattle.std.proofs.Common.{◌≡◌, ◌<◌, ℕ, ◌+◌, [], ◌++◌, true, false, not, refl, sym, ap, ◌∙◌, subst, Option, Some, length, if◌then◌else◌}
use Rattle.std.specs.Prelude.{IsTrue, is_some}
use Rattle.std.proofs.lemmas.Bool.{or_parts}
use Rattle.gr_base.specs.declared.records.NumberedEdge.{NumberedEdge}
use Rattle.gr_base.specs.Rising.{RisesBy, has, without}
use Rattle.gr_base.proofs.Ranges.{range-rises}
use Rattle.gr_base.proofs.Union.{has-union}
use Rattle.gr_program.specs.Program.{Program}
use Rattle.gr_copies.specs.declared.view.RebuildView.{RebuildView}
use Rattle.gr_copies.specs.Granter.{is_retiring}
use Rattle.gr_log.specs.Log.{Log, empty_log, committed_log}
use Rattle.gr_log.specs.Directory.{directory_in, edges_in}
use Rattle.gr_agree.specs.Logs.{KeepsEachOnce}
use Rattle.gr_sched.specs.declared.event.Event.{Event}
use Rattle.gr_view.specs.declared.coordinator.Coordinator.{Coordinator}
use Rattle.gr_view.specs.declared.coordinator.Mode.TheVariants as mode
use Rattle.gr_view.specs.Modes.{is_rebuild}
use Rattle.gr_view.specs.Decisions.{parties, rebuild_committed, round_committed}
use Rattle.gr_cluster.specs.Tables.{Host, Cluster, changed_at, host, is_up, log, view_of, wanted_in}
use Rattle.gr_cluster.specs.GraphIn.{graph_in}
use Rattle.gr_cluster.specs.Step.{with_coordinator, step}
use Rattle.gr_cluster.specs.Runs.{is_commit}
use Rattle.gr_agree.specs.Truth.{Truth}
use Rattle.gr_agree.specs.Rebuilt.{rebuilt, true_records}
use Rattle.gr_agree.specs.Hosts.{HostHolds, pending_rows, pending_arcs}
use Rattle.gr_agree.specs.Logs.{LogsHold}
use Rattle.gr_agree.specs.Agree.{Agree}
use Rattle.gr_lists.proofs.Tests.{by_option}
use Rattle.gr_lists.proofs.Maps.{rises-map}
use Rattle.gr_law_rounds.proofs.Network.Kept.{up-party}
use Rattle.gr_law_rounds.proofs.Network.Same.{no-places}
use Rattle.gr_law_rounds.proofs.Commit.Open.{reported-at, pending-shown, open-committed}
use Rattle.gr_law_rounds.proofs.Logs.Logged.{graph-in}
use Rattle.gr_law_rounds.proofs.Commit.Verdicts.{committing, all-up, all-ready}
use Rattle.gr_law_rebuilds.proofs.Epoch.Tables.{length-changed_at, get_or-changed_at}
use Rattle.gr_law_rebuilds.proofs.Epoch.Places.{IsPlaces-union, IsPlaces-filter}
use Rattle.gr_law_rebuilds.proofs.Restore.Fits.{Fits}
use Rattle.gr_law_rebuilds.proofs.Restore.Holders.{holder-became}
use Rattle.gr_law_rebuilds.proofs.Restore.Layers.{rows-after}
use Rattle.gr_law_rebuilds.proofs.Restore.Edges.{arcs-after}
use Rattle.gr_law_rebuilds.proofs.Restore.Records.{directory-after, edges-after, once-after}
use Rattle.gr_law_rebuilds.proofs.Restore.Restored.{sound-rebuilt}
use Rattle.gr_law_rebuilds.proofs.Restore.Parties.{party-stays, unretired-party, places-after}
use Rattle.gr_law_rebuilds.proofs.Restore.Ready.{fits-here, new-holder_party}

module _ {V A : Type 0} (P : Program V A) (t : Truth V) (c : Cluster V A) (AG : Agree P t c) (rebuilding : is_rebuild c.coordinator.mode ≡ true)
    (up : (p : ℕ) → has (parties c.coordinator) p ≡ true → is_up c p ≡ true) (all : (p : ℕ) → has (parties c.coordinator) p ≡ true → has c.coordinator.ready p ≡ true) where
  abbrev w : RebuildView
  w = view_of P c

  abbrev want : ℕ
  want = wanted_in P c

  abbrev co' : Coordinator
  co' = rebuild_committed c.coordinator

  abbrev d : Cluster V A
  d = with_coordinator co' (record c { logs = changed_at (parties c.coordinator) (λ _. committed_log) c.logs })

  abbrev t' : Truth V
  t' = rebuilt P w want t

  fits : Fits w t
  fits = fits-here P t c AG rebuilding

  edges-rise : RisesBy (λ (a : NumberedEdge). a.number) t.edges
  edges-rise = rises-map (λ (a : NumberedEdge). a.number) (λ n. n) t.edges (subst (RisesBy (λ n. n)) (sym AG.committed.sound.numbers) (range-rises 0 (length t.edges)))

  party-stays-here : (p : ℕ) → has (parties c.coordinator) p ≡ true → is_retiring w p ≡ false
  party-stays-here p party = (party-stays c.places (is_up c) c.coordinator AG.committed.places p party).1

  module _ (p : ℕ) (h : Host V A) (at : host c p ≡ Some h) where
    is-party : has (parties c.coordinator) p ≡ true
    is-party = up-party P t c AG p h at

    holds-after : HostHolds P t' (c.coordinator.commits + 1) p h
    holds-after =
        let D = reported-at P t c AG all p h at in let S = pending-shown P t c AG all p h at in let stays = party-stays-here p is-party in
        record {
          rows = S.0 ∙ ((D.0).rows ∙ ((λ i. pending_rows P w want t p (D.1 i) (rebuilding i)) ∙ rows-after P w want t fits AG.committed.sound.rise p stays));
          arcs = S.1 ∙ ((D.0).arcs ∙ ((λ i. pending_arcs P w want t p (D.1 i) (rebuilding i)) ∙ arcs-after P w want t p stays edges-rise));
        }

    appended-is : (log c p).appended ≡ true_records P w want t p
    appended-is = let D = reported-at P t c AG all p h at in (D.0).tail ∙ ap (λ b. if b then true_records P w want t p else []) (D.2 rebuilding)

  -- the log of a party, once it is committed
  log-after : (p : ℕ) → has (parties c.coordinator) p ≡ true → (log d p).committed ≡ (log c p).committed ++ true_records P w want t p
  log-after p party =
      ap (λ (l : Log). l.committed) (get_or-changed_at (parties c.coordinator) (λ _. committed_log) c.logs p empty_log refl ∙ ap (λ b. if b then committed_log (log c p) else log c p) party)
      ∙ ap (λ rs. (log c p).committed ++ rs) (by_option (host c p)
      (λ none. absurd (let bad : false ≡ true = sym (ap (λ (o : Option (Host V A)). is_some o) none) ∙ up p party in cc))
      (λ h at. appended-is p h at))

  -- and before that none of its records is torn
  whole-log : (p : ℕ) → has (parties c.coordinator) p ≡ true → (log c p).torn ≡ []
  whole-log p party = by_option (host c p)
      (λ none. absurd (let bad : false ≡ true = sym (ap (λ (o : Option (Host V A)). is_some o) none) ∙ up p party in cc))
      (λ h at. ((reported-at P t c AG all p h at).0).not_torn)

  logs-after : LogsHold t' c.places c.theta co' (log d)
  logs-after = let G = AG.committed.logs in record {
    theta = G.theta;
    holders = λ v q there h. ((holder-became P w want t v q h).0, (party-stays c.places (is_up c) c.coordinator AG.committed.places q (new-holder_party P t c AG rebuilding v there q h)).0);
    alive = λ e. absurd (let bad : mode.Running ≡ mode.Recovering = e in cc);
    entries = λ q lt r. let k = was q lt r in ap directory_in (log-after q k.0) ∙ directory-after P w want t q k.1 (log c q).committed fits AG.committed.sound.rise (G.entries q lt k.2);
    edges = λ q lt r. let k = was q lt r in ap edges_in (log-after q k.0) ∙ edges-after P w want t q k.1 (log c q).committed (G.edges q lt k.2) edges-rise;
    edges_once = λ q lt r. let k = was q lt r in subst KeepsEachOnce (sym (log-after q k.0)) (once-after P w want t q k.1 (log c q).committed (G.edges q lt k.2) edges-rise (G.edges_once q lt k.2));
  }
    where
      was : (q : ℕ) → q < c.places → has co'.retired q ≡ false → (has (parties c.coordinator) q ≡ true) × (is_retiring w q ≡ false) × (has c.coordinator.retired q ≡ false)
      was q lt r =
          let party = unretired-party c.places (is_up c) c.coordinator AG.committed.places q lt r in
          (party, party-stays-here q party, (or_parts _ _ (sym (has-union q c.coordinator.retired (without c.coordinator.dead c.coordinator.reborn)) ∙ r)).0)

  pub commit-kept : Agree P t' d
  commit-kept = record {
    committed = record {
      shaped = let S = AG.committed.shaped in record {
        few = S.few;
        hosts = S.hosts;
        logs = length-changed_at (parties c.coordinator) (λ _. committed_log) c.logs ∙ S.logs;
        live = IsPlaces-union c.coordinator.live c.coordinator.reborn S.live S.reborn;
        dead = no-places;
        retired = IsPlaces-union c.coordinator.retired (without c.coordinator.dead c.coordinator.reborn) S.retired (IsPlaces-filter (λ p. not (has c.coordinator.reborn p)) c.coordinator.dead S.dead);
        reborn = no-places;
        ready = no-places;
      };
      places = places-after c.places (is_up c) c.coordinator AG.committed.places;
      sound = sound-rebuilt P w want t fits AG.committed.sound;
      logs = logs-after;
      hosts = λ q h at live. holds-after q h at;
      round = record { state = AG.committed.round.state; settled = λ e. absurd (let bad : mode.Running ≡ mode.Done = e in cc) };
    };
    open_work = open-committed P t c AG all t' co' (changed_at (parties c.coordinator) (λ _. committed_log) c.logs) refl refl refl refl refl
        (record {
          done = λ e. absurd (let bad : mode.Running ≡ mode.Done = e in cc);
          not_done = λ ne. AG.open_work.end.not_done (λ e. let bad : true ≡ false = sym rebuilding ∙ ap is_rebuild e in cc);
        });
  }

module _ {V A : Type 0} (P : Program V A) (t : Truth V) (c : Cluster V A) (e : Event) (AG : Agree P t c) (commits : IsTrue (is_commit (step P c e).1)) (rebuilding : IsTrue (is_rebuild c.coordinator.mode)) where
  -- each party has appended whole records
  pub logs-whole : (p : ℕ) → has (parties c.coordinator) p ≡ true → (log c p).torn ≡ []
  logs-whole = whole-log P t c AG rebuilding (all-up P c e commits) (all-ready P c e commits)

  pub rebuild-commits : Agree P (rebuilt P (view_of P c) (wanted_in P c) t) (step P c e).0
  rebuild-commits =
      let k = committing P c e commits in
      let yes : is_rebuild c.coordinator.mode ≡ true = rebuilding in
      subst (Agree P (rebuilt P (view_of P c) (wanted_in P c) t)) (sym (k.2 ∙ (λ i. with_coordinator (if yes i then rebuild_committed c.coordinator else round_committed c.coordinator) (if yes i then record c { logs = changed_at (parties c.coordinator) (λ _. committed_log) c.logs } else c))))
      (commit-kept P t c AG rebuilding (all-up P c e commits) (all-ready P c e commits))

  -- both committed states have the same graph, and the logs say it
  pub rebuild-graph : graph_in (step P c e).0 ≡ graph_in c
  rebuild-graph = graph-in P (rebuilt P (view_of P c) (wanted_in P c) t) (step P c e).0 rebuild-commits ∙ sym (graph-in P t c AG)
