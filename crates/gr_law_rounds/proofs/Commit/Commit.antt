-- The commit of a round.
use Rattle.std.proofs.Common.{◌≡◌, ◌≢◌, ℕ, ◌+◌, ◌<◌, [], true, false, ◌&&◌, refl, sym, ap, ◌∙◌, subst, Some, ◌⊎◌, ⊎_elim}
use Rattle.std.specs.Prelude.{IsTrue, count_by, if◌then◌else◌}
use Rattle.std.proofs.Math.Bool.{and-true}
use Rattle.gr_base.specs.Rising.{has}
use Rattle.gr_program.specs.Program.{Program}
use Rattle.gr_program.specs.ProgramLaws.{ProgramLaws}
use Rattle.gr_program.specs.Rounds.{State, state_after, last_round}
use Rattle.gr_log.specs.Log.{committed_log}
use Rattle.gr_sched.specs.declared.event.Event.{Event}
use Rattle.gr_view.specs.declared.coordinator.Coordinator.{Coordinator}
use Rattle.gr_view.specs.declared.coordinator.Mode.TheVariants as mode
use Rattle.gr_view.specs.Modes.{is_round, is_rebuild}
use Rattle.gr_view.specs.Decisions.{parties, rebuild_committed, round_committed}
use Rattle.gr_cluster.specs.Tables.{Host, Cluster, changed_at, host, is_up, view_of, wanted_in}
use Rattle.gr_cluster.specs.Step.{with_coordinator, step}
use Rattle.gr_cluster.specs.Runs.{is_commit}
use Rattle.gr_agree.specs.Truth.{Truth, edge_list}
use Rattle.gr_agree.specs.TrueRound.{active_next, next, staged}
use Rattle.gr_agree.specs.Places.{may_have_dead}
use Rattle.gr_agree.specs.Hosts.{progress, HostHolds, pending_rows, pending_arcs}
use Rattle.gr_agree.specs.Agree.{Agree}
use Rattle.gr_lists.proofs.Each.{Each-has}
use Rattle.gr_lists.proofs.Counts.{count_by-agree}
use Rattle.gr_law_rounds.proofs.Network.Same.{no-places, shaped-same, places-same}
use Rattle.gr_law_rounds.proofs.Commit.Open.{reported-at, pending-shown, open-committed}
use Rattle.gr_law_rounds.proofs.Round.Running.{is-round, no-reborn, parties-live, mastered}
use Rattle.gr_law_rounds.proofs.Commit.Next.{staged-next, arcs-next, entries-next, state-next, sound-next}
use Rattle.gr_law_rounds.proofs.Commit.Last.{done-at-last, not-done-before, done-or-running}
use Rattle.gr_law_rounds.proofs.Commit.Verdicts.{committing, all-up, all-ready}

module _ {V A : Type 0} (P : Program V A) (t : Truth V) (c : Cluster V A) (L : ProgramLaws P) (AG : Agree P t c) (running : c.coordinator.mode ≡ mode.Running)
    (up : (p : ℕ) → has (parties c.coordinator) p ≡ true → is_up c p ≡ true) (all : (p : ℕ) → has (parties c.coordinator) p ≡ true → has c.coordinator.ready p ≡ true) where
  no-rebuild : is_rebuild c.coordinator.mode ≡ false
  no-rebuild = ap is_rebuild running

  abbrev co' : Coordinator
  co' = round_committed c.coordinator

  abbrev d : Cluster V A
  d = with_coordinator co' c

  abbrev t' : Truth V
  t' = next P t

  module _ (p : ℕ) (h : Host V A) (at : host c p ≡ Some h) where
    holds-next : HostHolds P t' (c.coordinator.commits + 1) p h
    holds-next =
        let D = reported-at P t c AG all p h at in let S = pending-shown P t c AG all p h at in
        record {
          rows = S.0 ∙ ((D.0).rows ∙ (ap (λ b. pending_rows P (view_of P c) (wanted_in P c) t p (progress h) b) no-rebuild ∙ (ap (staged P t p) D.1 ∙ staged-next P t p)));
          arcs = S.1 ∙ ((D.0).arcs ∙ (ap (λ b. pending_arcs P (view_of P c) (wanted_in P c) t p (progress h) b) no-rebuild ∙ arcs-next P t p));
        }

  none-dead : c.coordinator.dead ≡ []
  none-dead = AG.committed.places.none_dead (ap may_have_dead running)

  -- where all have reported, the sum is the number of vertices that are active next
  due-total : c.coordinator.due ≡ count_by (state_after P (edge_list t) (c.coordinator.round + 1)).active t.vertices
  due-total = AG.open_work.reports.due (ap is_round running)
      ∙ (count_by-agree _ (active_next P t) t.vertices (Each-has _ t.vertices (λ v m. ap (λ b. active_next P t v && b) (all (t.master v) (mastered P t c AG no-rebuild none-dead v m)) ∙ and-true (active_next P t v)))
      ∙ ap (λ (s : State V). count_by s.active t.vertices) (state-next P t c.coordinator.round AG.committed.round.state))

  not-yet-last : c.coordinator.round < last_round P (edge_list t) t.vertices c.coordinator.limit
  not-yet-last = AG.open_work.end.not_done (λ e. let bad : mode.Running ≡ mode.Done = sym running ∙ e in cc)

  -- the mode afterwards is that of a run which is done, or goes on
  modes : (co'.mode ≡ mode.Done) ⊎ (co'.mode ≡ mode.Running)
  modes = done-or-running P (edge_list t) t.vertices c.coordinator.limit c.coordinator.round not-yet-last c.coordinator.due due-total

  not-recovering-next : co'.mode ≢ mode.Recovering
  not-recovering-next e = ⊎_elim (λ k. let bad : mode.Done ≡ mode.Recovering = sym k ∙ e in cc) (λ k. let bad : mode.Running ≡ mode.Recovering = sym k ∙ e in cc) modes

  pub commit-kept : Agree P t' d
  commit-kept = record {
    committed = record {
      shaped = shaped-same c.coordinator co' refl refl refl no-places AG.committed.shaped;
      places = places-same c.coordinator co' refl (is_up c) (is_up d) (λ q down. down) (λ e. none-dead) (λ e. no-reborn P t c AG no-rebuild) (λ e q live. up q (parties-live-at q ∙ live)) AG.committed.places;
      sound = sound-next P t AG.committed.sound;
      logs = let G = AG.committed.logs in record {
        theta = G.theta;
        holders = G.holders;
        alive = λ e. absurd (not-recovering-next e);
        entries = λ q lt r. G.entries q lt r ∙ entries-next P t q;
        edges = λ q lt r. G.edges q lt r ∙ arcs-next P t q;
        edges_once = G.edges_once;
      };
      hosts = λ q h at live. holds-next q h at;
      round = record { state = state-next P t c.coordinator.round AG.committed.round.state; settled = λ e v. (refl, refl) };
    };
    open_work = open-committed P t c AG all t' co' c.logs refl refl refl refl (no-reborn P t c AG no-rebuild)
        (record {
          done = λ e. done-at-last P (edge_list t) t.vertices c.coordinator.limit c.coordinator.round not-yet-last c.coordinator.due due-total e;
          not_done = λ ne. not-done-before P (edge_list t) t.vertices c.coordinator.limit c.coordinator.round not-yet-last c.coordinator.due due-total ne;
        });
  }
    where
      parties-live-at : (q : ℕ) → has (parties c.coordinator) q ≡ has c.coordinator.live q
      parties-live-at q = ap (λ l. has l q) (parties-live P t c AG no-rebuild)

module _ {V A : Type 0} (P : Program V A) (L : ProgramLaws P) (t : Truth V) (c : Cluster V A) (e : Event) (AG : Agree P t c) (commits : IsTrue (is_commit (step P c e).1)) (round : IsTrue (is_round c.coordinator.mode)) where
  running : c.coordinator.mode ≡ mode.Running
  running = is-round c.coordinator.mode round

  pub round-commits : Agree P (next P t) (step P c e).0
  round-commits =
      let k = committing P c e commits in
      let no-rebuild : is_rebuild c.coordinator.mode ≡ false = ap is_rebuild running in
      subst (Agree P (next P t)) (sym (k.2 ∙ (λ i. with_coordinator (if no-rebuild i then rebuild_committed c.coordinator else round_committed c.coordinator) (if no-rebuild i then record c { logs = changed_at (parties c.coordinator) (λ _. committed_log) c.logs } else c))))
      (commit-kept P t c L AG running (all-up P c e commits) (all-ready P c e commits))
