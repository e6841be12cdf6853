-- What the invariant says of a cluster that changes in few things only.
use Rattle.std.proofs.Common.{◌≡◌, ◌≢◌, ℕ, ◌+◌, ◌<◌, ◌≤◌, List, [], Bool, false, not, cond, sym, ap, ◌∙◌, subst, length, get_or, set, None}
use Rattle.std.specs.Prelude.{IsTrue, option_map, if◌then◌else◌}
use Rattle.std.specs.List.{list_any}
use Rattle.std.proofs.lemmas.List.{get_or-set_same, get_or-set_other}
use Rattle.std.proofs.lemmas.List.Elements.{All-nil}
use Rattle.gr_base.specs.Places.{IsPlaces}
use Rattle.gr_base.specs.Rising.{has, includes}
use Rattle.gr_base.proofs.Rising.{rises-nil}
use Rattle.gr_program.specs.Program.{Program}
use Rattle.gr_copies.specs.declared.view.RebuildView.{RebuildView}
use Rattle.gr_log.specs.Log.{Log, empty_log}
use Rattle.gr_log.specs.Directory.{directory_in, edges_in}
use Rattle.gr_agree.specs.Logs.{KeepsEachOnce}
use Rattle.gr_batch.specs.declared.batch.Batch.{Batch}
use Rattle.gr_batch.specs.declared.stage.Stage.{Stage}
use Rattle.gr_batch.specs.Stages.{is_end}
use Rattle.gr_batch.specs.Order.{place_in}
use Rattle.gr_view.specs.declared.coordinator.Coordinator.{Coordinator}
use Rattle.gr_view.specs.declared.coordinator.Mode.TheVariants as mode
use Rattle.gr_view.specs.Modes.{is_rebuild}
use Rattle.gr_rules.specs.Exchange.{needed}
use Rattle.gr_rules.specs.Taken.{log_at}
use Rattle.gr_cluster.specs.Tables.{Host, Cluster, log, effective, effective_arcs}
use Rattle.gr_cluster.specs.Stages.{stages_of, has_stage}
use Rattle.gr_cluster.specs.Todo.{others}
use Rattle.gr_agree.specs.Truth.{Truth}
use Rattle.gr_agree.specs.Rebuilt.{true_records}
use Rattle.gr_agree.specs.Places.{Shaped, PlacesHold, may_have_dead}
use Rattle.gr_agree.specs.Logs.{LogsHold}
use Rattle.gr_agree.specs.Hosts.{progress, HasNeeded, AtEpoch}
use Rattle.gr_agree.specs.Laws.{effective_rows, effective_edges, IsCommittedSame}
use Rattle.gr_lists.proofs.Tests.{by_same}

pub no-places : IsPlaces []
no-places = record { rise = rises-nil (λ p. p); below = All-nil (λ p. p < 64) }

abbrev Sets : Type 0
Sets = List ℕ × List ℕ × List ℕ × List ℕ × ℕ

-- what a coordinator says of the places
abbrev pub sets_of : Coordinator → Sets
sets_of co = (co.live, co.dead, co.retired, co.reborn, co.spares)

module _ (co co' : Coordinator) (sets : sets_of co' ≡ sets_of co) where
  pub shaped-same : {places n m n' m' : ℕ} → n' ≡ n → m' ≡ m → IsPlaces co'.ready → Shaped places n m co → Shaped places n' m' co'
  shaped-same hosts logs ready S = record {
    few = S.few;
    hosts = hosts ∙ S.hosts;
    logs = logs ∙ S.logs;
    live = subst (λ (s : Sets). IsPlaces s.0) (sym sets) S.live;
    dead = subst (λ (s : Sets). IsPlaces s.1) (sym sets) S.dead;
    retired = subst (λ (s : Sets). IsPlaces s.2) (sym sets) S.retired;
    reborn = subst (λ (s : Sets). IsPlaces s.3) (sym sets) S.reborn;
    ready = ready;
  }

  -- no more machines are up
  pub places-same : {places : ℕ} (up up' : ℕ → Bool) → ((p : ℕ) → up p ≡ false → up' p ≡ false)
      → (may_have_dead co'.mode ≡ false → co.dead ≡ []) → (co'.mode ≢ mode.Recovering → co.reborn ≡ []) → (co'.mode ≡ mode.Done → (p : ℕ) → IsTrue (has co.live p) → IsTrue (up' p))
      → PlacesHold places up co → PlacesHold places up' co'
  places-same up up' less none_dead none_reborn done_up W = record {
    one_set = λ p. (λ i. cond (has (sets i).0 p) 1 0 + cond (has (sets i).1 p) 1 0 + cond (has (sets i).2 p) 1 0) ∙ W.one_set p;
    reborn_dead = λ p. subst (λ (s : Sets). IsTrue (has s.3 p) → IsTrue (has s.1 p)) (sym sets) (W.reborn_dead p);
    none_dead = λ e. ap (λ (s : Sets). s.1) sets ∙ none_dead e;
    none_reborn = λ e. ap (λ (s : Sets). s.3) sets ∙ none_reborn e;
    retired_down = λ p. subst (λ (s : Sets). IsTrue (has s.2 p) → up' p ≡ false) (sym sets) (λ r. less p (W.retired_down p r));
    dead_down = λ p. subst (λ (s : Sets). IsTrue (has s.1 p) → has s.3 p ≡ false → up' p ≡ false) (sym sets) (λ d r. less p (W.dead_down p d r));
    done_up = λ e p. subst (λ (s : Sets). IsTrue (has s.0 p) → IsTrue (up' p)) (sym sets) (done_up e p);
    spares = subst (λ (s : Sets). s.4 + length s.3 ≤ 255) (sym sets) W.spares;
  }

-- the committed parts of the logs stay, and the retired places
pub logs-same : {V : Type 0} (t : Truth V) {places theta : ℕ} (co co' : Coordinator) (log_of log_of' : ℕ → Log) → co'.retired ≡ co.retired → ((p : ℕ) → (log_of' p).committed ≡ (log_of p).committed)
    → (co'.mode ≡ mode.Recovering → (v : ℕ) → IsTrue (has t.vertices v) → includes co'.dead (t.holders v) ≡ false)
    → LogsHold t places theta co log_of → LogsHold t places theta co' log_of'
logs-same t co co' log_of log_of' retired committed alive G = record {
  theta = G.theta;
  holders = λ v p there h. let k = G.holders v p there h in (k.0, ap (λ l. has l p) retired ∙ k.1);
  alive = alive;
  entries = λ p lt r. ap directory_in (committed p) ∙ G.entries p lt (was p r);
  edges = λ p lt r. ap edges_in (committed p) ∙ G.edges p lt (was p r);
  edges_once = λ p lt r. subst KeepsEachOnce (sym (committed p)) (G.edges_once p lt (was p r));
}
  where
    was : (p : ℕ) → has co'.retired p ≡ false → has co.retired p ≡ false
    was p r = sym (ap (λ l. has l p) retired) ∙ r

pub committed-same : {V A : Type 0} (c d : Cluster V A) → sets_of d.coordinator ≡ sets_of c.coordinator → ((p : ℕ) → effective_rows d p ≡ effective_rows c p) → ((p : ℕ) → effective_edges d p ≡ effective_edges c p)
    → ((p : ℕ) → (log d p).committed ≡ (log c p).committed) → IsCommittedSame c d
committed-same c d sets rows arcs logs = record {
  rows = rows;
  arcs = arcs;
  logs = logs;
  spares = ap (λ (s : Sets). s.4) sets;
  live = ap (λ (s : Sets). s.0) sets;
  dead = ap (λ (s : Sets). s.1) sets;
  retired = ap (λ (s : Sets). s.2) sets;
  reborn = ap (λ (s : Sets). s.3) sets;
}

-- neither the hosts nor the logs change
pub unmoved : {V A : Type 0} (c d : Cluster V A) → d.hosts ≡ c.hosts → d.logs ≡ c.logs → d.coordinator.commits ≡ c.coordinator.commits → sets_of d.coordinator ≡ sets_of c.coordinator → IsCommittedSame c d
unmoved c d hosts logs commits sets = committed-same c d sets (λ p i. option_map (effective (commits i)) (get_or (hosts i) p None)) (λ p i. option_map (effective_arcs (commits i)) (get_or (hosts i) p None))
    (λ p i. (log_at (logs i) p).committed)

-- one log is another
module _ (logs : List Log) (p : ℕ) (l : Log) (lt : p < length logs) where
  pub log-here : log_at (set logs p l) p ≡ l
  log-here = get_or-set_same logs p l empty_log lt

  pub log-elsewhere : (q : ℕ) → q ≢ p → log_at (set logs p l) q ≡ log_at logs q
  log-elsewhere q ne = get_or-set_other logs p q l empty_log ne

  -- with the same committed part
  pub committed-here : l.committed ≡ (log_at logs p).committed → (q : ℕ) → (log_at (set logs p l) q).committed ≡ (log_at logs q).committed
  committed-here same q = by_same q p
      (λ e. (λ i. (log_at (set logs p l) (e i)).committed) ∙ (ap (λ (l : Log). l.committed) log-here ∙ (same ∙ (λ i. (log_at logs (sym e i)).committed))))
      (λ ne. ap (λ (l : Log). l.committed) (log-elsewhere q ne))

-- the work of a host that differs in its inbox, in what it sent, appended and reported, and in its log
pub line-same : {V A : Type 0} (P : Program V A) (w : RebuildView) (want : ℕ) (t : Truth V) (co : Coordinator) (ready : List ℕ) (due p : ℕ) (h : Host V A) (inbox : List (Batch V A)) (sent : List ℕ) (appended reported : Bool) (l l' : Log)
    → (h.computed ≡ false → sent ≡ [])
    → (IsTrue h.computed → is_end h.stage ≡ false → IsTrue (list_any (λ q. not (has sent q)) (others co p)))
    → ((s : Stage) → IsTrue (has_stage (stages_of co.mode) s) → place_in s < progress h → HasNeeded (others co p) h.epoch inbox (needed (is_rebuild co.mode) s))
    → l'.appended ≡ (if appended then true_records P w want t p else []) → l'.torn ≡ []
    → (IsTrue reported → (progress h ≡ 5) × (IsTrue (is_rebuild co.mode) → IsTrue appended))
    → AtEpoch P w want t co p h l
    → AtEpoch P w want t (record co { ready = ready; due = due }) p (record h { inbox = inbox; sent = sent; appended = appended; reported = reported }) l'
line-same P w want t co ready due p h inbox sent appended reported l l' not_sent unsent_left needed tail not_torn done E = record {
  installed = E.installed;
  stage = E.stage;
  idle = E.idle;
  not_sent = not_sent;
  unsent_left = unsent_left;
  needed = needed;
  rows = E.rows;
  arcs = E.arcs;
  tail = tail;
  not_torn = not_torn;
  reported = done;
}
