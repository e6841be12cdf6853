-- What the invariant gives for the work of a place in a recovery or a repair.
use Rattle.std.specs.Prelude.{ℕ, ◌≡◌, ◌<◌, ◌≤◌, ◌+◌, ◌^◌, true, false, not, IsTrue, [], Some}
use Rattle.std.specs.List.{All}
use Rattle.gr_base.specs.Rising.{has}
use Rattle.gr_program.specs.declared.copy.VertexCopy.{VertexCopy}
use Rattle.gr_program.specs.Program.{Program}
use Rattle.gr_view.specs.declared.coordinator.Coordinator.{Coordinator}
use Rattle.gr_view.specs.declared.coordinator.Mode.TheVariants as mode
use Rattle.gr_view.specs.Modes.{is_rebuild}
use Rattle.gr_view.specs.Decisions.{parties}
use Rattle.gr_rules.specs.Rows.{entry}
use Rattle.gr_rules.specs.Todo.{Todo}
use Rattle.gr_rules.specs.Grants.{wanted, grant_body}
use Rattle.gr_rules.specs.AtPlace.{due_count}
use Rattle.gr_round.specs.Line.{is_of_rebuild}
use Rattle.gr_round.specs.Todo.{todo_in_rebuild, AwaitsSending}
use Rattle.gr_migrate.specs.Ends.{KnowsMaster, MastersKnown}
use Rattle.gr_migrate.specs.Askers.{AreAskers}
use Rattle.gr_rebuild.specs.Asked.{asks_in}
use Rattle.gr_rebuild.specs.Granted.{RepairReady}
use Rattle.gr_rebuild.specs.Ending.{IsAllCommitted}
use Rattle.gr_cluster.specs.Tables.{Host, Cluster, host, log, view_of}
use Rattle.gr_cluster.specs.Todo.{others, todo}
use Rattle.gr_cluster.specs.Work.{exchange_of}
use Rattle.gr_cluster.specs.Place.{asked_for, granted_to, granted}
use Rattle.gr_agree.specs.Truth.{Truth}
use Rattle.gr_agree.specs.Agree.{Agree}

-- an id has 32 bits
abbrev pub HasId : {V : Type 0} → VertexCopy V → Type 0
HasId c = c.vertex < 2 ^ 32

-- In a repair nobody is dead, the holders of each copy are live, and nobody asks. So a place grants for the copies that are too few alone.
pub record MayRepair {V A : Type 0} (P : Program V A) (c : Cluster V A) (p : ℕ) (h : Host V A) : Type 0 where
  pub ready : RepairReady h.inbox h.epoch (others c.coordinator p) (view_of P c) h.stable
  pub grants : (q : ℕ) → granted_to P c p h q ≡ grant_body (view_of P c) (wanted true (view_of P c)) p (λ _. []) h.stable q

-- the coordinator has room for the report of a party that has not reported
pub record MayReport (co : Coordinator) (p due : ℕ) : Type 0 where
  pub party : IsTrue (has (parties co) p)
  pub first : IsTrue (not (has co.ready p))
  pub sum : co.due + due < 2 ^ 32

-- The host of p has what the work of a place in a rebuild needs, where it is up, has installed every commit and has adopted the epoch.
pub record MayRebuild {V A : Type 0} (P : Program V A) (c : Cluster V A) (p : ℕ) (h : Host V A) : Type 0 where
  -- it is one of the places, which are few
  pub place : p < c.places
  pub places : c.places ≤ 64
  -- the logs of the places that retire
  pub masters : MastersKnown (view_of P c) c.logs
  -- its copies
  pub holders : All (λ k. KnowsMaster (entry k)) h.stable
  pub ids : All HasId h.stable
  -- the asks that the other parties sent in the epoch
  pub askers : AreAskers (asks_in h.inbox h.epoch (others c.coordinator p)) (asked_for P c p h)
  pub few_askers : All (λ a. a.asker < 64) (asks_in h.inbox h.epoch (others c.coordinator p))
  -- in a recovery it grants by the dead and by those asks alone, in a repair for the copies that are too few
  pub recovery : c.coordinator.mode ≡ mode.Recovering → (q : ℕ) → granted_to P c p h q ≡ grant_body (view_of P c) 0 p (asked_for P c p h) h.stable q
  pub repair : c.coordinator.mode ≡ mode.Repairing → MayRepair P c p h
  -- until the end is computed nothing is staged
  pub same_layers : h.computed ≡ false → (h.pending ≡ h.stable) × (h.pending_arcs ≡ h.arcs)
  -- each vertex that is granted to it has 32 bits
  pub granted_ids : All HasId (granted P c p h)
  -- its line: a stage that is computed and not passed is still to be sent to some party
  pub stage : IsTrue (is_of_rebuild h.stage)
  pub awaits : AwaitsSending (others c.coordinator p) (exchange_of h)
  pub next : todo c.coordinator p h ≡ todo_in_rebuild h.inbox h.epoch (others c.coordinator p) (exchange_of h) h.appended h.reported
  -- where it is to append, all of its log is committed, and where it is to report, there is room for it
  pub append : todo c.coordinator p h ≡ Todo.Append → IsAllCommitted (log c p)
  pub report : todo c.coordinator p h ≡ Todo.Report → MayReport c.coordinator p (due_count p h.pending)

-- so it is in a rebuild at each place that is up, has installed every commit and has adopted the epoch
abbrev pub APlaceMayRebuild : (V A : Type 0) → Type 0
APlaceMayRebuild V A =
    (P : Program V A) (t : Truth V) (c : Cluster V A) (p : ℕ) (h : Host V A) → Agree P t c → IsTrue (is_rebuild c.coordinator.mode) → host c p ≡ Some h
    → h.installed ≡ c.coordinator.commits → h.epoch ≡ c.coordinator.epoch → MayRebuild P c p h
