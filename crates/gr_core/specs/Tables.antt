-- What contracts see of a host and of a cluster.
use Rattle.std.specs.Prelude.{ℕ, Bool, ◌≡◌, ◌==◌, List, Option, IfSome, find}
use Rattle.gr_program.specs.declared.copy.VertexCopy.{VertexCopy}
use Rattle.gr_program.specs.Program.{Program}
use Rattle.gr_rows.specs.Layers.{CopyLayers}
use Rattle.gr_arcs.specs.Layers.{EdgeLayers}
use Rattle.gr_batch.specs.declared.batch.Batch.{Batch}
use Rattle.gr_round.specs.Line.{RoundLine}
use Rattle.gr_copies.specs.declared.view.RebuildView.{RebuildView}
use Rattle.gr_log.specs.Log.{Log}
use Rattle.gr_rules.specs.Taken.{Ends}
use Rattle.gr_migrate.specs.Ends.{retired_edges}
use Rattle.gr_cluster.specs.Tables.{Host, Cluster, effective, view_of}
use Rattle.gr_cluster.specs.Ending.{effective_at}
use Rattle.gr_agree.specs.Truth.{Truth}
use Rattle.gr_agree.specs.Agree.{Agree}
use Rattle.gr_view.specs.Decisions.{parties}
use Rattle.gr_signal.specs.declared.target.Target.{Target}
use Rattle.gr_core.specs.Resting.{AreAtRest}
use Rattle.gr_core.specs.Targets.{TargetsFit}

-- a host by its two layers of copies and edges, its inbox, its counts, how far it is, and whether it has appended to its log
abbrev pub host_of : {V A : Type 0} → CopyLayers V → EdgeLayers → List (Batch V A) → ℕ → ℕ → RoundLine → Bool → Host V A
host_of rows arcs inbox epoch installed l appended = record {
  stable = rows.stable;
  pending = rows.pending;
  arcs = arcs.stable;
  pending_arcs = arcs.pending;
  inbox = inbox;
  epoch = epoch;
  installed = installed;
  stage = l.exchange.stage;
  computed = l.exchange.computed;
  sent = l.exchange.sent;
  appended = appended;
  reported = l.reported;
}

-- a cluster, and the program that it runs
pub record Tables (P V A : Type 0) : Type 0 where
  pub program : P
  pub cluster : Cluster V A

-- what a cluster keeps: it agrees with some committed state
pub record Agrees {V A : Type 0} (P : Program V A) (c : Cluster V A) : Type 0 where
  pub state : Truth V
  pub holds : Agree P state c

-- the edges of places that retire, if they are kept, are those in their logs
abbrev pub RetiredFit : RebuildView → List Log → Option (List Ends) → Type 0
RetiredFit w logs retired = IfSome retired (λ edges. edges ≡ retired_edges w logs)

-- and the targets that it keeps are those of their places, and the places that it takes for resting rest
pub record Keeps {V A : Type 0} (P : Program V A) (c : Cluster V A) (kept : List (Option (List Target))) (at_rest : List ℕ) (edges : Option (List Ends)) : Type 0 where
  pub agrees : Agrees P c
  pub targets : TargetsFit P c.coordinator.epoch (parties c.coordinator) c.hosts kept
  pub resting : AreAtRest c at_rest
  pub retired : RetiredFit (view_of P c) c.logs edges

module _ {V A : Type 0} where
  -- the copy of a vertex among those that a host shows
  abbrev pub copy_in : ℕ → Host V A → ℕ → Option (VertexCopy V)
  copy_in commits h v = find (λ r. r.vertex == v) (effective commits h)

  -- the effective copy of a vertex at a place
  abbrev pub copy_at : Cluster V A → ℕ → ℕ → Option (VertexCopy V)
  copy_at c p v = find (λ r. r.vertex == v) (effective_at c p)
