-- What the work of a place in a round needs, by its host.
use Rattle.std.specs.Prelude.{ℕ, ◌≡◌, false, IsTrue, IsSome, List, Option}
use Rattle.gr_program.specs.Program.{Program}
use Rattle.gr_log.specs.Log.{Log}
use Rattle.gr_batch.specs.declared.batch.Batch.{Batch}
use Rattle.gr_batch.specs.Stages.{is_end}
use Rattle.gr_view.specs.declared.coordinator.Coordinator.{Coordinator}
use Rattle.gr_view.specs.declared.coordinator.Mode.TheVariants as mode
use Rattle.gr_rules.specs.Exchange.{unsent}
use Rattle.gr_rules.specs.Todo.{Todo}
use Rattle.gr_rules.specs.AtPlace.{due_count}
use Rattle.gr_round.specs.declared.view.RoundView.{RoundView}
use Rattle.gr_round.specs.Line.{is_of_round}
use Rattle.gr_round.specs.Needs.{RoundReady}
use Rattle.gr_round.specs.Party.{party_at}
use Rattle.gr_cluster.specs.Tables.{Host, Cluster}
use Rattle.gr_cluster.specs.Todo.{todo}
use Rattle.gr_law_work.specs.InRound.{MayAct}
use Rattle.gr_law_work.specs.InRebuild.{MayReport}
use Rattle.gr_core.specs.Steps.{line_of, copies_of}

-- the copies, the edges and the inbox of a host are fit for the work of a round
abbrev pub NeedsHold : {V A : Type 0} → Program V A → ℕ → RoundView → Host V A → Type 0
NeedsHold P p w h = RoundReady P (party_at p w (line_of h)) h.inbox (copies_of h) h.arcs

-- a computed stage of a host is still to be sent to one of the others
pub record MaySend {V A : Type 0} (others : List ℕ) (h : Host V A) : Type 0 where
  pub computed : IsTrue h.computed
  pub unfinished : is_end h.stage ≡ false
  pub left : IsSome (unsent others h.sent)

-- a place has installed every commit and adopted the epoch of a round, and has what its work there needs
pub record MayWork {V A : Type 0} (P : Program V A) (co : Coordinator) (p : ℕ) (h : Host V A) : Type 0 where
  pub running : co.mode ≡ mode.Running
  pub installed : h.installed ≡ co.commits
  pub now : h.epoch ≡ co.epoch
  pub stage : IsTrue (is_of_round h.stage)
  pub needs : MayAct P co p h
  pub report : todo co p h ≡ Todo.Report → MayReport co p (due_count p h.pending)

-- a cluster by its parts
abbrev pub cluster_of : {V A : Type 0} → List (Option (Host V A)) → List Log → List (Batch V A) → ℕ → Coordinator → ℕ → ℕ → ℕ → Cluster V A
cluster_of hosts logs flight serial co places losses theta = record {
  hosts = hosts;
  logs = logs;
  flight = flight;
  serial = serial;
  coordinator = co;
  places = places;
  losses = losses;
  theta = theta;
}
