-- What the invariant gives for the work of a place in a round.
use Rattle.std.specs.Prelude.{ℕ, IsTrue, ◌≡◌, Some, map}
use Rattle.gr_program.specs.Program.{Program}
use Rattle.gr_program.specs.ProgramLaws.{ProgramLaws}
use Rattle.gr_rows.specs.Layers.{vertex_of}
use Rattle.gr_view.specs.declared.coordinator.Coordinator.{Coordinator}
use Rattle.gr_view.specs.declared.coordinator.Mode.TheVariants as mode
use Rattle.gr_round.specs.Todo.{todo_in_round}
use Rattle.gr_low.specs.Sources.{SourcesReady}
use Rattle.gr_batch.specs.declared.stage.Stage.TheVariants as stage
use Rattle.gr_rules.specs.Inbox.{bodies}
use Rattle.gr_round.specs.Line.{has_new_values}
use Rattle.gr_round.specs.Needs.{ValuesFit, GathersFit, UpdatesFit, SignalsRise, CallsRise, NewValuesAreStaged}
use Rattle.gr_round.specs.Todo.{AwaitsSending}
use Rattle.gr_cluster.specs.Tables.{Host, Cluster, host}
use Rattle.gr_cluster.specs.Todo.{others, todo}
use Rattle.gr_cluster.specs.Work.{exchange_of}
use Rattle.gr_agree.specs.Truth.{Truth}
use Rattle.gr_agree.specs.Agree.{Agree}

-- the host of p has what the work of a place in a round needs
pub record MayAct {V A : Type 0} (P : Program V A) (co : Coordinator) (p : ℕ) (h : Host V A) : Type 0 where
  -- its copies and its edges
  pub sources : SourcesReady P h.stable h.arcs
  pub values : ValuesFit P h.stable
  -- what the other parties sent in the epoch
  pub gathers : GathersFit h.inbox co.epoch (others co p) P
  pub updates : UpdatesFit h.inbox co.epoch (others co p) h.stable
  pub signals : SignalsRise h.inbox co.epoch (others co p)
  pub calls : CallsRise h.inbox co.epoch (others co p)
  -- its pending copies are of the vertices of the stable ones
  pub pending : map vertex_of h.pending ≡ map vertex_of h.stable
  -- once its new values are computed they are staged
  pub staged : IsTrue (has_new_values (exchange_of h)) → NewValuesAreStaged P p h.stable h.arcs (bodies h.inbox co.epoch stage.Gather (others co p)) h.pending
  -- a stage that is computed and not passed is still to be sent to some party
  pub awaits : AwaitsSending (others co p) (exchange_of h)
  -- what it does next is what a place in a round does next
  pub next : todo co p h ≡ todo_in_round h.inbox h.epoch (others co p) (exchange_of h) h.reported

-- so it is in a round at each place that is up, has installed every commit and has adopted the epoch
abbrev pub APlaceMayAct : (V A : Type 0) → Type 0
APlaceMayAct V A =
    (P : Program V A) → ProgramLaws P → (t : Truth V) (c : Cluster V A) (p : ℕ) (h : Host V A) → Agree P t c → host c p ≡ Some h
    → c.coordinator.mode ≡ mode.Running → h.installed ≡ c.coordinator.commits → h.epoch ≡ c.coordinator.epoch → MayAct P c.coordinator p h
