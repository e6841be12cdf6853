-- The laws of the invariant: what each event makes of a cluster that agrees with a committed state. Every event falls under one of five.
use Rattle.std.specs.Prelude.{ℕ, ◌≡◌, ◌≢◌, ◌⊎◌, Bool, true, false, not, ◌&&◌, ◌==◌, IsTrue, List, [], Option, option_map}
use Rattle.gr_base.specs.declared.records.Edge.{Edge}
use Rattle.gr_base.specs.declared.records.NumberedEdge.{NumberedEdge}
use Rattle.gr_base.specs.Rising.{has}
use Rattle.gr_program.specs.declared.copy.VertexCopy.{VertexCopy}
use Rattle.gr_program.specs.Program.{Program}
use Rattle.gr_program.specs.ProgramLaws.{ProgramLaws}
use Rattle.gr_batch.specs.declared.outcome.Outcome.{Outcome}
use Rattle.gr_batch.specs.declared.outcome.Outcome.TheVariants as outcome
use Rattle.gr_sched.specs.declared.event.Event.{Event}
use Rattle.gr_sched.specs.declared.event.Event.TheVariants as event
use Rattle.gr_view.specs.declared.coordinator.Mode.TheVariants as mode
use Rattle.gr_view.specs.Modes.{is_round, is_rebuild}
use Rattle.gr_cluster.specs.Tables.{Cluster, host, is_up, log, effective, effective_arcs, view_of, wanted_in}
use Rattle.gr_cluster.specs.Load.{Setting, load}
use Rattle.gr_cluster.specs.GraphIn.{graph_of, graph_in}
use Rattle.gr_cluster.specs.Step.{lost_list, step}
use Rattle.gr_cluster.specs.Runs.{is_commit}
use Rattle.gr_agree.specs.Truth.{Truth}
use Rattle.gr_agree.specs.TrueRound.{next}
use Rattle.gr_agree.specs.Rebuilt.{rebuilt}
use Rattle.gr_agree.specs.Accepted.{IsGraph, IsSetting, NamesPlaces}
use Rattle.gr_agree.specs.FirstTruth.{first_truth}
use Rattle.gr_agree.specs.Agree.{Agree, Invariant}

abbrev pub is_crash : {V A : Type 0} → Outcome V A → Bool
is_crash (outcome.Crashed n) = true
is_crash _ = false

module _ {V A : Type 0} where
  abbrev pub effective_rows : Cluster V A → ℕ → Option (List (VertexCopy V))
  effective_rows c p = option_map (effective c.coordinator.commits) (host c p)

  abbrev pub effective_edges : Cluster V A → ℕ → Option (List NumberedEdge)
  effective_edges c p = option_map (effective_arcs c.coordinator.commits) (host c p)

  -- nothing that is committed has changed
  pub record IsCommittedSame (c d : Cluster V A) : Type 0 where
    pub rows : (p : ℕ) → effective_rows d p ≡ effective_rows c p
    pub arcs : (p : ℕ) → effective_edges d p ≡ effective_edges c p
    pub logs : (p : ℕ) → (log d p).committed ≡ (log c p).committed
    pub spares : d.coordinator.spares ≡ c.coordinator.spares
    pub live : d.coordinator.live ≡ c.coordinator.live
    pub dead : d.coordinator.dead ≡ c.coordinator.dead
    pub retired : d.coordinator.retired ≡ c.coordinator.retired
    pub reborn : d.coordinator.reborn ≡ c.coordinator.reborn

  -- nor has it where a place is live
  pub record IsLiveSame (c d : Cluster V A) : Type 0 where
    pub rows : (p : ℕ) → IsTrue (has d.coordinator.live p) → effective_rows d p ≡ effective_rows c p
    pub arcs : (p : ℕ) → IsTrue (has d.coordinator.live p) → effective_edges d p ≡ effective_edges c p
    pub logs : (p : ℕ) → (log d p).committed ≡ (log c p).committed

  -- after a failure some vertex is found lost, and the run ends
  pub record EndsLost (c d : Cluster V A) : Type 0 where
    pub failed : c.coordinator.mode ≡ mode.Failed
    pub some : lost_list c ≢ []
    pub ended : d.coordinator.mode ≡ mode.Lost

  -- the mode stays, except after a recovery that ends the run
  abbrev pub IsModeSame : Event → Cluster V A → Cluster V A → Type 0
  IsModeSame (event.Recover ps) c d = (d.coordinator.mode ≡ c.coordinator.mode) ⊎ EndsLost c d
  IsModeSame _ c d = d.coordinator.mode ≡ c.coordinator.mode

-- an event that is no crash and leaves the epoch as it is changes nothing that is committed, and keeps the mode and the invariant
abbrev pub KeepsInsideAnEpoch : (V A : Type 0) → Type 0
KeepsInsideAnEpoch V A =
    (P : Program V A) → ProgramLaws P → (t : Truth V) (c : Cluster V A) (e : Event) → NamesPlaces e → Agree P t c
    → is_crash (step P c e).1 ≡ false → (step P c e).0.coordinator.epoch ≡ c.coordinator.epoch
    → IsCommittedSame c (step P c e).0 × IsModeSame e c (step P c e).0 × Agree P t (step P c e).0

-- a crash takes one place from those that are up, and keeps the invariant
abbrev pub KeepsAfterLoss : (V A : Type 0) → Type 0
KeepsAfterLoss V A =
    (P : Program V A) → ProgramLaws P → (t : Truth V) (c : Cluster V A) (p n : ℕ) → Agree P t c → IsTrue (is_crash (step P c (event.Crash p n)).1)
    → ((q : ℕ) → is_up (step P c (event.Crash p n)).0 q ≡ is_up c q && not (q == p)) × Agree P t (step P c (event.Crash p n)).0

-- an event that opens a new epoch without a commit changes nothing that is committed at live places, and keeps the invariant
abbrev pub KeepsInANewEpoch : (V A : Type 0) → Type 0
KeepsInANewEpoch V A =
    (P : Program V A) → ProgramLaws P → (t : Truth V) (c : Cluster V A) (e : Event) → NamesPlaces e → Agree P t c
    → is_commit (step P c e).1 ≡ false → (step P c e).0.coordinator.epoch ≢ c.coordinator.epoch
    → IsLiveSame c (step P c e).0 × Agree P t (step P c e).0

-- the commit of a round gives the invariant for the committed state after the round
abbrev pub CommitsARound : (V A : Type 0) → Type 0
CommitsARound V A =
    (P : Program V A) → ProgramLaws P → (t : Truth V) (c : Cluster V A) (e : Event) → Agree P t c
    → IsTrue (is_commit (step P c e).1) → IsTrue (is_round c.coordinator.mode) → Agree P (next P t) (step P c e).0

-- the commit of a rebuild gives it for the same values and active vertices, with the new masters and holders
abbrev pub CommitsARebuild : (V A : Type 0) → Type 0
CommitsARebuild V A =
    (P : Program V A) → ProgramLaws P → (t : Truth V) (c : Cluster V A) (e : Event) → Agree P t c
    → IsTrue (is_commit (step P c e).1) → IsTrue (is_rebuild c.coordinator.mode) → Agree P (rebuilt P (view_of P c) (wanted_in P c) t) (step P c e).0

-- a loaded cluster meets the invariant, and its logs say the graph
abbrev pub HoldsAtLoad : (V A : Type 0) → Type 0
HoldsAtLoad V A =
    (P : Program V A) → ProgramLaws P → (s : Setting) (es : List Edge) (vs : List ℕ) → IsSetting s → IsGraph es vs
    → Agree P (first_truth P s es vs) (load P s es vs) × (graph_in (load P s es vs) ≡ graph_of es vs)

-- every event keeps the invariant, and the graph that the logs say
abbrev pub HoldsAfterEveryEvent : (V A : Type 0) → Type 0
HoldsAfterEveryEvent V A =
    (P : Program V A) → ProgramLaws P → (c : Cluster V A) (e : Event) → NamesPlaces e → Invariant P c
    → Invariant P (step P c e).0 × (graph_in (step P c e).0 ≡ graph_in c)
