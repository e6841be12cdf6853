-- What every event keeps, but for what brings a rebuild of copies on that is open.
use Rattle.std.specs.Prelude.{ℕ, ◌≡◌, Bool, true, false, IsTrue, List}
use Rattle.gr_base.specs.declared.records.Edge.{Edge}
use Rattle.gr_program.specs.Program.{Program}
use Rattle.gr_program.specs.ProgramLaws.{ProgramLaws}
use Rattle.gr_sched.specs.declared.event.Event.{Event}
use Rattle.gr_sched.specs.declared.event.Event.TheVariants as event
use Rattle.gr_view.specs.Modes.{is_rebuild}
use Rattle.gr_cluster.specs.Tables.{Cluster}
use Rattle.gr_cluster.specs.Step.{step}
use Rattle.gr_agree.specs.Truth.{Truth, edge_list}
use Rattle.gr_agree.specs.Agree.{Agree}
use Rattle.gr_agree.specs.Accepted.{NamesPlaces}

-- a cluster agrees with a committed state of this graph
pub record AgreesIn {V A : Type 0} (P : Program V A) (es : List Edge) (vs : List ℕ) (c : Cluster V A) : Type 0 where
  pub state : Truth V
  pub agrees : Agree P state c
  pub edges : edge_list state ≡ es
  pub vertices : state.vertices ≡ vs

-- what brings a rebuild on that is open: the works of places, and barriers
abbrev pub drives : Event → Bool
drives (event.Work p) = true
drives event.Barrier = true
drives _ = false

-- Each event but those leaves a cluster that agrees with a committed state of the same graph, and the limit of rounds. Where no rebuild
-- of copies is open, so do all events.
abbrev pub EventsKeepButInARebuild : (V A : Type 0) → Type 0
EventsKeepButInARebuild V A =
    (P : Program V A) → ProgramLaws P → (t : Truth V) (c : Cluster V A) (e : Event) → NamesPlaces e → Agree P t c
    → (IsTrue (is_rebuild c.coordinator.mode) → drives e ≡ false)
    → AgreesIn P (edge_list t) t.vertices (step P c e).0 × ((step P c e).0.coordinator.limit ≡ c.coordinator.limit)
