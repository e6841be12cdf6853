-- A cluster that nothing disturbs: rounds go on or are done, and every place is up.
use Rattle.std.specs.Prelude.{ℕ, ◌≡◌, Bool, true, false, IsTrue, List, []}
use Rattle.gr_base.specs.declared.records.Edge.{Edge}
use Rattle.gr_base.specs.Rising.{has}
use Rattle.gr_program.specs.Program.{Program}
use Rattle.gr_program.specs.ProgramLaws.{ProgramLaws}
use Rattle.gr_sched.specs.declared.event.Event.{Event}
use Rattle.gr_sched.specs.declared.event.Event.TheVariants as event
use Rattle.gr_sched.specs.declared.event.Line.{Line}
use Rattle.gr_sched.specs.declared.event.Line.TheVariants as line
use Rattle.gr_view.specs.declared.coordinator.Mode.{Mode}
use Rattle.gr_view.specs.declared.coordinator.Mode.TheVariants as mode
use Rattle.gr_view.specs.Decisions.{parties}
use Rattle.gr_cluster.specs.Tables.{Cluster, is_up}
use Rattle.gr_cluster.specs.Step.{step}
use Rattle.gr_agree.specs.Truth.{Truth, edge_list}
use Rattle.gr_agree.specs.Agree.{Agree}

-- an event of a cluster that works undisturbed
abbrev pub is_plain : Event → Bool
is_plain (event.Work p) = true
is_plain (event.Deliver i) = true
is_plain (event.Discarded i) = true
is_plain event.Barrier = true
is_plain _ = false

-- and a line of such a schedule
abbrev pub is_plain_line : Line → Bool
is_plain_line (line.Step e) = is_plain e
is_plain_line _ = true

-- rounds go on, or are done
abbrev pub is_undisturbed : Mode → Bool
is_undisturbed mode.Running = true
is_undisturbed mode.Done = true
is_undisturbed _ = false

-- it agrees with a committed state, no place has ever left, and each place that takes part is up
pub record Undisturbed {V A : Type 0} (P : Program V A) (t : Truth V) (c : Cluster V A) : Type 0 where
  pub agrees : Agree P t c
  pub mode : IsTrue (is_undisturbed c.coordinator.mode)
  pub none_retired : c.coordinator.retired ≡ []
  pub all_up : (p : ℕ) → IsTrue (has (parties c.coordinator) p) → IsTrue (is_up c p)

-- it is undisturbed in a committed state of this graph
pub record UndisturbedIn {V A : Type 0} (P : Program V A) (es : List Edge) (vs : List ℕ) (c : Cluster V A) : Type 0 where
  pub state : Truth V
  pub holds : Undisturbed P state c
  pub edges : edge_list state ≡ es
  pub vertices : state.vertices ≡ vs

-- works, deliveries, drops and barriers disturb nothing, and leave the graph and the limit of rounds as they are
abbrev pub PlainEventsDisturbNothing : (V A : Type 0) → Type 0
PlainEventsDisturbNothing V A =
    (P : Program V A) → ProgramLaws P → (t : Truth V) (c : Cluster V A) (e : Event) → IsTrue (is_plain e) → Undisturbed P t c
    → UndisturbedIn P (edge_list t) t.vertices (step P c e).0 × ((step P c e).0.coordinator.limit ≡ c.coordinator.limit)

-- it is undisturbed in some committed state
abbrev pub RunsUndisturbed : {V A : Type 0} → Program V A → Cluster V A → Type 0
RunsUndisturbed {V} P c = (t : Truth V) × Undisturbed P t c
