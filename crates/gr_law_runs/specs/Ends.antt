-- What holds along every run from load.
use Rattle.std.specs.Prelude.{ℕ, ◌≡◌, List}
use Rattle.std.specs.List.{AllByRecursion as Each}
use Rattle.gr_base.specs.declared.records.Edge.{Edge}
use Rattle.gr_program.specs.Program.{Program}
use Rattle.gr_program.specs.ProgramLaws.{ProgramLaws}
use Rattle.gr_sched.specs.declared.event.Line.{Line}
use Rattle.gr_cluster.specs.Tables.{Cluster}
use Rattle.gr_cluster.specs.Load.{Setting, load}
use Rattle.gr_cluster.specs.GraphIn.{graph_of, graph_in}
use Rattle.gr_cluster.specs.Runs.{position_after}
use Rattle.gr_agree.specs.Accepted.{IsGraph, IsSetting, NamesPlacesAt}
use Rattle.gr_law_runs.specs.Events.{AgreesIn}

-- it agrees with a committed state of the graph, its logs say the graph, and the limit of rounds stays
pub record StaysInItsGraph {V A : Type 0} (P : Program V A) (es : List Edge) (vs : List ℕ) (rounds : ℕ) (c : Cluster V A) : Type 0 where
  pub agrees : AgreesIn P es vs c
  pub logs : graph_in c ≡ graph_of es vs
  pub limit : c.coordinator.limit ≡ rounds

-- after any number of steps of any schedule
abbrev pub EveryRunAgrees : (V A : Type 0) → Type 0
EveryRunAgrees V A =
    (P : Program V A) → ProgramLaws P → (s : Setting) (es : List Edge) (vs : List ℕ) → IsSetting s → IsGraph es vs
    → (ls : List Line) → Each NamesPlacesAt ls → (n : ℕ)
    → StaysInItsGraph P es vs s.limit (position_after P n (record { cluster = load P s es vs; lines = ls })).cluster
