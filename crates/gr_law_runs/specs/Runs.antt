-- Runs in which no place fails and nothing is dropped on purpose: works, deliveries, drops and barriers, in any order.
use Rattle.std.specs.Prelude.{ℕ, ◌≡◌, IsTrue, List, [], ◌∷◌, ◌++◌}
use Rattle.std.specs.List.{AllByRecursion as Each}
use Rattle.gr_base.specs.declared.records.Edge.{Edge}
use Rattle.gr_program.specs.Program.{Program}
use Rattle.gr_program.specs.ProgramLaws.{ProgramLaws}
use Rattle.gr_program.specs.Rounds.{last_round}
use Rattle.gr_program.specs.Result.{values_after}
use Rattle.gr_sched.specs.declared.event.Event.{Event}
use Rattle.gr_sched.specs.declared.event.Line.{Line}
use Rattle.gr_sched.specs.declared.event.Line.TheVariants as line
use Rattle.gr_view.specs.declared.coordinator.Mode.TheVariants as mode
use Rattle.gr_view.specs.Modes.{is_over}
use Rattle.gr_cluster.specs.Tables.{Cluster}
use Rattle.gr_cluster.specs.Load.{Setting, load}
use Rattle.gr_cluster.specs.Step.{step}
use Rattle.gr_cluster.specs.Runs.{position_after, IsWhole}
use Rattle.gr_cluster.specs.Ending.{results_of}
use Rattle.gr_agree.specs.Accepted.{IsGraph, IsSetting}
use Rattle.gr_law_runs.specs.Undisturbed.{is_plain, is_plain_line}

-- the cluster after some events
abbrev pub after_events : {V A : Type 0} → Program V A → List Event → Cluster V A → Cluster V A
after_events P [] c = c
after_events P (e ∷ es) c = after_events P es (step P c e).0

-- where such a run is done, it is done at the last round of the graph that is not cut, and its masters have the values of that round
pub record HasResult {V A : Type 0} (P : Program V A) (es : List Edge) (vs : List ℕ) (limit : ℕ) (c : Cluster V A) : Type 0 where
  pub round : c.coordinator.round ≡ last_round P es vs limit
  pub values : results_of c ≡ values_after P es vs (last_round P es vs limit)

abbrev pub PlainRunsGiveTheResult : (V A : Type 0) → Type 0
PlainRunsGiveTheResult V A =
    (P : Program V A) → ProgramLaws P → (s : Setting) (es : List Edge) (vs : List ℕ) → IsSetting s → IsGraph es vs
    → (events : List Event) → Each (λ e. IsTrue (is_plain e)) events
    → (after_events P events (load P s es vs)).coordinator.mode ≡ mode.Done → HasResult P es vs s.limit (after_events P events (load P s es vs))

-- the cluster that a schedule leads to from load by its first n steps
abbrev pub scheduled : {V A : Type 0} → Program V A → Setting → List Edge → List ℕ → List Line → ℕ → Cluster V A
scheduled P s es vs ls n = (position_after P n (record { cluster = load P s es vs; lines = ls })).cluster

-- so too where the events are those of a schedule, with `settle` and `finish` in it
abbrev pub PlainSchedulesGiveTheResult : (V A : Type 0) → Type 0
PlainSchedulesGiveTheResult V A =
    (P : Program V A) → ProgramLaws P → (s : Setting) (es : List Edge) (vs : List ℕ) → IsSetting s → IsGraph es vs
    → (ls : List Line) → Each (λ l. IsTrue (is_plain_line l)) ls → (n : ℕ)
    → (scheduled P s es vs ls n).coordinator.mode ≡ mode.Done → HasResult P es vs s.limit (scheduled P s es vs ls n)

-- a whole run whose last line is `finish` is over, whatever its other lines are
abbrev pub FinishIsOver : (V A : Type 0) → Type 0
FinishIsOver V A =
    (P : Program V A) (c : Cluster V A) (before : List Line) (n : ℕ)
    → let s = position_after P n (record { cluster = c; lines = before ++ line.Finish ∷ [] }) in
    IsWhole s → IsTrue (is_over s.cluster.coordinator.mode)
