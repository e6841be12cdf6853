-- Which graphs, jobs and schedules are accepted.
use Rattle.std.specs.Prelude.{ℕ, ◌<◌, ◌≤◌, ◌^◌, IsTrue, List, length, ⊤}
use Rattle.std.specs.List.{AllByRecursion as Each}
use Rattle.gr_base.specs.declared.records.Edge.{Edge}
use Rattle.gr_base.specs.Rising.{RisesBy, has}
use Rattle.gr_base.specs.Places.{IsPlaces}
use Rattle.gr_sched.specs.declared.event.Event.{Event}
use Rattle.gr_sched.specs.declared.event.Event.TheVariants as event
use Rattle.gr_sched.specs.declared.event.Line.{Line}
use Rattle.gr_sched.specs.declared.event.Line.TheVariants as line
use Rattle.gr_cluster.specs.Load.{Setting}

-- the edges and the vertices of a graph, within the limits
pub record IsGraph (es : List Edge) (vs : List ℕ) : Type 0 where
  pub rise : RisesBy (λ v. v) vs
  pub ids : Each (λ v. v < 2 ^ 32) vs
  pub sources : Each (λ e. IsTrue (has vs e.src)) es
  pub targets : Each (λ e. IsTrue (has vs e.dst)) es
  pub few_vertices : length vs ≤ 1048576
  pub few_edges : length es ≤ 4194304

-- the ranges of a job
pub record IsSetting (s : Setting) : Type 0 where
  pub some_place : 1 ≤ s.places
  pub few_places : s.places ≤ 64
  pub spares : s.spares ≤ 64
  pub losses : s.losses ≤ 7
  pub theta : s.theta < 2 ^ 32
  pub some_round : 1 ≤ s.limit
  pub few_rounds : s.limit ≤ 10000

-- the places that an event names are a set
abbrev pub NamesPlaces : Event → Type 0
NamesPlaces (event.Recover ps) = IsPlaces ps
NamesPlaces _ = ⊤

-- the places that the lines of a schedule name are sets
abbrev pub NamesPlacesAt : Line → Type 0
NamesPlacesAt (line.Step e) = NamesPlaces e
NamesPlacesAt _ = ⊤
