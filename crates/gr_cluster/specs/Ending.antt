-- How a run ends, and what it prints.
use Rattle.std.specs.Prelude.{ℕ, ◌==◌, List, [], Some, None, flat_map, option_map}
use Rattle.std.specs.List.{filter, filter_map}
use Rattle.gr_program.specs.declared.copy.VertexCopy.{VertexCopy}
use Rattle.gr_program.specs.declared.program.ValueOf.{ValueOf}
use Rattle.gr_program.specs.Result.{done_text}
use Rattle.gr_view.specs.declared.coordinator.Mode.{Mode}
use Rattle.gr_view.specs.declared.coordinator.Mode.TheVariants as mode
use Rattle.gr_log.specs.Directory.{with_items}
use Rattle.gr_base.specs.Places.{below}
use Rattle.gr_cluster.specs.Tables.{Cluster, host, effective}
use Rattle.gr_cluster.specs.Step.{lost_list}
use Rattle.gr_report.specs.Endings.{lost_text, unfinished_text}

-- done, with vertices lost, or early, after so many rounds
pub data Ending : Type 0 where
  Done : Ending
  Lost : List ℕ → Ending
  Early : ℕ → Ending

module _ {V A : Type 0} where
  abbrev pub ending_by : Cluster V A → Mode → Ending
  ending_by c mode.Done = Ending.Done
  ending_by c mode.Lost = Ending.Lost (lost_list c)
  ending_by c _ = Ending.Early c.coordinator.round

  -- how a run with this last cluster ends
  abbrev pub ending_of : Cluster V A → Ending
  ending_of c = ending_by c c.coordinator.mode

  abbrev pub effective_at : Cluster V A → ℕ → List (VertexCopy V)
  effective_at c p = elim (host c p) [ None ↦ [] | Some h ↦ effective c.coordinator.commits h ]

  -- the values of the copies that a place masters
  abbrev pub values_at : Cluster V A → ℕ → List (ValueOf V)
  values_at c p =
      filter_map (λ r. option_map (λ x. record { vertex = r.vertex; value = x }) r.value) (filter (λ r. r.master == p) (effective_at c p))

  -- the masters' effective values, by rising vertex
  unfoldable pub results_of : Cluster V A → List (ValueOf V)
  results_of c = with_items (λ x. x.vertex) (flat_map (values_at c) (below c.places)) []

  -- what is printed of a run that ends so
  abbrev pub ending_text : (V → List ℕ) → Cluster V A → Ending → List ℕ
  ending_text text c Ending.Done = done_text text c.coordinator.round (results_of c)
  ending_text text c (Ending.Lost vs) = lost_text vs
  ending_text text c (Ending.Early r) = unfinished_text r
