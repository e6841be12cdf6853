-- The graph that the committed logs of a cluster say.
use Rattle.std.specs.Prelude.{ℕ, List, map, flat_map}
use Rattle.gr_base.specs.declared.records.Edge.{Edge}
use Rattle.gr_base.specs.Degrees.{indegree, outdegree}
use Rattle.gr_log.specs.declared.record.LogRecord.{LogRecord}
use Rattle.gr_log.specs.Directory.{edges_in}
use Rattle.gr_cluster.specs.Tables.{Cluster, log}
use Rattle.gr_cluster.specs.Directory.{unretired, directory_of}

-- a vertex with its degrees
pub record Degrees : Type 0 where
  pub vertex : ℕ
  pub indeg : ℕ
  pub outdeg : ℕ

pub record LoggedGraph : Type 0 where
  pub vertices : List Degrees
  pub edges : List Edge

-- the graph of some edges and vertices
abbrev pub graph_of : List Edge → List ℕ → LoggedGraph
graph_of es vs = record { vertices = map (λ v. record { vertex = v; indeg = indegree es v; outdeg = outdegree es v }) vs; edges = es }

module _ {V A : Type 0} where
  -- the committed records of the places that are not retired
  abbrev pub logged : Cluster V A → List LogRecord
  logged c = flat_map (λ p. (log c p).committed) (unretired c)

  -- their vertices with the degrees, and all edges by number
  unfoldable pub graph_in : Cluster V A → LoggedGraph
  graph_in c = record {
    vertices = map (λ e. record { vertex = e.vertex; indeg = e.indeg; outdeg = e.outdeg }) (directory_of c);
    edges = map (λ a. a.edge) (edges_in (logged c));
  }
