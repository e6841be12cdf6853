-- The cluster at load.
use Rattle.std.specs.Prelude.{ℕ, true, false, not, ◌&&◌, ◌==◌, nat_lt, List, [], Option, Some, None, map, length, if◌then◌else◌}
use Rattle.std.specs.List.{filter}
use Rattle.gr_base.specs.declared.records.Edge.{Edge}
use Rattle.gr_base.specs.declared.records.NumberedEdge.{NumberedEdge}
use Rattle.gr_base.specs.Degrees.{indegree, outdegree}
use Rattle.gr_base.specs.Rising.{has}
use Rattle.gr_base.specs.Places.{below}
use Rattle.gr_program.specs.declared.copy.VertexCopy.{VertexCopy}
use Rattle.gr_program.specs.Program.{Program}
use Rattle.gr_cut.specs.Cut.{home, edges_at_load}
use Rattle.gr_copies.specs.Holders.{first_holders}
use Rattle.gr_log.specs.Log.{Log, log_of}
use Rattle.gr_batch.specs.declared.stage.Stage.{Stage}
use Rattle.gr_batch.specs.declared.stage.Stage.TheVariants as stage
use Rattle.gr_view.specs.Decisions.{first_coordinator}
use Rattle.gr_rules.specs.Grants.{records_after}
use Rattle.gr_cluster.specs.Tables.{Host, Cluster}

-- what of a job the cluster takes
pub record Setting : Type 0 where
  pub places : ℕ
  pub spares : ℕ
  pub losses : ℕ
  pub theta : ℕ
  pub limit : ℕ

-- a host that has computed nothing in its epoch: both layers are the same, and the inbox is empty
abbrev pub fresh_host : {V A : Type 0} → List (VertexCopy V) → List NumberedEdge → ℕ → ℕ → Stage → Host V A
fresh_host rows arcs epoch installed s = record {
  stable = rows;
  pending = rows;
  arcs = arcs;
  pending_arcs = arcs;
  inbox = [];
  epoch = epoch;
  installed = installed;
  stage = s;
  computed = false;
  sent = [];
  appended = false;
  reported = false;
}

-- a program, a setting, the edges of a graph, and its vertices, rising
module _ {V A : Type 0} (P : Program V A) (s : Setting) (es : List Edge) (vs : List ℕ) where
  -- a mirror of a vertex without readers holds no value under a forgetful program
  abbrev pub first_value : ℕ → ℕ → Option V
  first_value p v =
      if P.forgetful && ((outdegree es v == 0) && not (home s.places v == p)) then None else Some (P.start v (indegree es v) (outdegree es v))

  -- every vertex is due
  abbrev pub first_copy : ℕ → ℕ → VertexCopy V
  first_copy p v = record {
    vertex = v;
    indeg = indegree es v;
    outdeg = outdegree es v;
    master = home s.places v;
    holders = first_holders s.places s.theta s.losses es v;
    value = first_value p v;
    due = true;
  }

  -- a copy of each vertex that the place holds, and the edges that stand there
  unfoldable pub first_rows : ℕ → List (VertexCopy V)
  first_rows p = map (first_copy p) (filter (λ v. has (first_holders s.places s.theta s.losses es v) p) vs)

  unfoldable pub first_arcs : ℕ → List NumberedEdge
  first_arcs p = edges_at_load s.places s.theta es p

  abbrev pub first_host : ℕ → Option (Host V A)
  first_host p = Some (fresh_host (first_rows p) (first_arcs p) 0 0 stage.Gather)

  -- the logs say the cut, and all of it is committed
  abbrev pub first_log : ℕ → Log
  first_log p = log_of (records_after (first_rows p) (first_arcs p))

  unfoldable pub load : Cluster V A
  load = record {
    hosts = map first_host (below s.places);
    logs = map first_log (below s.places);
    flight = [];
    serial = 0;
    coordinator = first_coordinator s.places s.spares s.limit (nat_lt 0 (length vs));
    places = s.places;
    losses = s.losses;
    theta = s.theta;
  }
