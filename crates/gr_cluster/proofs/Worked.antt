-- Single steps and small facts of the cluster, by computation.
use Rattle.std.proofs.Common.{◌≡◌, ℕ, List, [], ◌∷◌, refl, true, false, map}
use Rattle.std.specs.Prelude.{Some, None, Option}
use Rattle.gr_base.specs.declared.records.NumberedEdge.{NumberedEdge}
use Rattle.gr_program.specs.declared.copy.VertexCopy.{VertexCopy}
use Rattle.gr_cut.proofs.Graphs.{edge, triangle}
use Rattle.gr_copies.specs.Holders.{first_holders}
use Rattle.gr_log.specs.Log.{empty_log}
use Rattle.gr_log.specs.Directory.{directory_in, edges_in}
use Rattle.gr_batch.specs.declared.batch.Batch.{Batch}
use Rattle.gr_batch.specs.declared.body.Body.TheVariants as body
use Rattle.gr_batch.specs.declared.stage.Stage.TheVariants as stage
use Rattle.gr_batch.specs.declared.outcome.Fate.TheVariants as fate
use Rattle.gr_batch.specs.declared.outcome.Outcome.TheVariants as outcome
use Rattle.gr_sched.specs.declared.event.Event.TheVariants as event
use Rattle.gr_sched.specs.declared.event.Line.TheVariants as line
use Rattle.gr_view.specs.Decisions.{first_coordinator}
use Rattle.gr_rules.specs.Grants.{records_after}
use Rattle.gr_rules.proofs.Programs.{shortest, in_degree, infinite}
use Rattle.gr_cluster.specs.Tables.{Host, Cluster}
use Rattle.gr_cluster.specs.Load.{Setting, fresh_host, first_rows, first_arcs, load}
use Rattle.gr_cluster.specs.GraphIn.{graph_in}
use Rattle.gr_cluster.specs.Directory.{directory_of}
use Rattle.gr_rules.specs.Todo.{Todo}
use Rattle.gr_cluster.specs.Todo.{todo}
use Rattle.gr_cluster.specs.Network.{fate_at, received, delivered, dropped}
use Rattle.gr_cluster.specs.Canonical.{next_canonical}
use Rattle.gr_cluster.specs.Left.{left}
use Rattle.gr_cluster.specs.Runs.{lines_after}
use Rattle.gr_cluster.specs.Budget.{are_borne}

abbrev job : ℕ → ℕ → Setting
job places losses = record { places = places; spares = 1; losses = losses; theta = 100; limit = 1000 }

abbrev copy : ℕ → ℕ → ℕ → ℕ → List ℕ → Option ℕ → VertexCopy ℕ
copy v i o m hs x = record { vertex = v; indeg = i; outdeg = o; master = m; holders = hs; value = x; due = true }

abbrev arc : ℕ → ℕ → ℕ → NumberedEdge
arc n s d = record { number = n; edge = edge s d }

abbrev three : List ℕ
three = 0 ∷ 1 ∷ 2 ∷ []

-- the triangle at load on two, three and four places: the copies of place 0, or of place 2
two_places : first_rows shortest (job 2 1) triangle three 0 ≡ copy 0 0 2 0 (0 ∷ 1 ∷ []) (Some 0) ∷ copy 1 1 1 1 (0 ∷ 1 ∷ []) (Some infinite) ∷ copy 2 2 0 0 (0 ∷ 1 ∷ []) (Some infinite) ∷ []
unfolding first_rows first_holders
two_places = refl

three_places : first_rows shortest (job 3 1) triangle three 2 ≡ copy 0 0 2 0 (0 ∷ 1 ∷ 2 ∷ []) (Some 0) ∷ copy 1 1 1 1 (1 ∷ 2 ∷ []) (Some infinite) ∷ copy 2 2 0 2 (0 ∷ 2 ∷ []) (Some infinite) ∷ []
unfolding first_rows first_holders
three_places = refl

four_places : first_rows shortest (job 4 2) triangle three 3 ≡ copy 1 1 1 1 (1 ∷ 2 ∷ 3 ∷ []) (Some infinite) ∷ copy 2 2 0 2 (0 ∷ 2 ∷ 3 ∷ []) (Some infinite) ∷ []
unfolding first_rows first_holders
four_places = refl

edges_of_two : map (first_arcs shortest (job 2 1) triangle three) (0 ∷ 1 ∷ []) ≡ (arc 1 1 2 ∷ arc 2 0 2 ∷ []) ∷ (arc 0 0 1 ∷ []) ∷ []
unfolding first_arcs
edges_of_two = refl

-- a mirror of a vertex without readers has no value under a forgetful program
no_value_at_a_mirror : first_rows in_degree (job 2 1) (edge 0 1 ∷ []) (0 ∷ 1 ∷ []) 0 ≡ copy 0 0 1 0 (0 ∷ 1 ∷ []) (Some 0) ∷ copy 1 1 0 1 (0 ∷ 1 ∷ []) None ∷ []
unfolding first_rows first_holders
no_value_at_a_mirror = refl

-- the logs at load say the graph
graph_at_load : graph_in (load shortest (job 3 1) triangle three) ≡ record { vertices = record { vertex = 0; indeg = 0; outdeg = 2 } ∷ record { vertex = 1; indeg = 1; outdeg = 1 } ∷ record { vertex = 2; indeg = 2; outdeg = 0 } ∷ []; edges = edge 0 1 ∷ edge 1 2 ∷ edge 0 2 ∷ [] }
unfolding graph_in directory_of directory_in edges_in load first_rows first_arcs first_holders records_after
graph_at_load = refl

-- a graph without a vertex is done at load
empty_is_done : next_canonical (load in_degree (job 2 1) [] []) ≡ None
unfolding next_canonical load first_rows first_arcs
empty_is_done = refl

-- a round of four places takes 121 events
left_of_four : left (load shortest (job 4 1) (edge 0 0 ∷ []) (0 ∷ [])) ≡ 121
unfolding left load first_rows first_arcs first_holders
left_of_four = refl

-- a batch of epoch e from place 0 to place 1, and a host in an epoch
abbrev batch : ℕ → Batch ℕ ℕ
batch e = record { serial = 7; epoch = e; round = 0; sender = 0; receiver = 1; body = body.Call [] }

abbrev host_at : ℕ → Host ℕ ℕ
host_at e = fresh_host [] [] e 0 stage.Gather

-- a batch of an older epoch is stale, and is gone
stale : fate_at (batch 1) (Some (host_at 2)) ≡ fate.Stale
stale = refl

stale_is_gone : received (batch 1) (Some (host_at 2)) ≡ Some (host_at 2)
stale_is_gone = refl

-- one of the same or of a later epoch is taken
taken : received (batch 2) (Some (host_at 2)) ≡ Some (record (host_at 2) { inbox = batch 2 ∷ [] })
taken = refl

-- two places, of which the second is down, with a batch between them
abbrev one_down : ℕ → Cluster ℕ ℕ
one_down e = record { hosts = Some (host_at e) ∷ None ∷ []; logs = empty_log ∷ empty_log ∷ []; flight = batch 1 ∷ []; serial = 8; coordinator = record (first_coordinator 2 1 9 true) { epoch = e }; places = 2; losses = 1; theta = 100 }

down : (delivered (one_down 1) 0 (Some (batch 1))).1 ≡ outcome.Delivered (batch 1) fate.Down
unfolding delivered
down = refl

-- a batch of the present epoch whose sender is up is not dropped, and an older one may be
not_dropped : dropped (one_down 1) 0 (Some (batch 1)) ≡ (one_down 1, outcome.Idle)
unfolding dropped
not_dropped = refl

older_dropped : dropped (one_down 2) 0 (Some (batch 1)) ≡ (record (one_down 2) { flight = [] }, outcome.Dropped 7)
unfolding dropped
older_dropped = refl

-- a missing install comes before the next epoch is adopted
installs_first : todo (record (first_coordinator 2 1 9 true) { epoch = 1; commits = 1 }) 0 (host_at 0) ≡ Todo.Install
unfolding todo
installs_first = refl

-- a commit ends `settle`, and another step does not
settled : lines_after (Some event.Barrier) true (line.Settle ∷ line.Finish ∷ []) ≡ line.Finish ∷ []
settled = refl

not_settled : lines_after (Some event.Barrier) false (line.Settle ∷ line.Finish ∷ []) ≡ line.Settle ∷ line.Finish ∷ []
not_settled = refl

-- as many crashes as there were live places are not borne
all_crashed : are_borne 3 (record { crashes = 2; live = 2 }) ≡ false
all_crashed = refl

within : are_borne 1 (record { crashes = 1; live = 2 }) ≡ true
within = refl
