-- What the committed logs of a cluster say.
use Rattle.std.specs.Prelude.{◌≡◌}
use Rattle.gr_program.specs.Program.{Program}
use Rattle.gr_cluster.specs.Tables.{Cluster}
use Rattle.gr_cluster.specs.GraphIn.{graph_of, graph_in}
use Rattle.gr_agree.specs.Truth.{Truth, edge_list}
use Rattle.gr_agree.specs.Agree.{Agree}

-- where a cluster agrees with a committed state, its committed logs say the graph of that state
abbrev pub LogsSayTheGraph : (V A : Type 0) → Type 0
LogsSayTheGraph V A = (P : Program V A) (t : Truth V) (c : Cluster V A) → Agree P t c → graph_in c ≡ graph_of (edge_list t) t.vertices
