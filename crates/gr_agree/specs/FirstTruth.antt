-- The committed state at load.
use Rattle.std.specs.Prelude.{ℕ, true, List}
use Rattle.gr_base.specs.declared.records.Edge.{Edge}
use Rattle.gr_program.specs.Program.{Program}
use Rattle.gr_program.specs.Rounds.{first_state}
use Rattle.gr_cut.specs.Cut.{home, numbered}
use Rattle.gr_copies.specs.Holders.{first_holders}
use Rattle.gr_cluster.specs.Load.{Setting}
use Rattle.gr_agree.specs.Truth.{Truth}

-- the homes are the masters, every vertex is due, and every value is the first one
abbrev pub first_truth : {V A : Type 0} → Program V A → Setting → List Edge → List ℕ → Truth V
first_truth P s es vs = record {
  vertices = vs;
  edges = numbered es;
  theta = s.theta;
  master = home s.places;
  holders = first_holders s.places s.theta s.losses es;
  state = first_state P es;
  due = λ _. true;
  kept = λ _. true;
}
