-- Room in the counts of a cluster, and what a step leaves of it.
use Rattle.std.proofs.Common.{◌≡◌, ℕ, ◌+◌, ◌*◌, ◌^◌, ◌<◌, ◌≤◌, length, arith, Some}
use Rattle.gr_program.specs.Program.{Program}
use Rattle.gr_program.specs.ProgramLaws.{ProgramLaws}
use Rattle.gr_sched.specs.declared.event.Event.{Event}
use Rattle.gr_cluster.specs.Tables.{Cluster}
use Rattle.gr_cluster.specs.Step.{step}
use Rattle.gr_cluster.specs.Canonical.{next_canonical}
use Rattle.gr_cluster.specs.ToGo.{most_left, to_go}
use Rattle.gr_agree.specs.Agree.{Invariant}
use Rattle.gr_law_runs.proofs.Left.Counts.{step-counts}
use Rattle.gr_law_runs.proofs.Bounds.ToGo.{to_go-bounded, to_go-added, to_go-falls, canonical-is}
use Rattle.gr_play.specs.Inside.Room.{HasRoom, HasRoomFor}

module _ {V A : Type 0} (c : Cluster V A) (taken : ℕ) where
  -- where there is room for lines there is room for a step
  pub HasRoomFor-one : (n : ℕ) → HasRoomFor c taken n → HasRoom c taken
  HasRoomFor-one n R = record {
    steps = let r = R.steps in omega (arith, r);
    serial = let r = R.serial in omega (arith, r);
    epoch = let r = R.epoch in omega (arith, r);
    commits = let r = R.commits in omega (arith, r);
    flight = let r = R.flight in omega (arith, r);
  }

  -- and for fewer lines
  pub HasRoomFor-fewer : (n m : ℕ) → m ≤ n → HasRoomFor c taken n → HasRoomFor c taken m
  HasRoomFor-fewer n m le R = record {
    few = let r = R.few in omega (arith, r, le);
    steps = let r = R.steps in omega (arith, r, le);
    serial = let r = R.serial in omega (arith, r, le);
    epoch = let r = R.epoch in omega (arith, r, le);
    commits = let r = R.commits in omega (arith, r, le);
    flight = let r = R.flight in omega (arith, r, le);
  }

module _ {V A : Type 0} (P : Program V A) (c : Cluster V A) (e : Event) (I : Invariant P c) (K : Invariant P (step P c e).0) (taken : ℕ) where
  -- an event of a line takes room for one line
  pub HasRoomFor-event : (n : ℕ) → HasRoomFor c taken (n + 1) → HasRoomFor (step P c e).0 (taken + 1) n
  HasRoomFor-event n R =
      let g = to_go-added P c e I K in
      let k = step-counts P c e in
      record {
        few = let r = R.few in omega (arith, r);
        steps = let r = R.steps in omega (arith, r, g);
        serial = let r = R.serial in let s = (k.serial).1 in omega (arith, r, g, s);
        epoch = let r = R.epoch in let s = (k.epoch).1 in omega (arith, r, g, s);
        commits = let r = R.commits in let s = (k.commits).1 in omega (arith, r, g, s);
        flight = let r = R.flight in let s = k.flight in omega (arith, r, s);
      }

  -- a canonical event takes none
  pub HasRoomFor-canonical : ProgramLaws P → next_canonical c ≡ Some e → (n : ℕ) → HasRoomFor c taken n → HasRoomFor (step P c e).0 (taken + 1) n
  HasRoomFor-canonical L is n R =
      let g = to_go-falls P c e I K L is in
      let k = step-counts P c e in
      let f = (canonical-is P I.0 c I.1 e is).flight in
      record {
        few = R.few;
        steps = let r = R.steps in omega (arith, r, g);
        serial = let r = R.serial in let s = (k.serial).1 in omega (arith, r, g, s);
        epoch = let r = R.epoch in let s = (k.epoch).1 in omega (arith, r, g, s);
        commits = let r = R.commits in let s = (k.commits).1 in omega (arith, r, g, s);
        flight = let r = R.flight in let few = R.few in omega (arith, r, few, f);
      }

module _ {V A : Type 0} (P : Program V A) (c : Cluster V A) (I : Invariant P c) where
  -- a schedule begins with room for all its lines
  pub HasRoomFor-start : (taken lines : ℕ) → taken ≡ 0 → lines ≤ 200000 → c.coordinator.limit < 2 ^ 32 → length c.flight ≤ 200000
      → c.serial < 2 ^ 62 → c.coordinator.epoch < 2 ^ 62 → c.coordinator.commits < 2 ^ 62 → HasRoomFor c taken lines
  HasRoomFor-start taken lines none few limit flight serial epoch commits =
      let bound = to_go-bounded P c I in
      let go : to_go c ≤ 200000 + most_left * (2 ^ 32 + 4) = omega (arith, bound, flight, limit) in
      record {
        few = few;
        steps = omega (arith, none, few, go);
        serial = omega (arith, few, go, serial);
        epoch = omega (arith, few, go, epoch);
        commits = omega (arith, few, go, commits);
        flight = omega (arith, flight, few);
      }
