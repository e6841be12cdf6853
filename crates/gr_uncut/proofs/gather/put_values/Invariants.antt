use Rattle.std.proofs.Common.{◌≡◌, ℕ, Bool, IsTrue, map, take, length, if◌then◌else◌}
use Rattle.std.specs.List.{All}
use Rattle.gr_base.specs.Rising.{has}
use Rattle.gr_uncut.specs.Round.{Reads}
use Rattle.gr_uncut.proofs.gather.put_values.Given as goal

abbrev pub invariant-loop-i : goal.invariant-loop-i
invariant-loop-i g l = record {
  long : length l.values ≡ length l.fn.values;
  kept : (t : g.row.V.Denot → Bool) → All (λ x. IsTrue (t x)) l.fn.values → All (λ x. IsTrue (t x)) l.new → All (λ x. IsTrue (t x)) l.values;
  values : (x y : ℕ → g.row.V.Denot) → Reads x l.fn.values → l.new ≡ map y l.active → Reads (λ k. (if has (take l.i l.active) k then y k else x k)) l.values;
}
