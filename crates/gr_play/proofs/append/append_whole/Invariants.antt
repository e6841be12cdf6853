use Rattle.std.proofs.Common.{◌≡◌, ℕ, ◌≤◌, length, take, drop, true}
use Rattle.std.specs.Prelude.{IsTrue}
use Rattle.gr_play.specs.Inside.Adding.{Adds}
use Rattle.gr_play.proofs.append.append_whole.Given as goal

abbrev pub invariant-loop-rest : goal.invariant-loop-rest
invariant-loop-rest g l =
    record {
      begun : IsTrue (g.F.Files.seen l.files).is_begun;
      so_far : (n : ℕ) × (n ≤ length l.bytes) × (l.rest ≡ drop n l.bytes) × Adds true (g.F.Files.seen l.initial.files) (g.F.Files.seen l.files) (take n l.bytes);
    }

abbrev pub decreases-loop-rest : goal.decreases-loop-rest
decreases-loop-rest g l = length l.rest
