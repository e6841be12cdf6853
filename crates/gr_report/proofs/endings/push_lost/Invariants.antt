use Rattle.std.proofs.Common.{◌≡◌, ◌++◌, take, codes, decimal, length}
use Rattle.std.specs.Prelude.{flat_map}
use Rattle.gr_sched.specs.Words.{word}
use Rattle.gr_report.proofs.endings.push_lost.Given as goal

abbrev pub invariant-loop-v : goal.invariant-loop-v
invariant-loop-v l =
    l.text.items ≡ codes "lost" ++ word (length l.list) ++ codes "\n" ++ flat_map (λ v. decimal v ++ codes "\n") (take l.v-index l.list)
