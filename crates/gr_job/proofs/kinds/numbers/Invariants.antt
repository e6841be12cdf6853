use Rattle.std.proofs.Common.{◌≡◌, ◌≤◌, length, map, take, true, is_some}
use Rattle.std.specs.List.{filter_map, list_all}
use Rattle.toml.specs.View.{view}
use Rattle.gr_job.specs.Kinds.{natural}
use Rattle.gr_job.proofs.kinds.numbers.Given as goal

abbrev pub invariant-loop-value : goal.invariant-loop-value
invariant-loop-value l =
    (length l.values ≤ l.longest)
    × (l.numbers ≡ filter_map (natural 4294967295) (map view (take l.value-index l.values)))
    × (list_all (λ d. is_some (natural 4294967295 d)) (map view (take l.value-index l.values)) ≡ true)
