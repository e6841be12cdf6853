use Rattle.std.proofs.Common.{◌∙◌, ◌+◌, ◌++◌, ◌∷◌, [], sym, ap, arith}
use Rattle.std.specs.List.{range_with_len}
use Rattle.std.proofs.lemmas.List.{map-id}
use Rattle.std.proofs.lemmas.List.FromFn.{map-range_with_len_more}
use Rattle.gr_uncut.proofs.rounds.positions.Goals as goal

pub loop-k-preserved : goal.loop-k-preserved
loop-k-preserved c =
    let k = c.loop-k.k in
    c.in_ok-push.ensures.ok
    ∙ ap (λ l. l ++ k ∷ []) (c.loop-k.invariant ∙ sym (map-id (range_with_len 0 k)))
    ∙ sym (map-range_with_len_more (λ k. k) 0 k k (omega arith))
    ∙ map-id (range_with_len 0 (k + 1))
