use Rattle.std.proofs.Common.{◌≡◌, ◌∙◌, ◌+◌, ℕ, List, filter, ap, arith}
use Rattle.gr_base.specs.Rising.{has}
use Rattle.gr_base.specs.Places.{below}
use Rattle.gr_copies.specs.Holders.{extras}
use Rattle.gr_repair.proofs.Extras.{has-set, extra-below}
use Rattle.gr_repair.proofs.grant.extras_of.Goals as goal

pub returns : goal.returns
returns g c = λ q.
    let w = c.args.view.now in
    let k = c.args.copy.now in
    let need : c.from-need.result + 1 ≡ w.losses + 1 = omega (arith, c.from-need.ensures) in
    let is : c.extras.result ≡ filter (has (extras w.live (c.from-need.result + 1) k.master k.holders)) (below 64) = c.extras.ensures in
    ap (λ (l : List ℕ). has l q) (is ∙ ap (λ n. filter (has (extras w.live n k.master k.holders)) (below 64)) need)
    ∙ has-set 64 (extras w.live (w.losses + 1) k.master k.holders) (extra-below w.live w.places c.requires.places c.requires.live (w.losses + 1) k.master k.holders) q
