use Rattle.std.proofs.Common.{◌≡◌, ◌∙◌, ◌+◌, ◌-◌, ℕ, Bool, ap, sym, take, length, get_or, arith}
use Rattle.std.specs.Prelude.{◌||◌, min}
use Rattle.std.specs.List.{range_with_len}
use Rattle.gr_base.specs.Rising.{has, without}
use Rattle.gr_base.specs.Places.{ring, below}
use Rattle.gr_copies.specs.Holders.{further}
use Rattle.gr_copies.proofs.Selecting.{filter-same, members-below}
use Rattle.gr_copies.proofs.Gathering.{ring-without}
use Rattle.gr_copies.proofs.first.holders_of.Goals as goal

pub returns-clause-holders : goal.returns-clause-holders
returns-clause-holders c =
    let m = c.args.home in
    let s = c.args.needed in
    let all = below c.args.places in
    let n = c.saturating_sub-missing.result in
    let copies = min (c.args.losses + 1) c.args.places in
    let count : n ≡ copies - length s = omega (arith, c.saturating_sub-missing.ensures, c.min-copies.ensures, c.from.ensures, c.from-2.ensures, c.count.ensures) in
    let chosen : ℕ → Bool = λ p. has s p || has (further copies s (ring m all)) p in
    let member : (r : ℕ) → has c.next_places.result r ≡ chosen r = λ r.
    c.next_places.ensures.members r
    ∙ ap (λ l. has s r || has (take n (ring m l)) r) c.difference-candidates.ensures.difference
    ∙ ap (λ l. has s r || has (take n (ring m (without l s))) r) c.all.ensures
    ∙ ap (λ l. has s r || has (take n l) r) (ring-without m all s)
    ∙ ap (λ k. has s r || has (take k (without (ring m all) s)) r) count in
    sym (members-below c.next_places.result 64 c.next_places.ensures.places.rise c.next_places.ensures.places.below)
    ∙ filter-same (has c.next_places.result) chosen (range_with_len 0 64) (λ k d lt. member (get_or (range_with_len 0 64) k d))
