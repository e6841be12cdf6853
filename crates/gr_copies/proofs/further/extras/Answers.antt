use Rattle.std.proofs.Common.{◌≡◌, ◌∙◌, ◌-◌, ℕ, ap, sym, take, length, get_or, arith}
use Rattle.std.specs.Prelude.{◌||◌, min}
use Rattle.std.specs.List.{range_with_len}
use Rattle.gr_base.specs.Rising.{has, without}
use Rattle.gr_base.specs.Places.{ring}
use Rattle.gr_copies.specs.Holders.{extras}
use Rattle.gr_copies.proofs.Selecting.{filter-same, members-below}
use Rattle.gr_copies.proofs.Gathering.{ring-without}
use Rattle.gr_copies.proofs.Granting.{member-below}
use Rattle.gr_copies.proofs.further.extras.Goals as goal

pub next_places-requires : goal.next_places-requires
next_places-requires c = member-below c.args.dir.now.holders c.args.dir.now.master 64 c.requires.master c.has-known.ensures.places.below

pub returns : goal.returns
returns c =
    let m = c.args.dir.now.master in
    let holders = c.args.dir.now.holders in
    let live = c.args.live in
    let n = c.saturating_sub-missing.result in
    let count : n ≡ min c.args.need (length live) - length holders = omega (arith, c.saturating_sub-missing.ensures, c.min-target.ensures, c.count.ensures, c.count-2.ensures) in
    let chosen = extras live c.args.need m holders in
    let member : (r : ℕ) → has c.next_places.result r ≡ has chosen r = λ r.
    c.next_places.ensures.members r
    ∙ ap (λ l. has l r || has (take n (ring m c.difference-candidates.result)) r) c.none.ensures
    ∙ ap (λ l. has (take n (ring m l)) r) c.difference-candidates.ensures.difference
    ∙ ap (λ l. has (take n l) r) (ring-without m live holders)
    ∙ ap (λ k. has (take k (without (ring m live) holders)) r) count in
    sym (members-below c.next_places.result 64 c.next_places.ensures.places.rise c.next_places.ensures.places.below)
    ∙ filter-same (has c.next_places.result) (has chosen) (range_with_len 0 64) (λ k d lt. member (get_or (range_with_len 0 64) k d))
