use Rattle.std.proofs.Common.{◌≡◌, ℕ, ◌-◌, length, get_or, inl, inr, ap, arith}
use Rattle.std.proofs.lemmas.Bool.{cases_eq}
use Rattle.std.proofs.lemmas.Grind.{get_or_default_zero}
use Rattle.gr_edges.proofs.tally.room_for.Goals as goal

pub returns-in-len1-up : goal.returns-in-len1-up
returns-in-len1-up c =
    let ns = c.args.ids.now in
    let last = length ns - 1 in
    λ k d lt. elim (cases_eq k last) [
      | inl here ↦
          let same = get_or_default_zero ns k d lt in
          let at : get_or ns k 0 ≡ get_or ns last 0 = ap (λ (n : ℕ). get_or ns n 0) here in
          omega arith
      | inr earlier ↦
          let below = c.requires.rise k last d (omega arith) (omega arith) in
          let same = get_or_default_zero ns last d (omega arith) in
          omega arith
    ]
