use Rattle.std.proofs.Common.{◌≡◌, ◌∙◌, ℕ, eqb, sym, ap, subst}
use Rattle.std.specs.List.{dedup}
use Rattle.std.proofs.lemmas.List.Filters.{dedup_is}
use Rattle.std.proofs.lemmas.List.Kept.{AllPairs-from_increasing, Contains-dedup_nat, Contains-from_dedup}
use Rattle.std.proofs.lemmas.List.Sorted.{Contains-permutation, IsPermutation-sym}
use Rattle.std.proofs.lemmas.Map.Keys.{IsStrictlyIncreasing-dedup}
use Rattle.gr_base.specs.Rising.{RisesBy, has}
use Rattle.gr_signal.proofs.Ends.{same-members}
use Rattle.gr_signal.proofs.edge_targets.targets_of.Goals as goal

pub returns-clause-members : goal.returns-clause-members
returns-clause-members c = λ v.
    let ends = c.in_ok-targets.targets.items in
    let sorted = c.sort_unstable.new.self.items in
    let moved = c.sort_unstable.ensures.permutation in
    let is : c.from_vec.result ≡ dedup eqb sorted = c.from_vec.ensures ∙ dedup_is _ _ _ c.dedup.ensures.filtered in
    ap (λ l. has l v) is
    ∙ same-members (dedup eqb sorted) ends
    (λ x h. Contains-permutation sorted ends x (IsPermutation-sym ends sorted moved) (Contains-from_dedup eqb sorted x h))
    (λ x h. Contains-dedup_nat sorted x (Contains-permutation ends sorted x moved h)) v
    ∙ c.in_ok-targets.ensures v

pub returns-clause-rise : goal.returns-clause-rise
returns-clause-rise c =
    let sorted = c.sort_unstable.new.self.items in
    let is : c.from_vec.result ≡ dedup eqb sorted = c.from_vec.ensures ∙ dedup_is _ _ _ c.dedup.ensures.filtered in
    subst (RisesBy (λ (n : ℕ). n)) (sym is) (AllPairs-from_increasing (dedup eqb sorted) (IsStrictlyIncreasing-dedup sorted c.sort_unstable.ensures.sorted))
