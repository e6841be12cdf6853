-- Numbers that were put in lately.
use Rattle.std.proofs.Common.{◌≡◌, ℕ, ◌^◌, ◌<◌, true, eqb, List, length, get_or, set, refl, sym, ap, ◌∙◌, subst, arith, length-set}
use Rattle.std.specs.Prelude.{◌||◌}
use Rattle.std.specs.Ordering.{nat_cmp}
use Rattle.std.specs.BTreeSet.{insert_key}
use Rattle.std.proofs.lemmas.Bool.{eq-eqb}
use Rattle.std.proofs.Math.Bool.{or-true}
use Rattle.std.proofs.lemmas.List.Elements.{All-set}
use Rattle.gr_base.specs.Rising.{has}
use Rattle.gr_edges.specs.Recent.{AreRecent}
use Rattle.gr_edges.proofs.Ids.{insert-rises, insert-present, has-insert}

-- a number is put in, and into a slot
pub recent-after : (rising recent keys new : List ℕ) (id slot : ℕ) → AreRecent rising recent → keys ≡ insert_key nat_cmp rising id → new ≡ set recent slot id → AreRecent keys new
recent-after rising recent keys new id slot were keys_are new_is = rw (keys_are, new_is) (record {
  rise = insert-rises id rising were.rise;
  slots = omega (arith, were.slots, length-set recent slot id);
  known = All-set (λ r. r < 2 ^ 32 → has (insert_key nat_cmp rising id) r ≡ true) recent slot id
      (λ small. has-insert id id rising ∙ ap (λ b. b || has rising id) (eq-eqb id id refl))
      (λ k d lt small. has-insert id _ rising ∙ ap (λ b. eqb id (get_or recent k d) || b) (were.known k d lt small) ∙ or-true (eqb id (get_or recent k d)));
})

-- a number in its slot is there
pub recent-there : (rising recent : List ℕ) (id slot : ℕ) → AreRecent rising recent → id < 2 ^ 32 → slot < length recent → get_or recent slot 0 ≡ id → rising ≡ insert_key nat_cmp rising id
recent-there rising recent id slot are small lt is =
    sym (insert-present rising id are.rise (subst (λ (r : ℕ). r < 2 ^ 32 → has rising r ≡ true) is (are.known slot 0 lt) small))
