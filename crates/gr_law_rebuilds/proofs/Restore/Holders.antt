-- The masters and holders after a rebuild: who stays one, and what changes of a vertex that is not granted anew.
use Rattle.std.proofs.Common.{◌≡◌, ◌<◌, ℕ, List, [], ◌∷◌, Bool, true, false, not, ◌==◌, ◌&&◌, ◌||◌, nat_lt, length, get_or, refl, sym, ap, ◌∙◌, arith, Some, None, unwrap_or, if◌then◌else◌, lt-ltb}
use Rattle.std.specs.List.{list_any}
use Rattle.std.proofs.Math.Bool.{and-true, or-false}
use Rattle.std.proofs.lemmas.Bool.{and_from, and_left, and_parts, and_right, both_ways, false_from_ne_true, or_left, or_parts}
use Rattle.std.proofs.lemmas.List.Elements.{All-from_recursion}
use Rattle.gr_base.specs.Rising.{has}
use Rattle.gr_base.specs.Places.{below}
use Rattle.gr_base.proofs.Ranges.{has-range, range-within}
use Rattle.gr_program.specs.Program.{Program}
use Rattle.gr_copies.specs.declared.view.RebuildView.{RebuildView}
use Rattle.gr_copies.specs.Granter.{granter, is_retiring}
use Rattle.gr_copies.proofs.Selecting.{filter-same, members-below}
use Rattle.gr_rules.specs.Grants.{extra_holders, is_new_holder, new_holders, is_granted}
use Rattle.gr_agree.specs.Truth.{Truth, held, true_entry, hidden, copy_at, true_indegree, true_outdegree}
use Rattle.gr_agree.specs.Rebuilt.{true_askers, is_orphan, rebuilt}
use Rattle.gr_lists.proofs.Tests.{by_test}
use Rattle.gr_lists.proofs.Each.{Each-has}
use Rattle.gr_lists.proofs.Any.{has-filter}
use Rattle.gr_lists.proofs.Numbers.{any-has}
use Rattle.gr_law_rebuilds.proofs.Restore.Fits.{Fits}
use Rattle.gr_law_rebuilds.proofs.Restore.Granter.{granter-left}

-- a test that no number of a list passes
pub none-has : (f : ℕ → Bool) (xs : List ℕ) (q : ℕ) → list_any f xs ≡ false → has xs q ≡ true → f q ≡ false
none-has f xs q none m = false_from_ne_true (f q) (λ k. both_ways _ none (any-has f xs q m k))

-- a list that has none
pub has-none : (xs : List ℕ) (q : ℕ) → nat_lt 0 (length xs) ≡ false → has xs q ≡ false
has-none [] q h = refl
has-none (x ∷ xs) q h = absurd (both_ways _ h (lt-ltb 0 (length (x ∷ xs)) (omega arith)))

module _ {V A : Type 0} (P : Program V A) (w : RebuildView) (want : ℕ) (t : Truth V) where
  abbrev t' : Truth V
  t' = rebuilt P w want t

  -- whether a vertex is granted anew
  abbrev pub anew : ℕ → Bool
  anew v = is_granted w want (true_entry t v) (true_askers w t v)

  abbrev becomes : ℕ → ℕ → Bool
  becomes v q = is_new_holder w want (true_entry t v) (true_askers w t v) q

  pub has-holders : (v q : ℕ) → held t' q v ≡ (has (below w.places) q && becomes v q)
  unfolding new_holders
  has-holders v q = has-filter (becomes v) (below w.places) q

  pub becomes-holder : (v q : ℕ) → q < w.places → becomes v q ≡ true → held t' q v ≡ true
  becomes-holder v q lt b = has-holders v q ∙ and_from _ _ (has-range 0 w.places q (omega arith) (omega (arith, lt))) b

  pub holder-became : (v q : ℕ) → held t' q v ≡ true → (q < w.places) × (becomes v q ≡ true)
  holder-became v q h =
      let both = and_parts _ _ (sym (has-holders v q) ∙ h) in let lt = range-within 0 w.places q both.0 in (omega (arith, lt), both.1)

  pub not-retiring : (q : ℕ) → has w.dead q ≡ false → is_retiring w q ≡ false
  not-retiring q d = and_left _ _ d

  -- a master stays one, but for the retiring ones
  pub master-stays : (v : ℕ) → is_retiring w (t.master v) ≡ false → t'.master v ≡ t.master v
  master-stays v r = ap (λ b. if b then unwrap_or (granter w.dead (t.master v) (t.holders v)) (t.master v) else t.master v) r

  module _ (F : Fits w t) (v : ℕ) (there : has t.vertices v ≡ true) where
    -- a holder stays one, but for the retiring ones
    pub holder-stays : (q : ℕ) → is_retiring w q ≡ false → held t q v ≡ true → held t' q v ≡ true
    holder-stays q r h = becomes-holder v q (F.within v q there h) (or_left _ _ (and_from _ _ h (ap not r)))

    -- in the place of a retiring master stands a holder that is not dead
    pub master-given : is_retiring w (t.master v) ≡ true → (held t (t'.master v) v ≡ true) × (has w.dead (t'.master v) ≡ false)
    master-given r =
        let g = granter-left w.dead (t.holders v) (t.master v) (F.master_holds v there) (F.left v there) in
        let is : t'.master v ≡ g.0 = ap (λ b. if b then unwrap_or (granter w.dead (t.master v) (t.holders v)) (t.master v) else t.master v) r ∙ ap (λ o. unwrap_or o (t.master v)) g.1 in
        (ap (λ q. held t q v) is ∙ g.2, ap (has w.dead) is ∙ g.3)

    pub master-holds : held t' (t'.master v) v ≡ true
    master-holds = by_test (is_retiring w (t.master v))
        (λ r. let g = master-given r in holder-stays (t'.master v) (not-retiring _ g.1) g.0)
        (λ r. ap (λ q. held t' q v) (master-stays v r) ∙ holder-stays (t.master v) r (F.master_holds v there))

    -- a place that is given a vertex has it granted
    pub given-anew : (q : ℕ) → held t q v ≡ false → held t' q v ≡ true → anew v ≡ true
    given-anew q off on = by_test (anew v)
        (λ k. k)
        (λ k. absurd (
        let o = or_parts (list_any (has w.dead) (t.holders v)) _ k in
        let e = or_parts (nat_lt 0 (length (true_askers w t v))) _ o.1 in
        let no : becomes v q ≡ false = (λ i. (off i && not (is_retiring w q)) || (has-none (true_askers w t v) q e.0 i || has-none (extra_holders w want (true_entry t v)) q e.1 i)) in
        both_ways _ no (holder-became v q on).1))

    module _ (same : anew v ≡ false) where
      parts : (list_any (has w.dead) (t.holders v) ≡ false) × ((nat_lt 0 (length (true_askers w t v)) || nat_lt 0 (length (extra_holders w want (true_entry t v)))) ≡ false)
      parts = or_parts _ _ same

      -- none of its holders is dead
      pub holder-not_dead : (q : ℕ) → held t q v ≡ true → has w.dead q ≡ false
      holder-not_dead q h = none-has (has w.dead) (t.holders v) q parts.0 h

      becomes-same : (q : ℕ) → becomes v q ≡ held t q v
      becomes-same q =
          let e = or_parts _ _ parts.1 in
          (λ i. (held t q v && not (is_retiring w q)) || (has-none (true_askers w t v) q e.0 i || has-none (extra_holders w want (true_entry t v)) q e.1 i))
          ∙ by_test (held t q v)
          (λ h. let r = not-retiring q (holder-not_dead q h) in rw (h, r) refl)
          (λ h. rw h refl)

      pub holders-same : t'.holders v ≡ t.holders v
      unfolding new_holders
      holders-same =
          filter-same (becomes v) (has (t.holders v)) (below w.places) (λ k d lt. becomes-same (get_or (below w.places) k d))
          ∙ members-below (t.holders v) w.places (F.holders v there).rise (All-from_recursion (λ q. q < w.places) (t.holders v) (Each-has (λ q. q < w.places) (t.holders v) (λ q h. F.within v q there h)))

      master-not_dead : has w.dead (t.master v) ≡ false
      master-not_dead = holder-not_dead (t.master v) (F.master_holds v there)

      pub master-same : t'.master v ≡ t.master v
      master-same = master-stays v (not-retiring (t.master v) master-not_dead)

      no-orphan : is_orphan P w want t v ≡ false
      no-orphan = and_right (hidden P t v) _ master-not_dead

      pub entry-same : true_entry t v ≡ true_entry t' v
      entry-same = λ i. record {
        vertex = v;
        indeg = true_indegree t v;
        outdeg = true_outdegree t v;
        master = sym master-same i;
        holders = sym holders-same i;
      }

      pub copy-same : (p : ℕ) → copy_at P t p v ≡ copy_at P t' p v
      copy-same p =
          let due : t.due v ≡ (t.due v || is_orphan P w want t v) = sym (ap (λ b. t.due v || b) no-orphan ∙ or-false (t.due v)) in
          let kept : t.kept v ≡ (t.kept v && not (is_orphan P w want t v)) = sym (ap (λ b. t.kept v && not b) no-orphan ∙ and-true (t.kept v)) in
          λ i. record {
            vertex = v;
            indeg = true_indegree t v;
            outdeg = true_outdegree t v;
            master = sym master-same i;
            holders = sym holders-same i;
            value = if hidden P t v && not ((sym master-same i == p) && kept i) then None else Some (t.state.value v);
            due = due i;
          }
