-- What a grant is where no place is dead and nobody asks.
use Rattle.std.proofs.Common.{◌≡◌, ◌∙◌, ◌≤◌, ℕ, Bool, true, false, not, List, [], ◌∷◌, length, Option, Some, None, get_or, refl, ap, sym, arith}
use Rattle.std.specs.Prelude.{◌+◌, ◌&&◌, ◌||◌, ◌==◌, nat_lt, min, if◌then◌else◌}
use Rattle.std.specs.List.{filter, list_any}
use Rattle.std.proofs.Math.Bool.{and-true, and-false, or-false, and_assoc}
use Rattle.std.proofs.lemmas.Bool.{and_from, and_left, and_right}
use Rattle.gr_base.specs.Rising.{RisesBy, has}
use Rattle.gr_base.specs.Places.{below}
use Rattle.gr_base.proofs.Ranges.{range-within}
use Rattle.gr_program.specs.declared.copy.VertexCopy.{VertexCopy}
use Rattle.gr_copies.specs.declared.view.RebuildView.{RebuildView}
use Rattle.gr_copies.specs.Granter.{granter, is_retiring}
use Rattle.gr_copies.specs.Holders.{extras}
use Rattle.gr_copies.proofs.Selecting.{filter-same}
use Rattle.gr_lists.proofs.Any.{has-filter}
use Rattle.gr_lists.proofs.Tests.{by_test}
use Rattle.gr_log.specs.Directory.{Entry}
use Rattle.gr_rules.specs.Rows.{entry, is_hidden}
use Rattle.gr_rules.specs.Taken.{is_granter, master_after}
use Rattle.gr_rules.specs.Grants.{extra_holders, is_new_holder, new_holders, is_granted, granted_value, granted_due, granted_copy, is_granted_to}
use Rattle.gr_repair.specs.Short.{is_short}
use Rattle.gr_repair.proofs.Extras.{some-extra}

-- a place past all is not among them
past : (n q : ℕ) → n ≤ q → has (below n) q ≡ false
past n q le = by_test (has (below n) q)
    (λ on. absurd (let lt = range-within 0 n q on in omega arith))
    (λ off. off)

none-dead : (hs : List ℕ) → list_any (has []) hs ≡ false
none-dead [] = refl
none-dead (h ∷ hs) = none-dead hs

module _ (w : RebuildView) (none : w.dead ≡ []) (want : ℕ) where
  retiring-none : (p : ℕ) → is_retiring w p ≡ false
  retiring-none p = ap (λ (ds : List ℕ). has ds p && not (has w.reborn p)) none

  -- the master grants, and stays
  granter-master : (e : Entry) (p : ℕ) → is_granter w e p ≡ (e.master == p)
  granter-master e p = ap (λ (ds : List ℕ). elim (granter ds e.master e.holders) [ None ↦ false | Some q ↦ q == p ]) none

  master-stays : (e : Entry) → master_after w e ≡ e.master
  master-stays e = rw (retiring-none e.master) refl

  -- a vertex is granted where it gets an extra
  granted-extra : (e : Entry) → is_granted w want e [] ≡ nat_lt 0 (length (extra_holders w want e))
  granted-extra e = ap (λ (ds : List ℕ). list_any (has ds) e.holders || nat_lt 0 (length (extra_holders w want e))) none
      ∙ ap (λ (b : Bool). b || nat_lt 0 (length (extra_holders w want e))) (none-dead e.holders)

  new-holder : (e : Entry) (q : ℕ) → is_new_holder w want e [] q ≡ (has e.holders q || has (extra_holders w want e) q)
  new-holder e q = ap (λ (b : Bool). (has e.holders q && not b) || has (extra_holders w want e) q) (retiring-none q)
      ∙ ap (λ (b : Bool). b || has (extra_holders w want e) q) (and-true (has e.holders q))

  module _ {V : Type 0} (c : VertexCopy V) (q : ℕ) where
    value-stays : granted_value w want c q ≡ (if is_hidden w.forgetful c && not (c.master == q) then None else c.value)
    value-stays = ap (λ (ds : List ℕ). if is_hidden w.forgetful c && not ((c.master == q) && not (has ds c.master)) then None else c.value) none
        ∙ ap (λ (b : Bool). if is_hidden w.forgetful c && not b then None else c.value) (and-true (c.master == q))

    due-stays : granted_due w want c ≡ c.due
    due-stays = ap (λ (ds : List ℕ). c.due || (is_hidden w.forgetful c && has ds c.master)) none
        ∙ ap (λ (b : Bool). c.due || b) (and-false (is_hidden w.forgetful c)) ∙ or-false c.due

-- where the live places rise, and the master holds; the further holders are given as a set
module _ {V : Type 0} (w : RebuildView) (none : w.dead ≡ []) (rise : RisesBy (λ r. r) w.live) (p q : ℕ) (c : VertexCopy V) (master : has c.holders c.master ≡ true)
    (further : List ℕ) (same : (r : ℕ) → has further r ≡ has (extras w.live (w.losses + 1) c.master c.holders) r) where
  abbrev want : ℕ
  want = w.losses + 1

  abbrev pub holders : List ℕ
  holders = filter (λ r. has c.holders r || has further r) (below w.places)

  abbrev pub answer : Option (VertexCopy V)
  answer = if is_granted_to w want p q c [] then Some (granted_copy w want c [] q) else None

  holders-are : new_holders w want (entry c) [] ≡ holders
  unfolding new_holders
  holders-are = filter-same (is_new_holder w want (entry c) []) (λ r. has c.holders r || has further r) (below w.places)
      (λ k d lt. let r = get_or (below w.places) k d in
      new-holder w none want (entry c) r ∙ ap (λ (b : Bool). has c.holders r || b) (sym (same r)))

  test-is : is_granted_to w want p q c [] ≡ (is_short p w.losses w.live c && has holders q)
  test-is =
      ap (λ (b : Bool). b && (is_granted w want (entry c) [] && has (new_holders w want (entry c) []) q)) (granter-master w none want (entry c) p)
      ∙ ap (λ (b : Bool). (c.master == p) && (b && has (new_holders w want (entry c) []) q)) (granted-extra w none want (entry c) ∙ some-extra w.live want c.master c.holders rise master)
      ∙ ap (λ (hs : List ℕ). (c.master == p) && (nat_lt (length c.holders) (min want (length w.live)) && has hs q)) holders-are
      ∙ sym (and_assoc (c.master == p) (nat_lt (length c.holders) (min want (length w.live))) (has holders q))

  abbrev given : Bool → Option (VertexCopy V)
  given b = if b then Some (granted_copy w want c [] q) else None

  -- no copy is granted
  pub not-short : is_short p w.losses w.live c ≡ false → None ≡ answer
  not-short e = sym (ap given (test-is ∙ and_left (is_short p w.losses w.live c) (has holders q) e))

  pub no-holder : (hs : List ℕ) → hs ≡ holders → has hs q ≡ false → None ≡ answer
  no-holder hs are e = sym (ap given (test-is ∙ and_right (is_short p w.losses w.live c) (has holders q) (sym (ap (λ l. has l q) are) ∙ e)))

  pub no-place : w.places ≤ q → None ≡ answer
  no-place le = no-holder holders refl (has-filter (λ r. has c.holders r || has further r) (below w.places) q
      ∙ and_left (has (below w.places) q) (has c.holders q || has further q) (past w.places q le))

  -- or one is, with all else as it was
  pub granted : (hs : List ℕ) (x : Option V) → hs ≡ holders → x ≡ (if is_hidden w.forgetful c && not (c.master == q) then None else c.value)
      → is_short p w.losses w.live c ≡ true → has hs q ≡ true → Some (record c { holders = hs; value = x }) ≡ answer
  granted hs x are kept few held =
      let on : is_granted_to w want p q c [] ≡ true = test-is ∙ and_from (is_short p w.losses w.live c) (has holders q) few (sym (ap (λ l. has l q) are) ∙ held) in
      let copy : record c { holders = hs; value = x } ≡ granted_copy w want c [] q
      = λ i. record {
        vertex = c.vertex;
        indeg = c.indeg;
        outdeg = c.outdeg;
        master = sym (master-stays w none want (entry c)) i;
        holders = (are ∙ sym holders-are) i;
        value = (kept ∙ sym (value-stays w none want c q)) i;
        due = sym (due-stays w none want c q) i;
      } in
      ap Some copy ∙ sym (ap given on)
