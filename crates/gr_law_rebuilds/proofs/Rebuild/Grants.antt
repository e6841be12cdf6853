-- The copies that a place grants.
use Rattle.std.proofs.Common.{◌≡◌, ℕ, List, Bool, true, false, not, ◌==◌, ◌&&◌, ◌||◌, map, refl, sym, ap, ◌∙◌, Option, Some, None, if◌then◌else◌, eq-eqb}
use Rattle.std.proofs.lemmas.Bool.{and_left, both_ways}
use Rattle.gr_base.specs.Rising.{has}
use Rattle.gr_program.specs.declared.copy.VertexCopy.{VertexCopy}
use Rattle.gr_program.specs.Program.{Program}
use Rattle.gr_copies.specs.declared.view.RebuildView.{RebuildView}
use Rattle.gr_rules.specs.Rows.{entry}
use Rattle.gr_rules.specs.Taken.{is_granter, master_after}
use Rattle.gr_rules.specs.Grants.{new_holders, is_granted, granted_copy, is_granted_to, grant_body}
use Rattle.gr_agree.specs.Truth.{Truth, true_indegree, true_outdegree, held, true_entry, hidden, copy_at, rows_at}
use Rattle.gr_agree.specs.Logs.{Sound}
use Rattle.gr_agree.specs.Rebuilt.{true_askers, rebuilt, is_granted_at, true_grants}
use Rattle.gr_lists.proofs.Tests.{by_test}
use Rattle.gr_lists.proofs.Each.{Each-has, Each-always}
use Rattle.gr_lists.proofs.Any.{filter-none, list_any-none}
use Rattle.gr_lists.proofs.Selections.{filter_map-map-filter}
use Rattle.gr_law_rebuilds.proofs.Rebuild.Selecting.{filter_map-none, map-filter_is}
use Rattle.gr_law_rebuilds.proofs.Rebuild.Granters.{granter-holds, granter-master, master-stays, dead-grants_none}

module _ {V A : Type 0} (P : Program V A) (t : Truth V) (S : Sound P t) (w : RebuildView) (want : ℕ) (forgets : w.forgetful ≡ P.forgetful) (p q : ℕ) where
  -- the value of a new copy: x where it is kept
  value-same : (h old_here old_there new_there kept dead : Bool) (x : V) → (dead ≡ false → old_here ≡ true) → (dead ≡ false → new_there ≡ old_there)
      → (if h && not (old_there && not dead) then None else (if h && not (old_here && kept) then None else Some x)) ≡ (if h && not (new_there && (kept && not (h && dead))) then None else Some x)
  value-same false a b n k d x here there = refl
  value-same true a true true true true x here there = refl
  value-same true a true true false true x here there = refl
  value-same true a true false k true x here there = refl
  value-same true a false true true true x here there = refl
  value-same true a false true false true x here there = refl
  value-same true a false false k true x here there = refl
  value-same true a b n k false x here there = rw (here refl, there refl) (both b k)
    where
      both : (b k : Bool) → (if not (b && true) then None else (if not k then None else Some x)) ≡ (if not (b && (k && true)) then None else Some x)
      both true true = refl
      both true false = refl
      both false k = refl

  -- the copy that p makes of its own for q is that of the state after the rebuild
  granted-copy : (v : ℕ) → is_granter w (true_entry t v) p ≡ true → granted_copy w want (copy_at P t p v) (true_askers w t v) q ≡ copy_at P (rebuilt P w want t) q v
  granted-copy v g =
      let e = true_entry t v in
      let here : has w.dead (t.master v) ≡ false → (t.master v == p) ≡ true = (λ d. eq-eqb _ _ (sym (granter-master w e p d g))) in
      let there : has w.dead (t.master v) ≡ false → (master_after w e == q) ≡ (t.master v == q) = (λ d. ap (λ n. n == q) (master-stays w e d)) in
      let value = (λ i. if (forgets i && (true_outdegree t v == 0)) && not ((t.master v == q) && not (has w.dead (t.master v))) then None else (if hidden P t v && not ((t.master v == p) && t.kept v) then None else Some (t.state.value v)))
      ∙ value-same (hidden P t v) (t.master v == p) (t.master v == q) (master_after w e == q) (t.kept v) (has w.dead (t.master v)) (t.state.value v) here there in
      (λ i. record {
        vertex = v;
        indeg = true_indegree t v;
        outdeg = true_outdegree t v;
        master = master_after w e;
        holders = new_holders w want e (true_askers w t v);
        value = value i;
        due = t.due v || ((forgets i && (true_outdegree t v == 0)) && has w.dead (t.master v));
      })

  module _ (asked : ℕ → List ℕ) where
    abbrev choice : VertexCopy V → Option (VertexCopy V)
    choice c = if is_granted_to w want p q c (asked c.vertex) then Some (granted_copy w want c (asked c.vertex) q) else None

    -- a place that is not dead, by who asked it for the vertices that it grants
    pub grant-body-true : ((v : ℕ) → has t.vertices v ≡ true → is_granter w (true_entry t v) p ≡ true → asked v ≡ true_askers w t v)
        → grant_body w want p asked (rows_at P t p) q ≡ true_grants P w want t p q
    unfolding grant_body rows_at true_grants
    grant-body-true asks = filter_map-map-filter choice (copy_at P t p) (λ v. if is_granter w (true_entry t v) p && is_granted_at P w want t q v then Some (copy_at P (rebuilt P w want t) q v) else None) (held t p) t.vertices
        (Each-has _ t.vertices (λ v m. by_test (is_granter w (true_entry t v) p)
        (λ g. ((λ h. given v g (asks v m g)), (λ no_copy. absurd (both_ways _ no_copy (granter-holds w (true_entry t v) p (S.master_holds v m) g)))))
        (λ g. ((λ h. rw g refl), (λ no_copy. rw g refl)))))
        ∙ sym (map-filter_is (copy_at P (rebuilt P w want t) q) (λ v. is_granter w (true_entry t v) p && is_granted_at P w want t q v) t.vertices)
      where
        given : (v : ℕ) → is_granter w (true_entry t v) p ≡ true → asked v ≡ true_askers w t v
            → (if is_granted_to w want p q (copy_at P t p v) (asked v) then Some (granted_copy w want (copy_at P t p v) (asked v) q) else None)
            ≡ (if is_granter w (true_entry t v) p && is_granted_at P w want t q v then Some (copy_at P (rebuilt P w want t) q v) else None)
        given v g e = (λ i. if is_granter w (true_entry t v) p && (is_granted w want (true_entry t v) (e i) && has (new_holders w want (true_entry t v) (e i)) q) then Some (granted_copy w want (copy_at P t p v) (e i) q) else None)
            ∙ (λ i. if is_granter w (true_entry t v) p && is_granted_at P w want t q v then Some (granted-copy v g i) else None)

    -- a dead place, whatever its rows
    pub grant-body-none : has w.dead p ≡ true → (rows : List (VertexCopy V)) → grant_body w want p asked rows q ≡ true_grants P w want t p q
    unfolding grant_body true_grants
    grant-body-none d rows = filter_map-none choice rows (Each-always (λ c. choice c ≡ None) (λ c. rw (dead-grants_none w (entry c) p d) refl) rows)
        ∙ sym (ap (map (copy_at P (rebuilt P w want t) q)) (filter-none _ t.vertices (list_any-none _ t.vertices (Each-always _ (λ v. and_left _ _ (dead-grants_none w (true_entry t v) p d)) t.vertices))))
