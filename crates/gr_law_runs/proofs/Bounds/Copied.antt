-- Under a forgetful program no batch of the present epoch tells a value of a vertex without readers.
use Rattle.std.proofs.Common.{◌≡◌, ◌≢◌, ℕ, true, false, not, ◌&&◌, ◌==◌, sym, ap, ◌∙◌, Some, None, if◌then◌else◌, eq-eqb, ne_eqb}
use Rattle.std.specs.List.{AllByRecursion as Each}
use Rattle.std.proofs.lemmas.Bool.{and_from, and_left, and_parts, both_ways, not-true}
use Rattle.std.proofs.Math.Bool.{and-false}
use Rattle.gr_base.specs.Rising.{has}
use Rattle.gr_program.specs.declared.copy.VertexCopy.{VertexCopy}
use Rattle.gr_program.specs.Program.{Program}
use Rattle.gr_copies.specs.declared.view.RebuildView.{RebuildView}
use Rattle.gr_batch.specs.declared.body.Body.{Body}
use Rattle.gr_batch.specs.declared.body.Body.TheVariants as body
use Rattle.gr_batch.specs.declared.body.NewValue.{NewValue}
use Rattle.gr_rules.specs.Taken.{is_granter, master_after}
use Rattle.gr_cluster.specs.Tables.{Cluster, view_of, wanted_in}
use Rattle.gr_agree.specs.Truth.{Truth, edge_list, true_outdegree, true_entry, hidden, copy_at}
use Rattle.gr_agree.specs.TrueRound.{true_value, true_values}
use Rattle.gr_agree.specs.Rebuilt.{is_orphan, rebuilt, is_granted_at, true_grants}
use Rattle.gr_agree.specs.TrueBody.{TrueBody}
use Rattle.gr_agree.specs.Agree.{Agree}
use Rattle.gr_agree.specs.Bounds.{HidesUnread}
use Rattle.gr_lists.proofs.Tests.{by_test}
use Rattle.gr_lists.proofs.Each.{Each-always, Each-weaker}
use Rattle.gr_lists.proofs.Maps.{Each-map}
use Rattle.gr_lists.proofs.Chosen.{if-some, Each-filter_map, Each-passing}
use Rattle.gr_law_rebuilds.proofs.Rebuild.Granters.{granter-master, master-stays}

module _ {V A : Type 0} (P : Program V A) (forgetful : P.forgetful ≡ true) (t : Truth V) where
  -- a new value of a vertex that has readers
  abbrev IsRead : NewValue V → Type 0
  IsRead x = true_outdegree t x.vertex ≢ 0

  -- a copy that has no value where its vertex has no readers
  abbrev IsBare : VertexCopy V → Type 0
  IsBare x = true_outdegree t x.vertex ≡ 0 → x.value ≡ None

  not-hidden : (v : ℕ) → hidden P t v ≡ false → true_outdegree t v ≢ 0
  not-hidden v n none = both_ways _ n (and_from _ _ forgetful (eq-eqb (true_outdegree t v) 0 none))

  values-read : (p q : ℕ) → Each IsRead (true_values P t p q)
  unfolding true_values
  values-read p q = Each-filter_map (true_value P t p q) IsRead t.vertices (Each-always _ (λ v.
      if-some IsRead _ _ (λ k.
      let told = (and_parts _ _ k).0 in
      not-hidden v (not-true (hidden P t v) (and_parts (t.due v) (not (hidden P t v)) told).1))) t.vertices)

  module _ (w : RebuildView) (want p q : ℕ) (apart : p ≢ q) where
    -- a granter other than q gives q no hidden value: either it stays the master, or the value is gone with the master
    keeps-back : (v : ℕ) → is_granter w (true_entry t v) p ≡ true → hidden P t v ≡ true
        → ((master_after w (true_entry t v) == q) && (t.kept v && not (is_orphan P w want t v))) ≡ false
    keeps-back v g none = by_test (has w.dead (t.master v))
        (λ d. let gone : is_orphan P w want t v ≡ true = and_from _ _ none d in
        ap (λ b. (master_after w (true_entry t v) == q) && (t.kept v && not b)) gone
        ∙ (ap (λ b. (master_after w (true_entry t v) == q) && b) (and-false (t.kept v)) ∙ and-false (master_after w (true_entry t v) == q)))
        (λ a. and_left _ _ (ap (λ m. m == q) (master-stays w (true_entry t v) a ∙ sym (granter-master w (true_entry t v) p a g)) ∙ ne_eqb p q apart))

    granted-bare : (v : ℕ) → is_granter w (true_entry t v) p ≡ true → IsBare (copy_at P (rebuilt P w want t) q v)
    granted-bare v g none =
        let hides : hidden P t v ≡ true = and_from _ _ forgetful (eq-eqb (true_outdegree t v) 0 none) in
        let back = keeps-back v g hides in
        λ i. if hides i && not (back i) then None else Some (t.state.value v)

    grants-bare : Each IsBare (true_grants P w want t p q)
    unfolding true_grants
    grants-bare = Each-map IsBare (copy_at P (rebuilt P w want t) q) _
        (Each-passing _ _ t.vertices (Each-always _ (λ v k. granted-bare v (and_parts (is_granter w (true_entry t v) p) (is_granted_at P w want t q v) k).0) t.vertices))

    -- neither does any other body
    body-hides : (b : Body V A) → TrueBody P w want t p q b → HidesUnread (edge_list t) b
    body-hides (body.Update xs) is = record { updates = rw is (values-read p q); grants = tt }
    body-hides (body.Grant xs) is = record { updates = tt; grants = rw is grants-bare }
    body-hides _ is = record { updates = tt; grants = tt }

pub present-hides : {V A : Type 0} (P : Program V A) → P.forgetful ≡ true → (t : Truth V) (c : Cluster V A) → Agree P t c
    → Each (λ b. b.epoch ≡ c.coordinator.epoch → HidesUnread (edge_list t) b.body) c.flight
present-hides P forgetful t c AG = Each-weaker _ _
    (λ b B now. body-hides P forgetful t (view_of P c) (wanted_in P c) b.sender b.receiver B.apart b.body (B.body now))
    c.flight AG.open_work.network.in_flight
