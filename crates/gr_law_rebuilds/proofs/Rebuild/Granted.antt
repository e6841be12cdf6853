-- All copies that are granted to a place.
use Rattle.std.proofs.Common.{◌≡◌, ℕ, List, [], ◌∷◌, ◌++◌, Bool, true, false, ◌&&◌, map, filter, flat_map, refl, sym, ap, ◌∙◌}
use Rattle.std.specs.List.{AllByRecursion as Each, list_any}
use Rattle.std.proofs.lemmas.List.Concat.{flat_map-append}
use Rattle.std.proofs.Math.Bool.{and_comm}
use Rattle.gr_base.specs.Rising.{RisesBy, has, includes}
use Rattle.gr_base.proofs.Rising.{filter-rises}
use Rattle.gr_program.specs.declared.copy.VertexCopy.{VertexCopy}
use Rattle.gr_program.specs.Program.{Program}
use Rattle.gr_copies.specs.declared.view.RebuildView.{RebuildView}
use Rattle.gr_log.specs.Directory.{with_items}
use Rattle.gr_rules.specs.Taken.{is_granter}
use Rattle.gr_agree.specs.Truth.{Truth, true_entry, copy_at}
use Rattle.gr_agree.specs.Logs.{Sound}
use Rattle.gr_agree.specs.Rebuilt.{rebuilt, is_granted_at, true_granted, true_grants}
use Rattle.gr_lists.proofs.Each.{Each-has, Each-always, Each-filter}
use Rattle.gr_lists.proofs.Items.{items-rising, parts-whole}
use Rattle.gr_lists.proofs.Maps.{Each-map, filter-map, map-rises}
use Rattle.gr_lists.proofs.Numbers.{any-has}
use Rattle.gr_law_rebuilds.proofs.Rebuild.Selecting.{filter-agree, filter-both}
use Rattle.gr_law_rebuilds.proofs.Rebuild.Granters.{granter-there}

module _ {V A : Type 0} (P : Program V A) (t : Truth V) (S : Sound P t) (w : RebuildView) (want p : ℕ) where
  abbrev vertex : VertexCopy V → ℕ
  vertex c = c.vertex

  abbrev made : ℕ → VertexCopy V
  made v = copy_at P (rebuilt P w want t) p v

  abbrev granted_at : ℕ → Bool
  granted_at v = is_granted_at P w want t p v

  abbrev by : ℕ → VertexCopy V → Bool
  by q c = is_granter w (true_entry t c.vertex) q

  made-rise : (f : ℕ → Bool) → RisesBy vertex (map made (filter f t.vertices))
  made-rise f = map-rises made vertex (filter f t.vertices) (filter-rises (λ v. v) f t.vertices S.rise)

  part-is : (q : ℕ) → with_items vertex (true_grants P w want t q p) [] ≡ filter (by q) (true_granted P w want t p)
  unfolding true_grants true_granted
  part-is q = items-rising vertex _ (made-rise (λ v. is_granter w (true_entry t v) q && granted_at v))
      ∙ sym (filter-map (by q) made (filter granted_at t.vertices)
      ∙ ap (map made) (filter-both (λ v. is_granter w (true_entry t v) q) granted_at t.vertices
      ∙ filter-agree _ _ t.vertices (Each-always _ (λ v. and_comm (granted_at v) (is_granter w (true_entry t v) q)) t.vertices)))

  -- what others grant to p, and what it grants to itself
  pub granted-true : (qs : List ℕ) → ((v q : ℕ) → has t.vertices v ≡ true → is_granter w (true_entry t v) q ≡ true → has (qs ++ p ∷ []) q ≡ true)
      → ((v : ℕ) → has t.vertices v ≡ true → includes w.dead (t.holders v) ≡ false)
      → with_items vertex (flat_map (λ q. true_grants P w want t q p) qs ++ true_grants P w want t p p) [] ≡ true_granted P w want t p
  unfolding true_granted
  granted-true qs among some_alive =
      ap (λ xs. with_items vertex xs []) (sym (flat_map-append (λ q. true_grants P w want t q p) qs (p ∷ []) ∙ ap (λ l. flat_map (λ q. true_grants P w want t q p) qs ++ l) (append-nil (true_grants P w want t p p))))
      ∙ parts-whole vertex (λ q. true_grants P w want t q p) by (true_granted P w want t p) whole-rises (qs ++ p ∷ []) (Each-always _ part-is (qs ++ p ∷ [])) covered
    where
      append-nil : (xs : List (VertexCopy V)) → xs ++ [] ≡ xs
      append-nil [] = refl
      append-nil (x ∷ xs) = ap (λ l. x ∷ l) (append-nil xs)

      whole-rises : RisesBy vertex (true_granted P w want t p)
      whole-rises = made-rise granted_at

      covered : Each (λ c. list_any (λ q. by q c) (qs ++ p ∷ []) ≡ true) (true_granted P w want t p)
      covered = Each-map _ made (filter granted_at t.vertices) (Each-filter _ granted_at t.vertices (Each-has _ t.vertices (λ v m.
          let g = granter-there w (true_entry t v) (some_alive v m) in any-has (λ q. is_granter w (true_entry t v) q) (qs ++ p ∷ []) g.0 (among v g.0 m g.1) g.1)))
