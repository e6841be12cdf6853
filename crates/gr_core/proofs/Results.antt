-- The values of all places, place by place.
use Rattle.std.proofs.Common.{◌≡◌, ◌∙◌, ◌+◌, ◌++◌, ℕ, zero, suc, List, [], ◌∷◌, Option, Some, None, ap, arith}
use Rattle.std.specs.Prelude.{flat_map}
use Rattle.std.specs.List.{range_with_len}
use Rattle.std.proofs.lemmas.List.{append-nil}
use Rattle.std.proofs.lemmas.List.Sums.{fold-append}
use Rattle.std.proofs.lemmas.Grind.{flat_map-append}
use Rattle.gr_base.specs.Places.{below}
use Rattle.gr_base.specs.Rising.{RisesBy, with_item}
use Rattle.gr_base.proofs.Rising.{rises-nil}
use Rattle.gr_program.specs.declared.copy.VertexCopy.{VertexCopy}
use Rattle.gr_program.specs.declared.program.ValueOf.{ValueOf}
use Rattle.gr_lists.proofs.Items.{items-rise}
use Rattle.gr_log.specs.Directory.{with_items}
use Rattle.gr_cluster.specs.Tables.{Host, Cluster, host, effective}
use Rattle.gr_cluster.specs.Ending.{values_at}
use Rattle.gr_core.specs.Values.{vertex_in, mastered_in}

-- a range with one number more
range-more : (a n : ℕ) → range_with_len a (suc n) ≡ range_with_len a n ++ (a + n) ∷ []
range-more a zero = let same : a ≡ a + 0 = omega arith in ap (λ m. m ∷ []) same
range-more a (suc n) =
    let same : (a + 1) + n ≡ a + suc n = omega arith in
    ap (λ l. a ∷ l) (range-more (a + 1) n ∙ ap (λ m. range_with_len (a + 1) n ++ m ∷ []) same)

below-more : (p : ℕ) → below (p + 1) ≡ below p ++ p ∷ []
below-more p =
    let more : p + 1 ≡ suc p = omega arith in
    let end : 0 + p ≡ p = omega arith in
    ap (range_with_len 0) more ∙ (range-more 0 p ∙ ap (λ m. below p ++ m ∷ []) end)

module _ {V A : Type 0} (c : Cluster V A) where
  -- what a host shows of its copies
  abbrev shown : Option (Host V A) → List (VertexCopy V)
  shown o = elim o [ None ↦ [] | Some h ↦ effective c.coordinator.commits h ]

  pub values-up : (p : ℕ) (h : Host V A) → host c p ≡ Some h → values_at c p ≡ mastered_in p (effective c.coordinator.commits h)
  values-up p h at = ap (mastered_in p) (ap shown at)

  pub values-down : (p : ℕ) → host c p ≡ None → values_at c p ≡ []
  values-down p at = ap (mastered_in p) (ap shown at)

  -- the values of the places below one
  abbrev pub merged_below : ℕ → List (ValueOf V)
  merged_below p = with_items vertex_in (flat_map (values_at c) (below p)) []

  pub merged-more : (p : ℕ) → merged_below (p + 1) ≡ with_items vertex_in (values_at c p) (merged_below p)
  merged-more p =
      let put : List (ValueOf V) → ValueOf V → List (ValueOf V) = λ ys x. with_item vertex_in x ys in
      ap (λ l. with_items vertex_in (flat_map (values_at c) l) []) (below-more p)
      ∙ (ap (λ l. with_items vertex_in l []) (flat_map-append (values_at c) (below p) (p ∷ []))
      ∙ (fold-append put [] (flat_map (values_at c) (below p)) (flat_map (values_at c) (p ∷ []))
      ∙ ap (λ l. with_items vertex_in l (merged_below p)) (append-nil (values_at c p))))

  pub merged-rises : (p : ℕ) → RisesBy vertex_in (merged_below p)
  merged-rises p = items-rise vertex_in (flat_map (values_at c) (below p)) [] (rises-nil vertex_in)
