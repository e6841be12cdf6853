-- The copies and the entries of a place after a rebuild: those of before, with those that are granted to it.
use Rattle.std.proofs.Common.{◌≡◌, ℕ, Bool, true, false, map, filter, refl, ap, ◌∙◌, Some, if◌then◌else◌}
use Rattle.std.proofs.lemmas.Bool.{and_from, and_parts, both_ways, false_from_ne_true}
use Rattle.std.proofs.lemmas.Simd.{map-map}
use Rattle.gr_base.specs.Rising.{RisesBy, has}
use Rattle.gr_program.specs.declared.copy.VertexCopy.{VertexCopy}
use Rattle.gr_program.specs.Program.{Program}
use Rattle.gr_copies.specs.declared.view.RebuildView.{RebuildView}
use Rattle.gr_copies.specs.Granter.{is_retiring}
use Rattle.gr_log.specs.Directory.{Entry, with_items}
use Rattle.gr_rules.specs.Rows.{blank_copy, entry}
use Rattle.gr_agree.specs.Truth.{Truth, held, held_at, true_entry, entries_at, copy_at, rows_at}
use Rattle.gr_agree.specs.Rebuilt.{is_granted_at, true_granted, stable_at, rebuilt}
use Rattle.gr_lists.proofs.Tests.{by_test}
use Rattle.gr_law_rebuilds.proofs.Restore.Fits.{Fits}
use Rattle.gr_law_rebuilds.proofs.Restore.Items.{chosen, items-replaced}
use Rattle.gr_law_rebuilds.proofs.Restore.Holders.{anew, holder-stays, holder-not_dead, holders-same, entry-same, copy-same}

module _ {V A : Type 0} (P : Program V A) (w : RebuildView) (want : ℕ) (t : Truth V) (F : Fits w t) (rise : RisesBy (λ v. v) t.vertices) (p : ℕ) (stays : is_retiring w p ≡ false) where
  abbrev t' : Truth V
  t' = rebuilt P w want t

  abbrev granted_here : ℕ → Bool
  granted_here v = is_granted_at P w want t p v

  module _ {Y : Type 0} (key : Y → ℕ) (f g : ℕ → Y) (fs : (v : ℕ) → key (f v) ≡ v) (gs : (v : ℕ) → key (g v) ≡ v)
      (same : (v : ℕ) → has t.vertices v ≡ true → anew P w want t v ≡ false → held t p v ≡ true → g v ≡ f v) where
    not-granted : (v : ℕ) → has t.vertices v ≡ true → granted_here v ≡ false → chosen (held t p) g v ≡ chosen (held t' p) f v
    not-granted v there n = by_test (anew P w want t v)
        (λ k.
        let gone : held t' p v ≡ false = false_from_ne_true _ (λ h. both_ways _ n (and_from _ _ k h)) in
        let was : held t p v ≡ false = false_from_ne_true _ (λ h. both_ways _ gone (holder-stays P w want t F v there p stays h)) in
        rw (was, gone) refl)
        (λ k.
        let hs : held t' p v ≡ held t p v = ap (λ l. has l p) (holders-same P w want t F v there k) in
        by_test (held t p v)
        (λ h. let h' : held t' p v ≡ true = hs ∙ h in rw (h, h') (ap Some (same v there k h)))
        (λ h. let h' : held t' p v ≡ false = hs ∙ h in rw (h, h') refl))

    -- what is granted, in the place of what was held
    granted-replaces : with_items key (map f (filter granted_here t.vertices)) (map g (filter (held t p) t.vertices)) ≡ map f (filter (held t' p) t.vertices)
    granted-replaces = items-replaced key t.vertices rise f g fs gs (held t p) granted_here (held t' p) (λ v there k. (and_parts _ _ k).1) not-granted

  live-rows : with_items (λ (r : VertexCopy V). r.vertex) (true_granted P w want t p) (rows_at P t p) ≡ rows_at P t' p
  unfolding true_granted rows_at
  live-rows = granted-replaces (λ (r : VertexCopy V). r.vertex) (copy_at P t' p) (copy_at P t p) (λ v. refl) (λ v. refl) (λ v there k h. copy-same P w want t F v there k p)

  -- at a reborn place, which was dead, each vertex is granted anew
  reborn-rows : has w.reborn p ≡ true → with_items (λ (r : VertexCopy V). r.vertex) (true_granted P w want t p) (map blank_copy (entries_at t p)) ≡ rows_at P t' p
  unfolding true_granted rows_at entries_at
  reborn-rows b =
      ap (with_items (λ (r : VertexCopy V). r.vertex) (map (copy_at P t' p) (filter granted_here t.vertices))) (map-map blank_copy (true_entry t) (held_at t p))
      ∙ granted-replaces (λ (r : VertexCopy V). r.vertex) (copy_at P t' p) (λ v. blank_copy (true_entry t v)) (λ v. refl) (λ v. refl)
      (λ v there k h. absurd (both_ways _ (holder-not_dead P w want t F v there k p h) (F.reborn_dead p b)))

  pub rows-after : with_items (λ (r : VertexCopy V). r.vertex) (true_granted P w want t p) (stable_at P w want t p) ≡ rows_at P t' p
  rows-after = by_test (has w.reborn p)
      (λ b. ap (λ k. with_items (λ (r : VertexCopy V). r.vertex) (true_granted P w want t p) (if k then map blank_copy (entries_at t p) else rows_at P t p)) b ∙ reborn-rows b)
      (λ b. ap (λ k. with_items (λ (r : VertexCopy V). r.vertex) (true_granted P w want t p) (if k then map blank_copy (entries_at t p) else rows_at P t p)) b ∙ live-rows)

  pub entries-after : with_items (λ (e : Entry). e.vertex) (map entry (true_granted P w want t p)) (entries_at t p) ≡ entries_at t' p
  unfolding true_granted entries_at
  entries-after =
      ap (λ l. with_items (λ (e : Entry). e.vertex) l (map (true_entry t) (held_at t p))) (map-map entry (copy_at P t' p) (filter granted_here t.vertices))
      ∙ granted-replaces (λ (e : Entry). e.vertex) (true_entry t') (true_entry t) (λ v. refl) (λ v. refl) (λ v there k h. entry-same P w want t F v there k)
