-- How many copies of a pending layer a place can report as due.
use Rattle.std.proofs.Common.{◌≡◌, ◌≤◌, ◌+◌, ◌*◌, ℕ, List, [], ◌∷◌, true, false, cond, ◌==◌, ◌&&◌, map, filter, length, refl, sym, ap, ◌∙◌, arith, Some, None, eqb-true, if◌then◌else◌}
use Rattle.std.specs.Prelude.{is_none}
use Rattle.std.specs.List.{AllByRecursion as Each}
use Rattle.std.proofs.Math.Nat.{mul-add}
use Rattle.std.proofs.lemmas.Bool.{and_right}
use Rattle.std.proofs.lemmas.List.{length-map}
use Rattle.std.proofs.lemmas.List.Sums.{length-filter, count_by-le-length}
use Rattle.gr_base.specs.Rising.{RisesBy, has}
use Rattle.gr_base.specs.Places.{with_place}
use Rattle.gr_base.proofs.Rising.{filter-rises, keys-rise}
use Rattle.gr_program.specs.declared.copy.VertexCopy.{VertexCopy}
use Rattle.gr_program.specs.Program.{Program}
use Rattle.gr_copies.specs.declared.view.RebuildView.{RebuildView}
use Rattle.gr_log.specs.Directory.{with_items}
use Rattle.gr_rules.specs.Rows.{blank_copy}
use Rattle.gr_rules.specs.AtPlace.{due_count}
use Rattle.gr_agree.specs.Truth.{Truth, held, held_at, true_entry, entries_at, copy_at, rows_at}
use Rattle.gr_agree.specs.Logs.{Sound}
use Rattle.gr_agree.specs.Rebuilt.{rebuilt, is_granted_at, true_granted, stable_at}
use Rattle.gr_lists.proofs.Tests.{by_test}
use Rattle.gr_lists.proofs.Each.{Each-has, Each-filter}
use Rattle.gr_lists.proofs.Any.{has-filter}
use Rattle.gr_lists.proofs.Items.{items-rise}
use Rattle.gr_lists.proofs.Numbers.{find-number, same-numbers}
use Rattle.gr_lists.proofs.Maps.{Each-map, map-rises}
use Rattle.gr_law_rebuilds.proofs.Rebuild.Once.{length-with_item, put-all}
use Rattle.gr_law_rebuilds.proofs.Rebuild.Selecting.{with_place-item}

-- a rising list is no longer than another one in which all its numbers stand
length-within : (xs ys : List ℕ) → RisesBy (λ n. n) xs → RisesBy (λ n. n) ys → ((v : ℕ) → has xs v ≡ true → has ys v ≡ true) → length xs ≤ length ys
length-within xs ys r s inside =
    let same : xs ≡ filter (has xs) ys = same-numbers xs (filter (has xs) ys) r (filter-rises (λ n. n) (has xs) ys s) (λ v. by_test (has xs v)
    (λ e. e ∙ sym (has-filter (has xs) ys v ∙ rw (e, inside v e) refl))
    (λ e. e ∙ sym (has-filter (has xs) ys v ∙ (ap (λ b. has ys v && b) e ∙ and_right (has ys v) false refl)))) in
    let long = ap length same in let few = length-filter (has xs) ys in let le = count_by-le-length (has xs) ys in omega (arith, long, few, le)

-- one more place makes a set without it longer by one
pub length-with_place : (ps : List ℕ) (p : ℕ) → RisesBy (λ n. n) ps → has ps p ≡ false → length (with_place ps p) ≡ length ps + 1
length-with_place ps p r n =
    ap length (with_place-item ps p) ∙ (length-with_item (λ q. q) p ps r ∙ ap (λ o. length ps + cond (is_none o) 1 0) (find-number ps p ∙ ap (λ b. if b then Some p else None) n))

-- the bound of what is due, with one more report
pub due-more : (n due d k : ℕ) → due ≤ n * k → d ≤ n → due + d ≤ n * (k + 1)
due-more n due d k a b = let e = mul-add n k 1 in omega (arith, a, b, e)

module _ {V : Type 0} (vs : List ℕ) (rise : RisesBy (λ v. v) vs) where
  abbrev vertex : VertexCopy V → ℕ
  vertex c = c.vertex

  vertices-there : (rows : List (VertexCopy V)) → Each (λ c. has vs c.vertex ≡ true) rows → (v : ℕ) → has (map vertex rows) v ≡ true → has vs v ≡ true
  vertices-there [] h v m = absurd (let bad : false ≡ true = m in cc)
  vertices-there (c ∷ rows) h v m = by_test (c.vertex == v)
      (λ e. ap (has vs) (sym (eqb-true c.vertex v e)) ∙ h.0)
      (λ e. let m' : has (map vertex rows) v ≡ true = rw e at m in vertices-there rows h.1 v m')

  -- copies of some vertices, one of each at most
  due-few : (p : ℕ) (rows : List (VertexCopy V)) → RisesBy vertex rows → Each (λ c. has vs c.vertex ≡ true) rows → due_count p rows ≤ length vs
  due-few p rows r h =
      let few = count_by-le-length (λ (c : VertexCopy V). (c.master == p) && c.due) rows in let long = length-map rows vertex in
      let le = length-within (map vertex rows) vs (keys-rise vertex rows r) rise (vertices-there rows h) in omega (arith, few, long, le)

module _ {V A : Type 0} (P : Program V A) (t : Truth V) (S : Sound P t) (w : RebuildView) (want p : ℕ) where
  abbrev key : VertexCopy V → ℕ
  key c = c.vertex

  abbrev IsThere : VertexCopy V → Type 0
  IsThere c = has t.vertices c.vertex ≡ true

  held-rise : RisesBy (λ v. v) (held_at t p)
  held-rise = filter-rises (λ v. v) (held t p) t.vertices S.rise

  stable-rises : RisesBy key (stable_at P w want t p)
  unfolding rows_at entries_at
  stable-rises = by_test (has w.reborn p)
      (λ r. rw r (map-rises blank_copy key (map (true_entry t) (held_at t p)) (map-rises (true_entry t) (λ e. e.vertex) (held_at t p) held-rise)))
      (λ r. rw r (map-rises (copy_at P t p) key (held_at t p) held-rise))

  stable-there : Each IsThere (stable_at P w want t p)
  unfolding rows_at entries_at
  stable-there = by_test (has w.reborn p)
      (λ r. rw r (Each-map IsThere blank_copy (map (true_entry t) (held_at t p)) (Each-map (λ e. IsThere (blank_copy e)) (true_entry t) (held_at t p) (Each-filter _ (held t p) t.vertices (Each-has _ t.vertices (λ v m. m))))))
      (λ r. rw r (Each-map IsThere (copy_at P t p) (held_at t p) (Each-filter _ (held t p) t.vertices (Each-has _ t.vertices (λ v m. m)))))

  granted-there : Each IsThere (true_granted P w want t p)
  unfolding true_granted
  granted-there = Each-map IsThere (copy_at P (rebuilt P w want t) p) (filter (is_granted_at P w want t p) t.vertices) (Each-filter _ (is_granted_at P w want t p) t.vertices (Each-has _ t.vertices (λ v m. m)))

  -- what a place reports at the end of a rebuild
  pub due-bounded : due_count p (with_items key (true_granted P w want t p) (stable_at P w want t p)) ≤ length t.vertices
  due-bounded = due-few t.vertices S.rise p _ (items-rise key (true_granted P w want t p) (stable_at P w want t p) stable-rises) (put-all key IsThere (true_granted P w want t p) (stable_at P w want t p) granted-there stable-there)
