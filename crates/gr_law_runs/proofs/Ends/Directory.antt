-- The directory that the committed logs say, and the vertices that are lost.
use Rattle.std.proofs.Common.{◌≡◌, ◌<◌, ℕ, List, [], ◌∷◌, ◌++◌, Bool, true, false, not, ◌==◌, ◌&&◌, nat_lt, map, filter, flat_map, refl, sym, ap, ◌∙◌, subst, arith, eq-eqb, ne_eqb, ltb-true, ltb-false}
use Rattle.std.specs.List.{fold, list_all, list_any, AllByRecursion as Each}
use Rattle.std.proofs.Math.Bool.{and-true}
use Rattle.std.proofs.lemmas.Bool.{and_from, and_parts, and_right, both_ways, not-true}
use Rattle.std.proofs.lemmas.List.{map-append}
use Rattle.gr_base.specs.Rising.{RisesBy, has, includes, with_item}
use Rattle.gr_base.specs.Places.{below, with_place}
use Rattle.gr_base.proofs.Rising.{filter-rises}
use Rattle.gr_base.proofs.Ranges.{has-range, range-within}
use Rattle.gr_program.specs.Program.{Program}
use Rattle.gr_copies.proofs.Selecting.{filter-filter}
use Rattle.gr_log.specs.Directory.{Entry, directory_in, with_items}
use Rattle.gr_rules.specs.Lost.{lost_of}
use Rattle.gr_cluster.specs.Tables.{Cluster, log}
use Rattle.gr_cluster.specs.Directory.{unretired, directory_of}
use Rattle.gr_cluster.specs.Step.{lost_list}
use Rattle.gr_agree.specs.Truth.{Truth, held, true_entry, entries_at}
use Rattle.gr_agree.specs.Agree.{Agree}
use Rattle.gr_lists.proofs.Tests.{by_test}
use Rattle.gr_lists.proofs.Any.{has-filter, list_any-none}
use Rattle.gr_lists.proofs.Chosen.{map-undone}
use Rattle.gr_lists.proofs.Each.{Each-always, Each-has}
use Rattle.gr_lists.proofs.Items.{items-rising, parts-whole}
use Rattle.gr_lists.proofs.Maps.{Each-map, filter-map, map-rises}
use Rattle.gr_lists.proofs.Numbers.{any-has}
use Rattle.gr_lists.proofs.Selections.{map-filter-map-filter}
use Rattle.gr_law_rebuilds.proofs.Epoch.Places.{has-included, live-not_dead, dead-within, dead-not_retired}

-- ---- numbers put into a rising list, as items

place-item : (p : ℕ) (ps : List ℕ) → with_place ps p ≡ with_item (λ v. v) p ps
place-item p [] = refl
place-item p (q ∷ qs) = by_test (nat_lt p q)
    (λ l. let lt = ltb-true p q l in
    let no : nat_lt q p ≡ false = by_test (nat_lt q p) (λ k. absurd (let k' = ltb-true q p k in omega (arith, lt, k'))) (λ k. k) in
    let ne : (q == p) ≡ false = ne_eqb q p (λ e. absurd (omega (arith, lt, e))) in rw (l, no, ne) refl)
    (λ l. by_test (nat_lt q p)
    (λ m. rw (l, m) (ap (λ xs. q ∷ xs) (place-item p qs)))
    (λ m. let below = ltb-false p q l in let above = ltb-false q p m in
    let same : q ≡ p = omega (arith, below, above) in
    let same' : (q == p) ≡ true = eq-eqb q p same in rw (l, m, same') (ap (λ x. x ∷ qs) same)))

rising-items : (xs ys : List ℕ) → fold with_place ys xs ≡ with_items (λ v. v) xs ys
rising-items [] ys = refl
rising-items (x ∷ xs) ys = rising-items xs (with_place ys x) ∙ ap (λ l. with_items (λ v. v) xs l) (place-item x ys)

map-flat_map : {X Y Z : Type 0} (f : Y → Z) (g : X → List Y) (xs : List X) → map f (flat_map g xs) ≡ flat_map (λ x. map f (g x)) xs
map-flat_map f g [] = refl
map-flat_map f g (x ∷ xs) = map-append f (g x) (flat_map g xs) ∙ ap (λ l. map f (g x) ++ l) (map-flat_map f g xs)

-- where not all pass a test, some does not
not_all-some : (f : ℕ → Bool) (xs : List ℕ) → list_all f xs ≡ false → list_any (λ x. not (f x)) xs ≡ true
not_all-some f [] h = absurd (let bad : true ≡ false = h in cc)
not_all-some f (x ∷ xs) h = by_test (f x)
    (λ k. rw k (not_all-some f xs (rw k at h)))
    (λ k. rw k refl)

module _ {V A : Type 0} (P : Program V A) (t : Truth V) (c : Cluster V A) (AG : Agree P t c) where
  abbrev vertex : Entry → ℕ
  vertex e = e.vertex

  -- ---- the directory

  is-unretired : (p : ℕ) → p < c.places → has c.coordinator.retired p ≡ false → has (unretired c) p ≡ true
  is-unretired p lt r =
      has-filter (λ q. not (has c.coordinator.retired q)) (below c.places) p
      ∙ and_from _ _ (has-range 0 c.places p (omega arith) (omega (arith, lt))) (ap not r)

  unretired-is : (p : ℕ) → has (unretired c) p ≡ true → (p < c.places) × (has c.coordinator.retired p ≡ false)
  unretired-is p m =
      let both = and_parts (has (below c.places) p) (not (has c.coordinator.retired p)) (sym (has-filter (λ q. not (has c.coordinator.retired q)) (below c.places) p) ∙ m) in
      let lt = range-within 0 c.places p both.0 in (omega (arith, lt), not-true _ both.1)

  abbrev entries : List Entry
  entries = map (true_entry t) t.vertices

  entries-rise : RisesBy vertex entries
  entries-rise = map-rises (true_entry t) vertex t.vertices AG.committed.sound.rise

  abbrev holds : ℕ → Entry → Bool
  holds p e = has e.holders p

  entries_at-filter : (p : ℕ) → entries_at t p ≡ filter (holds p) entries
  unfolding entries_at
  entries_at-filter p = sym (filter-map (holds p) (true_entry t) t.vertices)

  -- the committed logs say an entry of each vertex
  pub directory-is : directory_of c ≡ entries
  unfolding directory_of
  directory-is = parts-whole vertex (λ p. directory_in (log c p).committed) holds entries entries-rise (unretired c)
      (Each-has _ (unretired c) (λ p m. let k = unretired-is p m in
      ap (λ l. with_items vertex l []) (AG.committed.logs.entries p k.0 k.1 ∙ entries_at-filter p)
      ∙ items-rising vertex (filter (holds p) entries) (filter-rises vertex (holds p) entries entries-rise)))
      (Each-map _ (true_entry t) t.vertices (Each-has _ t.vertices (λ v m.
      let mine = AG.committed.sound.master_holds v m in let k = AG.committed.logs.holders v (t.master v) m mine in
      any-has (λ p. has (t.holders v) p) (unretired c) (t.master v) (is-unretired (t.master v) k.0 k.1) mine)))

  -- ---- the vertices that are lost

  abbrev dead : List ℕ
  dead = c.coordinator.dead

  abbrev is_lost : Entry → Bool
  is_lost e = includes dead e.holders

  abbrev lost : List ℕ
  lost = filter (λ v. includes dead (t.holders v)) t.vertices

  lost-rise : RisesBy (λ (v : ℕ). v) lost
  lost-rise = filter-rises (λ (v : ℕ). v) (λ v. includes dead (t.holders v)) t.vertices AG.committed.sound.rise

  -- those that a dead place holds
  abbrev lost_at : ℕ → List ℕ
  lost_at p = map vertex (filter is_lost (directory_in (log c p).committed))

  lost-at : (p : ℕ) → has dead p ≡ true → lost_at p ≡ filter (held t p) lost
  unfolding entries_at
  lost-at p m =
      let one = AG.committed.places.one_set p in
      ap (λ l. map vertex (filter is_lost l)) (AG.committed.logs.entries p (dead-within c.coordinator c.places p one m) (dead-not_retired c.coordinator c.places p one m))
      ∙ (map-filter-map-filter vertex (true_entry t) (λ v. refl) is_lost (held t p) (λ v. includes dead (t.holders v) && held t p v) t.vertices (Each-always _ (λ v. (λ h. sym (ap (λ b. includes dead (t.holders v) && b) h ∙ and-true (includes dead (t.holders v))), λ h. and_right (includes dead (t.holders v)) (held t p v) h)) t.vertices)
      ∙ sym (filter-filter (held t p) (λ v. includes dead (t.holders v)) t.vertices))

  lost-is : lost_list c ≡ lost
  unfolding lost_of
  lost-is =
      rising-items (map vertex (flat_map (λ p. filter is_lost (directory_in (log c p).committed)) dead)) []
      ∙ (ap (λ l. with_items (λ v. v) l []) (map-flat_map vertex (λ p. filter is_lost (directory_in (log c p).committed)) dead)
      ∙ parts-whole (λ v. v) lost_at (held t) lost lost-rise dead
      (Each-has _ dead (λ p m. ap (λ l. with_items (λ v. v) l []) (lost-at p m) ∙ items-rising (λ v. v) (filter (held t p) lost) (filter-rises (λ (v : ℕ). v) (held t p) lost lost-rise)))
      (Each-has _ lost (λ v m.
      let both = and_parts (has t.vertices v) (includes dead (t.holders v)) (sym (has-filter (λ u. includes dead (t.holders u)) t.vertices v) ∙ m) in
      let mine = AG.committed.sound.master_holds v both.0 in
      any-has (λ p. held t p v) dead (t.master v) (has-included dead (t.holders v) (t.master v) both.1 mine) mine)))

  -- exactly the vertices of the directory all of whose holders are dead
  pub lost-exact : lost_list c ≡ map vertex (filter is_lost (directory_of c))
  lost-exact = lost-is ∙ sym (
      ap (λ l. map vertex (filter is_lost l)) directory-is
      ∙ (ap (map vertex) (filter-map is_lost (true_entry t) t.vertices)
      ∙ map-undone (true_entry t) vertex (λ v. refl) lost))

  -- ---- who holds them

  -- the directory has the vertices of the committed state
  pub directory-vertices : map vertex (directory_of c) ≡ t.vertices
  directory-vertices = ap (map vertex) directory-is ∙ map-undone (true_entry t) vertex (λ v. refl) t.vertices

  -- what each vertex of the committed state meets, each entry of the directory does
  Each-entry : (Q : Entry → Type 0) → ((v : ℕ) → has t.vertices v ≡ true → Q (true_entry t v)) → Each Q (directory_of c)
  Each-entry Q q = subst (Each Q) (sym directory-is) (Each-map Q (true_entry t) t.vertices (Each-has _ t.vertices q))

  is-lost : (v : ℕ) → has (lost_list c) v ≡ (has t.vertices v && includes dead (t.holders v))
  is-lost v = ap (λ l. has l v) lost-is ∙ has-filter (λ u. includes dead (t.holders u)) t.vertices v

  -- no live place holds a vertex that is lost
  pub lost-not_live : Each (λ e. has (lost_list c) e.vertex ≡ true → list_any (has c.coordinator.live) e.holders ≡ false) (directory_of c)
  lost-not_live = Each-entry _ (λ v there l.
      let all = (and_parts (has t.vertices v) (includes dead (t.holders v)) (sym (is-lost v) ∙ l)).1 in
      list_any-none (has c.coordinator.live) (t.holders v) (Each-has _ (t.holders v) (λ p m. by_test (has c.coordinator.live p)
      (λ live. absurd (both_ways _ (live-not_dead c.coordinator c.places p (AG.committed.places.one_set p) live) (has-included dead (t.holders v) p all m)))
      (λ none. none))))

  -- each other vertex has a holder that is not dead
  pub others-held : Each (λ e. has (lost_list c) e.vertex ≡ false → list_any (λ p. not (has dead p)) e.holders ≡ true) (directory_of c)
  others-held = Each-entry _ (λ v there l.
      not_all-some (has dead) (t.holders v) (sym (ap (λ b. b && includes dead (t.holders v)) there) ∙ (sym (is-lost v) ∙ l)))
