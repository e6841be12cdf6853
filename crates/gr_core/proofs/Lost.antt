-- There are no more lost vertices than vertices.
use Rattle.std.proofs.Common.{◌≡◌, ◌<◌, ◌≤◌, ◌^◌, ℕ, List, [], ◌∷◌, true, false, ◌==◌, ◌||◌, refl, sym, ap, ◌∙◌, subst, arith, length, ltb, ltb-true, ltb-false, map, filter, eqb-true, eq-eqb}
use Rattle.std.specs.Prelude.{flat_map}
use Rattle.std.specs.List.{fold, AllByRecursion as Each}
use Rattle.std.proofs.lemmas.Bool.{le-ltb, ne_eqb}
use Rattle.std.proofs.lemmas.List.Elements.{recursion_from_All}
use Rattle.gr_base.specs.Rising.{RisesBy, has, includes, with_item}
use Rattle.gr_base.specs.Places.{with_place}
use Rattle.gr_base.proofs.Rising.{rises-tail, rises-head, rises-nil, with-rises}
use Rattle.gr_program.specs.Program.{Program}
use Rattle.gr_log.specs.Directory.{Entry, directory_in}
use Rattle.gr_rules.specs.Lost.{lost_of}
use Rattle.gr_cluster.specs.Tables.{Cluster, log}
use Rattle.gr_cluster.specs.Step.{lost_list}
use Rattle.gr_agree.specs.Truth.{Truth, held, true_entry, held_at, entries_at}
use Rattle.gr_agree.specs.Agree.{Agree}
use Rattle.gr_lists.proofs.Each.{Each-append, Each-filter, Each-has}
use Rattle.gr_lists.proofs.Maps.{Each-map}
use Rattle.gr_lists.proofs.Tests.{by_test}
use Rattle.gr_law_rebuilds.proofs.Epoch.Places.{dead-within, dead-not_retired}

-- a number is put among rising ones as an item is
with_place-item : (ns : List ℕ) (n : ℕ) → with_place ns n ≡ with_item (λ x. x) n ns
with_place-item [] n = refl
with_place-item (x ∷ xs) n = by_test (ltb n x)
    (λ below. let lt = ltb-true n x below in rw (below, le-ltb x n (omega (arith, lt)), ne_eqb x n (λ e. omega (arith, lt, e))) refl)
    (λ ge. by_test (ltb x n)
    (λ above. rw (ge, above) (ap (λ l. x ∷ l) (with_place-item xs n)))
    (λ le. let a = ltb-false n x ge in let b = ltb-false x n le in let e : x ≡ n = omega (arith, a, b) in rw (ge, le, eq-eqb x n e) (ap (λ k. k ∷ xs) e)))

rising-rises : (xs ps : List ℕ) → RisesBy (λ (v : ℕ). v) ps → RisesBy (λ (v : ℕ). v) (fold with_place ps xs)
rising-rises [] ps r = r
rising-rises (x ∷ xs) ps r = rising-rises xs (with_place ps x) (subst (RisesBy (λ (v : ℕ). v)) (sym (with_place-item ps x)) (with-rises (λ (v : ℕ). v) x ps r))

module _ (Q : ℕ → Type 0) where
  Each-with_place : (ps : List ℕ) (p : ℕ) → Q p → Each Q ps → Each Q (with_place ps p)
  Each-with_place [] p q h = (q, h)
  Each-with_place (x ∷ xs) p q h = by_test (ltb p x)
      (λ lt. rw lt (q, h))
      (λ ge. by_test (ltb x p) (λ above. rw (ge, above) (h.0, Each-with_place xs p q h.1)) (λ le. rw (ge, le) h))

  Each-rising : (xs ps : List ℕ) → Each Q xs → Each Q ps → Each Q (fold with_place ps xs)
  Each-rising [] ps h hs = hs
  Each-rising (x ∷ xs) ps h hs = Each-rising xs (with_place ps x) h.1 (Each-with_place ps x h.0 hs)

module _ {X Y : Type 0} (Q : Y → Type 0) (f : X → List Y) where
  Each-flat_map : (xs : List X) → Each (λ x. Each Q (f x)) xs → Each Q (flat_map f xs)
  Each-flat_map [] h = h
  Each-flat_map (x ∷ xs) h = Each-append Q (f x) (flat_map f xs) h.0 (Each-flat_map xs h.1)

-- rising numbers that stand in a rising list are no more than its own
length-among : (ys xs : List ℕ) → RisesBy (λ (v : ℕ). v) xs → RisesBy (λ (v : ℕ). v) ys → Each (λ x. has ys x ≡ true) xs → length xs ≤ length ys
length-among [] [] r s h = omega arith
length-among [] (x ∷ xs) r s h = absurd (let bad : false ≡ true = h.0 in cc)
length-among (y ∷ ys) [] r s h = omega arith
length-among (y ∷ ys) (x ∷ xs) r s h =
    let later = recursion_from_All (λ z. x < z) xs (rises-head (λ (v : ℕ). v) x xs r) in
    let s' = rises-tail (λ (v : ℕ). v) y ys s in
    let past : (z : ℕ) → y < z → has (y ∷ ys) z ≡ true → has ys z ≡ true = λ z lt m. sym (ap (λ b. b || has ys z) (ne_eqb y z (λ e. omega (arith, lt, e)))) ∙ m in
    by_test (y == x)
    (λ e.
    let same = eqb-true y x e in
    let rest = length-among ys xs (rises-tail (λ (v : ℕ). v) x xs r) s' (both xs later h.1 (λ z lt m. past z (omega (arith, lt, same)) m)) in omega (arith, rest))
    (λ apart.
    let here : has ys x ≡ true = sym (ap (λ b. b || has ys x) apart) ∙ h.0 in
    let lt : y < x = above y ys x s here in
    let rest = length-among ys (x ∷ xs) r s' (here, both xs later h.1 (λ z l m. past z (omega (arith, lt, l)) m)) in omega (arith, rest))
  where
    both : (zs : List ℕ) {P R S : ℕ → Type 0} → Each P zs → Each R zs → ((z : ℕ) → P z → R z → S z) → Each S zs
    both [] p q f = p
    both (z ∷ zs) p q f = (f z p.0 q.0, both zs p.1 q.1 f)

    above : (y : ℕ) (ys : List ℕ) (x : ℕ) → RisesBy (λ (v : ℕ). v) (y ∷ ys) → has ys x ≡ true → y < x
    above y ys x s m = at ys (recursion_from_All (λ z. y < z) ys (rises-head (λ (v : ℕ). v) y ys s)) m
      where
        at : (zs : List ℕ) → Each (λ z. y < z) zs → has zs x ≡ true → y < x
        at [] h m = absurd (let bad : false ≡ true = m in cc)
        at (z ∷ zs) h m = by_test (z == x)
            (λ e. subst (λ k. y < k) (eqb-true z x e) h.0)
            (λ apart. at zs h.1 (sym (ap (λ b. b || has zs x) apart) ∙ m))

module _ {V A : Type 0} (P : Program V A) (t : Truth V) (c : Cluster V A) (AG : Agree P t c) where
  abbrev IsVertex : ℕ → Type 0
  IsVertex v = has t.vertices v ≡ true

  -- the log of a dead place says nothing but of vertices
  entries-vertices : (p : ℕ) → has c.coordinator.dead p ≡ true → Each (λ e. IsVertex e.vertex) (directory_in (log c p).committed)
  unfolding entries_at
  entries-vertices p dead =
      let one = AG.committed.places.one_set p in
      subst (Each (λ (e : Entry). IsVertex e.vertex)) (sym (AG.committed.logs.entries p (dead-within c.coordinator c.places p one dead) (dead-not_retired c.coordinator c.places p one dead)))
      (Each-map (λ (e : Entry). IsVertex e.vertex) (true_entry t) (held_at t p) (Each-filter IsVertex (held t p) t.vertices (Each-has IsVertex t.vertices (λ v m. m))))

  lost-vertices : Each IsVertex (lost_list c)
  unfolding lost_of
  lost-vertices =
      let dead = c.coordinator.dead in
      Each-rising IsVertex (map (λ e. e.vertex) (flat_map (λ p. filter (λ e. includes dead e.holders) (directory_in (log c p).committed)) dead)) []
      (Each-map IsVertex (λ (e : Entry). e.vertex) (flat_map (λ p. filter (λ e. includes dead e.holders) (directory_in (log c p).committed)) dead)
      (Each-flat_map (λ (e : Entry). IsVertex e.vertex) (λ p. filter (λ e. includes dead e.holders) (directory_in (log c p).committed)) dead
      (Each-has _ dead (λ p m. Each-filter (λ (e : Entry). IsVertex e.vertex) (λ e. includes dead e.holders) (directory_in (log c p).committed) (entries-vertices p m))))) tt

  lost-rises : RisesBy (λ (v : ℕ). v) (lost_list c)
  unfolding lost_of
  lost-rises =
      let dead = c.coordinator.dead in
      rising-rises (map (λ (e : Entry). e.vertex) (flat_map (λ p. filter (λ e. includes dead e.holders) (directory_in (log c p).committed)) dead)) [] (rises-nil (λ (v : ℕ). v))

  pub lost-few : length (lost_list c) < 2 ^ 32
  lost-few =
      let few = AG.committed.sound.few in
      let le = length-among t.vertices (lost_list c) lost-rises AG.committed.sound.rise lost-vertices in omega (arith, few, le)
