-- Where no vertex is lost, some holder of each vertex is not dead.
use Rattle.std.proofs.Common.{◌≡◌, ℕ, List, [], ◌∷◌, Bool, true, false, ◌==◌, ◌&&◌, ◌||◌, nat_lt, length, refl, sym, ap, ◌∙◌, arith, map, flat_map, lt-ltb}
use Rattle.std.specs.List.{filter, list_any, fold}
use Rattle.std.proofs.lemmas.Bool.{both_ways}
use Rattle.gr_base.specs.Rising.{has, includes}
use Rattle.gr_base.specs.Places.{with_place}
use Rattle.gr_base.proofs.WithPlace.{has-with_place}
use Rattle.gr_program.specs.Program.{Program}
use Rattle.gr_log.specs.Directory.{directory_in}
use Rattle.gr_rules.specs.Lost.{lost_of}
use Rattle.gr_cluster.specs.Tables.{Cluster, log}
use Rattle.gr_cluster.specs.Step.{lost_list}
use Rattle.gr_agree.specs.Truth.{Truth, held, held_at, true_entry, entries_at}
use Rattle.gr_agree.specs.Agree.{Agree}
use Rattle.gr_lists.proofs.Tests.{by_test}
use Rattle.gr_lists.proofs.Any.{list_any-flat_map, has-filter}
use Rattle.gr_lists.proofs.Maps.{filter-map}
use Rattle.gr_lists.proofs.Numbers.{any-has}
use Rattle.gr_law_rebuilds.proofs.Epoch.Places.{has-included, dead-within, dead-not_retired}

list_any-map : {X Y : Type 0} (f : Y → Bool) (g : X → Y) (xs : List X) → list_any f (map g xs) ≡ list_any (λ x. f (g x)) xs
list_any-map f g [] = refl
list_any-map f g (x ∷ xs) = ap (λ b. f (g x) || b) (list_any-map f g xs)

-- what stands in a list, or is there already, stands in it once it rises
has-fold_with_place : (xs ps : List ℕ) (v : ℕ) → (has ps v || has xs v) ≡ true → has (fold with_place ps xs) v ≡ true
has-fold_with_place [] ps v m = by_test (has ps v) (λ e. e) (λ e. let bad = rw e at m in absurd (let bad' : false ≡ true = bad in cc))
has-fold_with_place (x ∷ xs) ps v m = has-fold_with_place xs (with_place ps x) v
    (ap (λ b. b || has xs v) (has-with_place ps x v) ∙ (sym (grouped (has ps v) (x == v) (has xs v)) ∙ m))
  where
    grouped : (a b c : Bool) → (a || (b || c)) ≡ ((a || b) || c)
    grouped true b c = refl
    grouped false b c = refl

-- a list with a number is not empty
has-not_empty : (xs : List ℕ) (v : ℕ) → has xs v ≡ true → nat_lt 0 (length xs) ≡ true
has-not_empty [] v m = absurd (let bad : false ≡ true = m in cc)
has-not_empty (x ∷ xs) v m = lt-ltb 0 (length (x ∷ xs)) (omega arith)

module _ {V : Type 0} (t : Truth V) (dead : List ℕ) (p v : ℕ) (there : has t.vertices v ≡ true) (held_here : held t p v ≡ true) (all_dead : includes dead (t.holders v) ≡ true) where
  -- the entry of v at a place that holds it is among those whose holders are all dead
  lost-among : list_any (λ e. e.vertex == v) (filter (λ e. includes dead e.holders) (entries_at t p)) ≡ true
  unfolding entries_at
  lost-among =
      ap (list_any (λ e. e.vertex == v)) (filter-map (λ e. includes dead e.holders) (true_entry t) (held_at t p))
      ∙ (list_any-map (λ e. e.vertex == v) (true_entry t) (filter (λ u. includes dead (t.holders u)) (held_at t p))
      ∙ (has-filter (λ u. includes dead (t.holders u)) (held_at t p) v
      ∙ (ap (λ b. b && includes dead (t.holders v)) (has-filter (held t p) t.vertices v)
      ∙ (ap (λ b. (b && held t p v) && includes dead (t.holders v)) there
      ∙ (ap (λ b. b && includes dead (t.holders v)) held_here ∙ all_dead)))))

module _ {V A : Type 0} (P : Program V A) (t : Truth V) (c : Cluster V A) (AG : Agree P t c) (v : ℕ) (there : has t.vertices v ≡ true) where
  -- a vertex all of whose holders are dead is lost
  all-dead-lost : includes c.coordinator.dead (t.holders v) ≡ true → has (lost_list c) v ≡ true
  unfolding lost_of
  all-dead-lost all_dead =
      let dead = c.coordinator.dead in
      let m = t.master v in
      let holds = AG.committed.sound.master_holds v there in
      let is_dead : has dead m ≡ true = has-included dead (t.holders v) m all_dead holds in
      let one = AG.committed.places.one_set m in
      let says : directory_in (log c m).committed ≡ entries_at t m = AG.committed.logs.entries m (dead-within c.coordinator c.places m one is_dead) (dead-not_retired c.coordinator c.places m one is_dead) in
      has-fold_with_place _ [] v
      (list_any-map (λ x. x == v) (λ e. e.vertex) (flat_map (λ p. filter (λ e. includes dead e.holders) (directory_in (log c p).committed)) dead)
      ∙ (list_any-flat_map (λ e. e.vertex == v) (λ p. filter (λ e. includes dead e.holders) (directory_in (log c p).committed)) dead
      ∙ any-has (λ p. list_any (λ e. e.vertex == v) (filter (λ e. includes dead e.holders) (directory_in (log c p).committed))) dead m is_dead
      (ap (λ es. list_any (λ e. e.vertex == v) (filter (λ e. includes dead e.holders) es)) says ∙ lost-among t dead m v there holds all_dead)))

  pub none-lost : nat_lt 0 (length (lost_list c)) ≡ false → includes c.coordinator.dead (t.holders v) ≡ false
  none-lost none = by_test (includes c.coordinator.dead (t.holders v))
      (λ e. absurd (both_ways _ none (has-not_empty (lost_list c) v (all-dead-lost e))))
      (λ e. e)
