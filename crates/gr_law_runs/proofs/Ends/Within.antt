-- A run within its budget of losses loses nothing.
use Rattle.std.proofs.Common.{◌≡◌, ◌≢◌, ℕ, zero, suc, List, Bool, true, false, nat_lt, map, length, refl, sym, ap, ◌∙◌, subst, arith, Option, Some, None, ltb-true}
use Rattle.std.specs.List.{list_any, AllByRecursion as Each}
use Rattle.std.proofs.lemmas.Bool.{and_from, and_left, and_parts, both_ways, leb-true}
use Rattle.std.proofs.lemmas.List.FromFn.{length-range_with_len}
use Rattle.gr_base.specs.declared.records.Edge.{Edge}
use Rattle.gr_base.specs.Places.{below}
use Rattle.gr_base.specs.Rising.{has, includes}
use Rattle.gr_base.proofs.Ranges.{has-range}
use Rattle.gr_program.specs.Program.{Program}
use Rattle.gr_program.specs.ProgramLaws.{ProgramLaws}
use Rattle.gr_log.specs.Directory.{Entry}
use Rattle.gr_copies.specs.Holders.{first_holders}
use Rattle.gr_sched.specs.declared.event.Event.{Event}
use Rattle.gr_sched.specs.declared.event.Line.{Line}
use Rattle.gr_view.specs.declared.coordinator.Mode.TheVariants as mode
use Rattle.gr_cluster.specs.Tables.{Cluster, is_up}
use Rattle.gr_cluster.specs.Load.{Setting, load}
use Rattle.gr_cluster.specs.Directory.{directory_of}
use Rattle.gr_cluster.specs.Step.{lost_list}
use Rattle.gr_cluster.specs.Runs.{Position, next_event, next_position, position_by, position_after}
use Rattle.gr_cluster.specs.Budget.{Losses, no_losses, are_borne, losses_by, losses_after, IsWithinBudget}
use Rattle.gr_agree.specs.Truth.{Truth, true_entry}
use Rattle.gr_agree.specs.Accepted.{IsGraph, IsSetting}
use Rattle.gr_agree.specs.FirstTruth.{first_truth}
use Rattle.gr_agree.specs.Agree.{Agree}
use Rattle.gr_lists.proofs.Any.{filter-none, find-any}
use Rattle.gr_lists.proofs.Each.{Each-has}
use Rattle.gr_lists.proofs.Maps.{Each-map}
use Rattle.gr_lists.proofs.Tests.{by_test}
use Rattle.gr_law_rebuilds.proofs.Epoch.Places.{has-included, live-not_dead}
use Rattle.gr_law_rounds.proofs.Load.Holders.{holders-places, holder-below}
use Rattle.gr_law_rounds.proofs.Load.Load.{load-agrees, up-at}
use Rattle.gr_law_runs.proofs.Ends.Budget.{IsBorne, Bears, step-bears}
use Rattle.gr_law_runs.proofs.Ends.Directory.{directory-is, lost-exact}
use Rattle.gr_law_runs.proofs.Ends.FirstHolders.{holders-enough}
use Rattle.gr_law_runs.proofs.Ends.Found.{after-found, load-found}
use Rattle.gr_law_runs.proofs.Left.Same.{losses-step}
use Rattle.gr_law_runs.proofs.Ends.Runs.{AllName, NamesIfSome, StandsIn, next-names, next-stands, after-stands, load-stands}
use Rattle.gr_law_runs.proofs.Ends.Serving.{serves, serving-all, serving-none}

-- ---- along a run

module _ {V A : Type 0} (P : Program V A) (L : ProgramLaws P) (es : List Edge) (vs : List ℕ) (bound : ℕ) where
  by-losses : (s : Position V A) (o : Option Event) → (position_by P s o).cluster.losses ≡ s.cluster.losses
  by-losses s None = refl
  by-losses s (Some e) = losses-step P s.cluster e

  by-bears : (s : Position V A) → StandsIn P L es vs s → s.cluster.losses ≡ bound → (l : Losses) → Bears bound l s.cluster → (o : Option Event) → NamesIfSome o
      → Bears bound (losses_by P s o l) (position_by P s o).cluster
  by-bears s S same l B None names = B
  by-bears s S same l B (Some e) names = step-bears bound P S.cluster.state s.cluster S.cluster.agrees l L same e (names e refl) B

  next-same : (s : Position V A) → s.cluster.losses ≡ bound → (next_position P s).cluster.losses ≡ bound
  unfolding next_position
  next-same s same = by-losses s (next_event s) ∙ same

  next-bears : (s : Position V A) → StandsIn P L es vs s → s.cluster.losses ≡ bound → (l : Losses) → Bears bound l s.cluster → Bears bound (losses_by P s (next_event s) l) (next_position P s).cluster
  unfolding next_position
  next-bears s S same l B = by-bears s S same l B (next_event s) (next-names P L es vs s S)

  after-bears : (n : ℕ) (s : Position V A) → StandsIn P L es vs s → s.cluster.losses ≡ bound → (l : Losses) → Bears bound l s.cluster
      → Bears bound (losses_after P n s l) (position_after P n s).cluster
  unfolding position_after losses_after
  after-bears zero s S same l B = B
  after-bears (suc n) s S same l B = after-bears n (next_position P s) (next-stands P L es vs s S) (next-same s same) (losses_by P s (next_event s) l) (next-bears s S same l B)

-- ---- at load

module _ {V A : Type 0} (P : Program V A) (s : Setting) (es : List Edge) (vs : List ℕ) (IS : IsSetting s) (IG : IsGraph es vs) where
  abbrev c : Cluster V A
  c = load P s es vs

  pub load-live : c.coordinator.live ≡ below s.places
  unfolding load
  load-live = refl

  pub load-losses : c.losses ≡ s.losses
  unfolding load
  load-losses = refl

  holder-serves : (v p : ℕ) → has (first_holders s.places s.theta s.losses es v) p ≡ true → serves c p ≡ true
  holder-serves v p m =
      let lt = holder-below s.places s.theta s.losses es IS.some_place IS.few_places v p m in
      and_from (has c.coordinator.live p) (is_up c p)
      (ap (λ ps. has ps p) load-live ∙ has-range 0 s.places p (omega arith) (omega (arith, lt)))
      (up-at P s es vs IS IG p lt)

  pub load-bears : Bears s.losses (no_losses c) c
  load-bears = subst (Each (IsBorne s.losses (no_losses c) c)) (sym (directory-is P (first_truth P s es vs) c (load-agrees P s es vs IS IG)))
      (Each-map (IsBorne s.losses (no_losses c) c) (true_entry (first_truth P s es vs)) vs (Each-has _ vs (λ v there.
      let enough = holders-enough s.places s.theta s.losses es IS.some_place v in
      let all = serving-all (first_holders s.places s.theta s.losses es v) c (holders-places s.places s.theta s.losses es IS.some_place IS.few_places v) (holder-serves v) in
      let live : length c.coordinator.live ≡ s.places = ap length load-live ∙ length-range_with_len 0 s.places in
      omega (arith, enough, all, live))))

-- ---- where a vertex is lost, the losses are too many

module _ {V A : Type 0} (P : Program V A) (t : Truth V) (c : Cluster V A) (AG : Agree P t c) where
  abbrev is_lost : Entry → Bool
  is_lost e = includes c.coordinator.dead e.holders

  some-lost : nat_lt 0 (length (lost_list c)) ≡ true → list_any is_lost (directory_of c) ≡ true
  some-lost found = by_test (list_any is_lost (directory_of c))
      (λ k. k)
      (λ none. absurd (
      let empty = lost-exact P t c AG ∙ ap (map (λ e. e.vertex)) (filter-none is_lost (directory_of c) none) in
      let bad : false ≡ true = sym (ap (λ l. nat_lt 0 (length l)) empty) ∙ found in cc))

  dead-serves : (e : Entry) → is_lost e ≡ true → (p : ℕ) → has e.holders p ≡ true → serves c p ≡ false
  dead-serves e lost p m = by_test (has c.coordinator.live p)
      (λ l. absurd (both_ways _ (live-not_dead c.coordinator c.places p (AG.committed.places.one_set p) l) (has-included c.coordinator.dead e.holders p lost m)))
      (λ l. and_left _ _ l)

  lost-unborne : (bound : ℕ) (l : Losses) → Bears bound l c → nat_lt 0 (length (lost_list c)) ≡ true → are_borne bound l ≡ true → ⊥
  lost-unborne bound l B found borne =
      let k = find-any is_lost (IsBorne bound l c) (directory_of c) (some-lost found) B in
      let none = serving-none (k.0).holders c (dead-serves k.0 k.2) in
      let many = k.3 in
      let both = and_parts _ _ borne in
      let few = leb-true l.crashes bound both.0 in
      let fewer = ltb-true l.crashes l.live both.1 in
      omega (arith, none, many, few, fewer)

module _ {V A : Type 0} (P : Program V A) (L : ProgramLaws P) (s : Setting) (es : List Edge) (vs : List ℕ) (IS : IsSetting s) (IG : IsGraph es vs) (ls : List Line) (names : AllName ls) where
  abbrev from_load : Position V A
  from_load = record { cluster = load P s es vs; lines = ls }

  pub never-lost : IsWithinBudget P from_load → (n : ℕ) → (position_after P n from_load).cluster.coordinator.mode ≢ mode.Lost
  never-lost within n lost =
      let S = load-stands P L s es vs IS IG ls names in
      let K = (after-stands P L es vs n from_load S).cluster in
      let l = losses_after P n from_load (no_losses (load P s es vs)) in
      lost-unborne P K.state (position_after P n from_load).cluster K.agrees s.losses l
      (after-bears P L es vs s.losses n from_load S (load-losses P s es vs IS IG) (no_losses (load P s es vs)) (load-bears P s es vs IS IG))
      (after-found P n from_load (load-found P s es vs) lost)
      (ap (λ k. are_borne k l) (sym (load-losses P s es vs IS IG)) ∙ within n)
