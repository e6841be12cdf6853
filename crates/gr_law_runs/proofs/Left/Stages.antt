-- What a place has left of one stage, and how that falls as the stage is computed, sent and passed.
use Rattle.std.proofs.Common.{◌≡◌, ℕ, ◌+◌, ◌*◌, ◌<◌, ◌≤◌, List, Bool, true, false, cond, not, ◌==◌, ◌&&◌, nat_lt, sym, ap, ◌∙◌, arith, length, if◌then◌else◌, le-ltb, lt-ltb, ltb-true, eqb-true, eq-eqb}
use Rattle.std.specs.Prelude.{count_by}
use Rattle.std.proofs.lemmas.List.Sums.{count_by-le-length, sum_by-le-sum_by}
use Rattle.std.proofs.lemmas.Bool.{or_right}
use Rattle.gr_base.specs.Rising.{has}
use Rattle.gr_base.specs.Places.{with_place}
use Rattle.gr_batch.specs.declared.stage.Stage.{Stage}
use Rattle.gr_batch.specs.declared.stage.Stage.TheVariants as stage
use Rattle.gr_batch.specs.Stages.{is_stage, is_end, stage_after}
use Rattle.gr_batch.specs.Order.{place_in}
use Rattle.gr_rules.specs.Exchange.{Exchange, begun}
use Rattle.gr_lists.proofs.Tests.{by_test}
use Rattle.gr_base.proofs.WithPlace.{has-with_place}
use Rattle.gr_law_rounds.proofs.Round.Codes.{same-code}
use Rattle.gr_law_runs.proofs.Left.Sums.{sum_by-falls, count_by-all}

-- what is left of a stage at most
abbrev pub most_of : ℕ → Stage → ℕ
most_of n s = 1 + 2 * (if is_end s then 0 else n)

-- a stage that is passed is not the end, and the next one is later
pub after-later : (s : Stage) → is_end s ≡ false → place_in s < place_in (stage_after s)
after-later stage.End e = absurd (let bad : true ≡ false = e in cc)
after-later _ e = omega arith

module _ (adopted : Bool) (others : List ℕ) where
  abbrev is_here : Exchange → Stage → Bool
  is_here x s = adopted && is_stage s x.stage

  abbrev pub unsent_in : Exchange → Stage → ℕ
  unsent_in x s = if is_end s then 0 else count_by (λ q. not (is_here x s && has x.sent q)) others

  -- what is left of a stage, in an exchange
  abbrev pub left_in : Exchange → Stage → ℕ
  left_in x s = if adopted && nat_lt (place_in s) (place_in x.stage) then 0 else cond (is_here x s && x.computed) 0 1 + 2 * unsent_in x s

  unsent-most : (x : Exchange) (s : Stage) → unsent_in x s ≤ (if is_end s then 0 else length others)
  unsent-most x s = by_test (is_end s)
      (λ e. rw e (omega arith))
      (λ e. rw e (count_by-le-length (λ q. not (is_here x s && has x.sent q)) others))

  pub left_in-most : (x : Exchange) (s : Stage) → left_in x s ≤ most_of (length others) s
  left_in-most x s = let u = unsent-most x s in by_test (adopted && nat_lt (place_in s) (place_in x.stage))
      (λ e. rw e (omega arith))
      (λ e. rw e (by_test (is_here x s && x.computed)
      (λ k. rw k (omega (arith, u)))
      (λ k. rw k (omega (arith, u)))))

  -- a stage that is not reached
  pub left_in-all : (x : Exchange) (s : Stage) → (adopted && nat_lt (place_in s) (place_in x.stage)) ≡ false → is_here x s ≡ false → left_in x s ≡ most_of (length others) s
  left_in-all x s later off = rw (later, off) (ap (λ n. 1 + 2 * (if is_end s then 0 else n)) (count_by-all others))

module _ (others : List ℕ) (x : Exchange) where
  -- the stage of the exchange is not passed
  not-passed : (s : Stage) → is_stage s x.stage ≡ true → nat_lt (place_in s) (place_in x.stage) ≡ false
  not-passed s e = let same = same-code s x.stage (eqb-true _ _ e) in le-ltb _ _ (let at = ap place_in same in omega (arith, at))

  -- the stage is computed
  module _ (not_yet : x.computed ≡ false) where
    pub computed-no_more : (s : Stage) → left_in true others (record x { computed = true }) s ≤ left_in true others x s
    computed-no_more s = by_test (nat_lt (place_in s) (place_in x.stage))
        (λ e. rw e (omega arith))
        (λ e. rw e (by_test (is_stage s x.stage)
        (λ k. rw (k, not_yet) (omega arith))
        (λ k. rw k (omega arith))))

    pub computed-less : (s : Stage) → is_stage s x.stage ≡ true → left_in true others (record x { computed = true }) s + 1 ≤ left_in true others x s
    computed-less s k = let e = not-passed s k in rw (e, k, not_yet) (omega arith)

  -- the batch to r is sent
  module _ (r : ℕ) (to : has others r ≡ true) (fresh : has x.sent r ≡ false) where
    abbrev unsent_yet : Bool → List ℕ → ℕ → ℕ
    unsent_yet here sent q = cond (not (here && has sent q)) 1 0

    one-less : (here : Bool) (q : ℕ) → unsent_yet here (with_place x.sent r) q ≤ unsent_yet here x.sent q
    one-less false q = omega arith
    one-less true q = rw (has-with_place x.sent r q) (by_test (has x.sent q)
        (λ e. rw e (omega arith))
        (λ e. rw e (by_test (r == q) (λ k. rw k (omega arith)) (λ k. rw k (omega arith)))))

    one-gone : (q : ℕ) → (q == r) ≡ true → unsent_yet true (with_place x.sent r) q + 1 ≤ unsent_yet true x.sent q
    one-gone q e =
        let same : q ≡ r = eqb-true q r e in
        let gone : has (with_place x.sent r) q ≡ true = has-with_place x.sent r q ∙ or_right (has x.sent q) _ (eq-eqb r q (sym same)) in
        let yet : has x.sent q ≡ false = ap (has x.sent) same ∙ fresh in rw (gone, yet) (omega arith)

    pub sent-no_more : (s : Stage) → left_in true others (record x { sent = with_place x.sent r }) s ≤ left_in true others x s
    sent-no_more s = by_test (nat_lt (place_in s) (place_in x.stage))
        (λ e. rw e (omega arith))
        (λ e. rw e (by_test (is_end s)
        (λ k. rw k (omega arith))
        (λ k. rw k (let u = sum_by-le-sum_by (unsent_yet (is_stage s x.stage) (with_place x.sent r)) (unsent_yet (is_stage s x.stage) x.sent) others (one-less (is_stage s x.stage)) in omega (arith, u)))))

    pub sent-less : is_end x.stage ≡ false → (s : Stage) → is_stage s x.stage ≡ true → left_in true others (record x { sent = with_place x.sent r }) s + 2 ≤ left_in true others x s
    sent-less no_end s k =
        let e = not-passed s k in
        let n : is_end s ≡ false = ap is_end (same-code s x.stage (eqb-true _ _ k)) ∙ no_end in
        let u = sum_by-falls (unsent_yet true (with_place x.sent r)) (unsent_yet true x.sent) (λ q. q == r) 1 (one-less true) one-gone others to in
        rw (e, n, k) (omega (arith, u))

    -- while it is unsent, two are left of the stage at least
    pub two-left : is_end x.stage ≡ false → (s : Stage) → is_stage s x.stage ≡ true → 2 ≤ left_in true others x s
    two-left no_end s k = let l = sent-less no_end s k in omega (arith, l)

  -- the stage is passed, and so is all that was left of it
  module _ (d : ℕ) (no_end : is_end x.stage ≡ false) (was : (s : Stage) → is_stage s x.stage ≡ true → d ≤ left_in true others x s) where
    pub passed-less : (s : Stage) → is_stage s x.stage ≡ true → left_in true others (begun (stage_after x.stage)) s + d ≤ left_in true others x s
    passed-less s k =
        let lt = after-later x.stage no_end in let same = ap place_in (same-code s x.stage (eqb-true _ _ k)) in
        let gone : nat_lt (place_in s) (place_in (stage_after x.stage)) ≡ true = lt-ltb _ _ (omega (arith, lt, same)) in
        let before = was s k in
        rw gone (omega (arith, before))

    pub passed-no_more : (s : Stage) → left_in true others (begun (stage_after x.stage)) s ≤ left_in true others x s
    passed-no_more s = by_test (is_stage s x.stage)
        (λ k. let l = passed-less s k in omega (arith, l))
        (λ k. by_test (nat_lt (place_in s) (place_in x.stage))
        (λ e. let lt = after-later x.stage no_end in let le = ltb-true _ _ e in
        let gone : nat_lt (place_in s) (place_in (stage_after x.stage)) ≡ true = lt-ltb _ _ (omega (arith, lt, le)) in rw gone (omega arith))
        (λ e. let all = left_in-all true others x s e k in let most = left_in-most true others (begun (stage_after x.stage)) s in omega (arith, all, most)))
