-- What is known of the senders of an inbox's newest epoch, as batches come and go.
use Rattle.std.proofs.Common.{◌≡◌, ◌≢◌, ◌∙◌, ◌<◌, ◌≤◌, ℕ, zero, suc, Bool, true, false, not, eqb, ltb, List, [], ◌∷◌, ◌++◌, length, get_or, set, replicate, refl, sym, ap, arith}
use Rattle.std.specs.Prelude.{◌||◌, ◌&&◌}
use Rattle.std.specs.List.{All, filter, list_any}
use Rattle.std.proofs.Math.Bool.{and-true, or-false}
use Rattle.std.proofs.lemmas.Bool.{and_left, and_right, eq-eqb, ne_eqb, le-ltb, both_ways}
use Rattle.std.proofs.lemmas.List.{get_or-set_same, get_or-set_other}
use Rattle.std.proofs.lemmas.List.Elements.{All-push, All-filter, All-weaker}
use Rattle.std.proofs.lemmas.List.Folds.{list_any-append, list_any_none}
use Rattle.gr_base.specs.Places.{with_place}
use Rattle.gr_base.specs.Rising.{has}
use Rattle.gr_base.proofs.WithPlace.{has-with_place}
use Rattle.gr_lists.proofs.Tests.{by_same}
use Rattle.gr_lists.proofs.Each.{Each-always}
use Rattle.gr_lists.proofs.Any.{list_any-filter}
use Rattle.gr_batch.specs.declared.batch.Batch.{Batch}
use Rattle.gr_batch.specs.declared.stage.Stage.{Stage}
use Rattle.gr_batch.specs.Stages.{code_of}
use Rattle.gr_batch.specs.Bodies.{is_of, stage_of_body}
use Rattle.gr_flight.specs.declared.newest.NewestEpoch.{NewestEpoch}
use Rattle.gr_flight.specs.SendersThere.{KnowsSenders}

get_or-no_sets : (n i : ℕ) → get_or (replicate {A = List ℕ} n []) i [] ≡ []
get_or-no_sets zero i = refl
get_or-no_sets (suc n) zero = refl
get_or-no_sets (suc n) (suc i) = get_or-no_sets n i

module _ {X : Type 0} (f : X → Bool) (xs : List X) (x : X) where
  list_any-push : list_any f (xs ++ x ∷ []) ≡ (list_any f xs || f x)
  list_any-push = list_any-append f xs (x ∷ []) ∙ ap (λ b. list_any f xs || b) (or-false (f x))

  list_any-push_off : f x ≡ false → list_any f (xs ++ x ∷ []) ≡ list_any f xs
  list_any-push_off off = list_any-push ∙ ap (λ b. list_any f xs || b) off ∙ or-false (list_any f xs)

module _ {V A : Type 0} (p e : ℕ) (s : Stage) (b : Batch V A) where
  abbrev stage : ℕ
  stage = code_of (stage_of_body b.body)

  pub is_of-other_sender : b.sender ≢ p → is_of p e s b ≡ false
  is_of-other_sender ne = and_left (eqb b.sender p) (eqb b.epoch e && eqb (code_of s) stage) (ne_eqb b.sender p ne)

  pub is_of-other_epoch : b.epoch ≢ e → is_of p e s b ≡ false
  is_of-other_epoch ne = and_right (eqb b.sender p) (eqb b.epoch e && eqb (code_of s) stage) (and_left (eqb b.epoch e) (eqb (code_of s) stage) (ne_eqb b.epoch e ne))

  is_of-other_stage : code_of s ≢ stage → is_of p e s b ≡ false
  is_of-other_stage ne = and_right (eqb b.sender p) (eqb b.epoch e && eqb (code_of s) stage) (and_right (eqb b.epoch e) (eqb (code_of s) stage) (ne_eqb (code_of s) stage ne))

  is_of-sender : b.epoch ≡ e → code_of s ≡ stage → is_of p e s b ≡ eqb b.sender p
  is_of-sender at same = ap (λ x. eqb b.sender p && (x && eqb (code_of s) stage)) (eq-eqb b.epoch e at) ∙ ap (λ x. eqb b.sender p && x) (eq-eqb (code_of s) stage same) ∙ and-true (eqb b.sender p)

module _ {V A : Type 0} where
  list_any-later : (n p e : ℕ) (s : Stage) → n < e → (xs : List (Batch V A)) → All (λ b. b.epoch ≤ n) xs → list_any (is_of p e s) xs ≡ false
  list_any-later n p e s lt xs a = list_any_none (is_of p e s) xs (All-weaker (λ b. b.epoch ≤ n) (λ b. is_of p e s b ≡ false) (λ b le. is_of-other_epoch p e s b (λ q. omega arith)) xs a)

  -- of a later epoch no batch is there
  pub knows-later : (n : NewestEpoch) (e : ℕ) (xs : List (Batch V A)) → n.epoch < e → KnowsSenders n xs → KnowsSenders (record { epoch = e; senders = replicate 7 [] }) xs
  knows-later n e xs lt K = record {
    none_later = All-weaker (λ b. b.epoch ≤ n.epoch) (λ b. b.epoch ≤ e) (λ b le. omega arith) xs K.none_later;
    there = λ s p small. ap (λ ps. has ps p) (get_or-no_sets 7 (code_of s)) ∙ sym (list_any-later n.epoch p e s lt xs K.none_later);
  }

  -- a batch more that no set speaks of
  pub knows-beside : (n : NewestEpoch) (b : Batch V A) (xs : List (Batch V A)) → b.epoch ≤ n.epoch → ((s : Stage) (p : ℕ) → p < 64 → is_of p n.epoch s b ≡ false) → KnowsSenders n xs → KnowsSenders n (xs ++ b ∷ [])
  knows-beside n b xs le apart K = record {
    none_later = All-push (λ b. b.epoch ≤ n.epoch) xs b K.none_later le;
    there = λ s p small. K.there s p small ∙ sym (list_any-push_off (is_of p n.epoch s) xs b (apart s p small));
  }

  -- a batch more whose sender is put into the set of its stage
  pub knows-put : (n : NewestEpoch) (b : Batch V A) (i : ℕ) (ps : List ℕ) (xs : List (Batch V A)) → b.epoch ≡ n.epoch → i ≡ code_of (stage_of_body b.body) → i < length n.senders → ps ≡ with_place (get_or n.senders i []) b.sender
      → KnowsSenders n xs → KnowsSenders (record { epoch = n.epoch; senders = set n.senders i ps }) (xs ++ b ∷ [])
  knows-put n b i ps xs at is inside with K = record {
    none_later = All-push (λ b. b.epoch ≤ n.epoch) xs b K.none_later (omega arith);
    there = λ s p small. by_same (code_of s) i
        (λ same.
        let here : get_or (set n.senders i ps) (code_of s) [] ≡ ps = ap (λ (j : ℕ). get_or (set n.senders i ps) j []) same ∙ get_or-set_same n.senders i ps [] inside in
        let was : has (get_or n.senders i []) p ≡ list_any (is_of p n.epoch s) xs = ap (λ (j : ℕ). has (get_or n.senders j []) p) (sym same) ∙ K.there s p small in
        ap (λ (qs : List ℕ). has qs p) (here ∙ with) ∙ has-with_place (get_or n.senders i []) b.sender p
        ∙ ap (λ x. x || eqb b.sender p) was ∙ ap (λ x. list_any (is_of p n.epoch s) xs || x) (sym (is_of-sender p n.epoch s b at (same ∙ is)))
        ∙ sym (list_any-push (is_of p n.epoch s) xs b))
        (λ ne.
        ap (λ (qs : List ℕ). has qs p) (get_or-set_other n.senders i (code_of s) ps [] ne) ∙ K.there s p small
        ∙ sym (list_any-push_off (is_of p n.epoch s) xs b (is_of-other_stage p n.epoch s b (λ e. ne (e ∙ sym is)))));
  }

  -- without the batches of epochs before one that is not after the newest
  pub knows-filter : (n : NewestEpoch) (e : ℕ) (xs : List (Batch V A)) → e ≤ n.epoch → KnowsSenders n xs → KnowsSenders n (filter (λ b. not (ltb b.epoch e)) xs)
  knows-filter n e xs le K = record {
    none_later = All-filter (λ b. not (ltb b.epoch e)) (λ b. b.epoch ≤ n.epoch) xs K.none_later;
    there = λ s p small. K.there s p small ∙ sym (list_any-filter (is_of p n.epoch s) (is_of p n.epoch s) (λ b. not (ltb b.epoch e)) xs
        (Each-always _ (λ b. ((λ on. refl), (λ off. is_of-other_epoch p n.epoch s b (λ q. gone b q off)))) xs));
  }
    where
      gone : (b : Batch V A) → b.epoch ≡ n.epoch → not (ltb b.epoch e) ≡ false → ⊥
      gone b q off = let kept : not (ltb b.epoch e) ≡ true = ap not (le-ltb b.epoch e (omega arith)) in both_ways (not (ltb b.epoch e)) off kept
