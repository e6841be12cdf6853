-- The lines that a schedule's text says: they name places that are there, and those of a rebirth are a set.
use Rattle.std.proofs.Common.{◌≡◌, ◌≤◌, ◌<◌, ℕ, List, [], ◌∷◌, Bool, true, ◌&&◌, Option, Some, None, map, refl, sym, ap, ◌∙◌, ◌==◌, slice_index, arith, ltb, ltb-true, ltb-false}
use Rattle.std.specs.Prelude.{IsTrue, codes, nat_lt, option_map}
use Rattle.std.specs.List.{All, AllByRecursion as Each, fold, list_all, slice_split}
use Rattle.std.proofs.Math.Bool.{and-true}
use Rattle.std.proofs.lemmas.Bool.{and_from, and_parts}
use Rattle.std.proofs.lemmas.List.Elements.{All-from_recursion, All-nil}
use Rattle.gr_base.specs.Places.{IsPlaces, with_place}
use Rattle.gr_base.proofs.Rising.{rises-nil}
use Rattle.gr_base.proofs.WithPlace.{IsPlaces-with}
use Rattle.gr_text.specs.Fields.{fields_of}
use Rattle.gr_text.specs.Lines.{is_line_end, without_return_of}
use Rattle.gr_sched.specs.declared.event.Event.{Event}
use Rattle.gr_sched.specs.declared.event.Event.TheVariants as event
use Rattle.gr_sched.specs.declared.event.Line.{Line}
use Rattle.gr_sched.specs.declared.event.Line.TheVariants as line
use Rattle.gr_sched.specs.declared.line.Keyword.{Keyword}
use Rattle.gr_sched.specs.declared.line.Keyword.TheVariants as keyword
use Rattle.gr_sched.specs.Fields.{number_of, only_number, all_numbers}
use Rattle.gr_sched.specs.Reading.{are_below, places_of, placed, is_word, bare, kept_of, crash_at, reborn_at, rebirth_of, recover_of, said_by, keyword_of, of_fields, line_of, lines_of, said, schedule_of}
use Rattle.gr_agree.specs.Accepted.{NamesPlaces, NamesPlacesAt}
use Rattle.gr_lists.proofs.Tests.{by_test}
use Rattle.gr_lists.proofs.Each.{Each-append}

module _ (places : ℕ) where
  abbrev IsPlaced : Line → Type 0
  IsPlaced l = IsTrue (are_below places (places_of l))

  said-placed : (o : Option Line) → Each IsPlaced (said (placed places o))
  said-placed None = tt
  said-placed (Some l) = by_test (are_below places (places_of l)) (λ t. rw t (rw t refl, tt)) (λ f. rw f tt)

  fields-placed : (fields : List (List ℕ)) → Each IsPlaced (said (of_fields places fields))
  fields-placed [] = tt
  fields-placed (f ∷ fs) = by_test (slice_index f 0 == 35) (λ t. rw t tt) (λ e. rw e (said-placed (said_by (keyword_of f) fs)))

  lines-placed : (pieces : List (List ℕ)) → Each IsPlaced (schedule_of (map (line_of places) pieces))
  lines-placed [] = tt
  lines-placed (p ∷ ps) =
      Each-append IsPlaced (said (line_of places p)) (schedule_of (map (line_of places) ps)) (fields-placed (fields_of (without_return_of p))) (lines-placed ps)

  pub schedule-placed : (text : List ℕ) → All IsPlaced (schedule_of (lines_of places text))
  schedule-placed text = All-from_recursion IsPlaced (schedule_of (lines_of places text)) (lines-placed (slice_split is_line_end text))

-- ---- a set to which numbers are added, of which all pass a test

IsPlaces-none : IsPlaces []
IsPlaces-none = record { rise = rises-nil (λ p. p); below = All-nil (λ p. p < 64) }

module _ (f : ℕ → Bool) where
  with-passes : (ps : List ℕ) (p : ℕ) → list_all f (with_place ps p) ≡ true → (f p ≡ true) × (list_all f ps ≡ true)
  with-passes [] p h = (rw (and-true (f p)) at h, refl)
  with-passes (q ∷ qs) p h = by_test (ltb p q)
      (λ before. and_parts (f p) (f q && list_all f qs) (rw before at h))
      (λ not_before. by_test (ltb q p)
      (λ behind.
      let both = and_parts (f q) (list_all f (with_place qs p)) (rw (not_before, behind) at h) in
      let rest = with-passes qs p both.1 in
      (rest.0, and_from (f q) (list_all f qs) both.0 rest.1))
      (λ not_behind.
      let same : q ≡ p = omega (arith, ltb-false p q not_before, ltb-false q p not_behind) in
      let all : (f q && list_all f qs) ≡ true = rw (not_before, not_behind) at h in
      (ap f (sym same) ∙ (and_parts (f q) (list_all f qs) all).0, all)))

  all-passed : (ns ps : List ℕ) → list_all f (fold with_place ps ns) ≡ true → list_all f ps ≡ true
  all-passed [] ps h = h
  all-passed (n ∷ ns) ps h = (with-passes ps n (all-passed ns (with_place ps n) h)).1

module _ (places : ℕ) (few : places ≤ 64) where
  reborn-set : (ns ps : List ℕ) → IsPlaces ps → are_below places (fold with_place ps ns) ≡ true → IsPlaces (fold with_place ps ns)
  reborn-set [] ps S h = S
  reborn-set (n ∷ ns) ps S h =
      let below = ltb-true n places (with-passes (λ p. nat_lt p places) ps n (all-passed (λ p. nat_lt p places) ns (with_place ps n) h)).0 in
      reborn-set ns (with_place ps n) (IsPlaces-with ps n (omega (arith, below, few)) S) h

  -- a line that is said names a set of places, where those that it names are there
  abbrev NamesIfPlaced : Option Line → Type 0
  NamesIfPlaced None = Unit {0}
  NamesIfPlaced (Some l) = are_below places (places_of l) ≡ true → NamesPlacesAt l

  rebirth-names : (o : Option (List ℕ)) → NamesIfPlaced (option_map reborn_at o)
  rebirth-names None = tt
  rebirth-names (Some ns) = λ h. reborn-set ns [] IsPlaces-none h

  recover-names : (fs : List (List ℕ)) → NamesIfPlaced (recover_of fs)
  recover-names [] = λ h. IsPlaces-none
  recover-names (r ∷ fs) = by_test (is_word (codes "rebirth") r) (λ t. rw t (words-name fs)) (λ e. rw e tt)
    where
      words-name : (fs : List (List ℕ)) → NamesIfPlaced (rebirth_of fs)
      words-name [] = tt
      words-name (f ∷ fs) = rebirth-names (all_numbers (f ∷ fs))

  number-names : (e : ℕ → Event) (o : Option ℕ) → ((n : ℕ) → NamesPlaces (e n)) → NamesIfPlaced (option_map (λ n. line.Step (e n)) o)
  number-names e None h = tt
  number-names e (Some n) h = λ _. h n

  bare-names : (l : Line) (fs : List (List ℕ)) → NamesPlacesAt l → NamesIfPlaced (bare l fs)
  bare-names l [] h = λ _. h
  bare-names l (f ∷ fs) h = tt

  crash-names : (p n : Option ℕ) → NamesIfPlaced (crash_at p n)
  crash-names None n = tt
  crash-names (Some p) None = tt
  crash-names (Some p) (Some n) = λ _. tt

  said-names : (k : Keyword) (fs : List (List ℕ)) → NamesIfPlaced (said_by k fs)
  said-names keyword.Work fs = number-names event.Work (only_number fs) (λ n. tt)
  said-names keyword.Deliver fs = number-names event.Deliver (only_number fs) (λ n. tt)
  said-names keyword.Drop fs = number-names event.Discarded (only_number fs) (λ n. tt)
  said-names keyword.Crash [] = tt
  said-names keyword.Crash (p ∷ fs) = crash-names (number_of p) (kept_of fs)
  said-names keyword.Barrier fs = bare-names (line.Step event.Barrier) fs tt
  said-names keyword.Recover fs = recover-names fs
  said-names keyword.Repair fs = bare-names (line.Step event.Repair) fs tt
  said-names keyword.Discard fs = bare-names (line.Step event.Discard) fs tt
  said-names keyword.Settle fs = bare-names line.Settle fs tt
  said-names keyword.Finish fs = bare-names line.Finish fs tt
  said-names keyword.Unknown fs = tt

  placed-names : (o : Option Line) → NamesIfPlaced o → Each NamesPlacesAt (said (placed places o))
  placed-names None h = tt
  placed-names (Some l) h = by_test (are_below places (places_of l)) (λ t. rw t (h t, tt)) (λ f. rw f tt)

  fields-name : (fields : List (List ℕ)) → Each NamesPlacesAt (said (of_fields places fields))
  fields-name [] = tt
  fields-name (f ∷ fs) = by_test (slice_index f 0 == 35) (λ t. rw t tt) (λ e. rw e (placed-names (said_by (keyword_of f) fs) (said-names (keyword_of f) fs)))

  lines-name : (pieces : List (List ℕ)) → Each NamesPlacesAt (schedule_of (map (line_of places) pieces))
  lines-name [] = tt
  lines-name (p ∷ ps) =
      Each-append NamesPlacesAt (said (line_of places p)) (schedule_of (map (line_of places) ps)) (fields-name (fields_of (without_return_of p))) (lines-name ps)

  pub schedule-names : (text : List ℕ) → Each NamesPlacesAt (schedule_of (lines_of places text))
  schedule-names text = lines-name (slice_split is_line_end text)
