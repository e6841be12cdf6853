-- What the reader finds in a line that the printer writes.
use Rattle.std.proofs.Common.{◌≡◌, ℕ, suc, ◌^◌, ◌<◌, Bool, true, false, eqb, ltb, cond, List, [], ◌∷◌, ◌++◌, length, map, codes, Option, Some, refl, sym, ap, ◌∙◌, subst, arith, length-append, append_assoc}
use Rattle.std.specs.Prelude.{option_map}
use Rattle.std.specs.List.{All, flat_map, fold}
use Rattle.std.specs.Fmt.{decimal}
use Rattle.std.proofs.lemmas.Bool.{cond-true, cond-false, eqb-true, lt-ltb, le-ltb}
use Rattle.std.proofs.lemmas.List.{append-nil, get_or_append_left}
use Rattle.std.proofs.Math.Seq.{get_or-append_seam}
use Rattle.std.proofs.lemmas.List.Elements.{All-cons}
use Rattle.gr_base.specs.Rising.{RisesBy}
use Rattle.gr_base.specs.Places.{IsPlaces, with_place}
use Rattle.gr_text.proofs.Spaced.{IsWord, word-from_test, word-decimal, words-decimal, spaced, words-read, words-before}
use Rattle.gr_sched.specs.declared.event.Event.{Event}
use Rattle.gr_sched.specs.declared.event.Event.TheVariants as event
use Rattle.gr_sched.specs.declared.event.Line.{Line}
use Rattle.gr_sched.specs.declared.event.Line.TheVariants as line
use Rattle.gr_sched.specs.declared.line.LineFound.TheVariants.{Skipped, Found, Misplaced}
use Rattle.gr_sched.specs.Reading.{kept_of, crash_at, reborn_at, of_fields, line_of, lines_of, placed}
use Rattle.gr_sched.specs.Text.{line_text, schedule_text}
use Rattle.gr_sched.specs.Words.{word}
use Rattle.gr_sched.specs.EventText.{event_text}
use Rattle.gr_sched.specs.Printed.{IsLine, IsWithin}
use Rattle.gr_sched.proofs.Numbers.{number_of-decimal, all_numbers-decimal}

-- ---- places put among rising ones

place-last : (xs : List ℕ) (n : ℕ) → All (λ x. x < n) xs → with_place xs n ≡ xs ++ n ∷ []
place-last [] n above = refl
place-last (x ∷ xs) n above =
    let lt : x < n = above 0 x (omega arith) in
    cond-false (ltb n x) (n ∷ x ∷ xs) (cond (ltb x n) (x ∷ with_place xs n) (x ∷ xs)) (le-ltb n x (omega arith))
    ∙ cond-true (ltb x n) (x ∷ with_place xs n) (x ∷ xs) (lt-ltb x n lt)
    ∙ ap (λ (ns : List ℕ). x ∷ ns) (place-last xs n (λ k d lt. above (suc k) d (omega arith)))

places-more : (xs ns : List ℕ) → RisesBy (λ (m : ℕ). m) (xs ++ ns) → fold with_place xs ns ≡ xs ++ ns
places-more xs [] rise = sym (append-nil xs)
places-more xs (n ∷ ns) rise =
    let above : All (λ x. x < n) xs = λ k d lt.
    let r = rise k (length xs) d lt (omega (arith, length-append xs (n ∷ ns))) in
    omega (arith, get_or_append_left xs (n ∷ ns) d k lt, get_or-append_seam xs n ns d) in
    let next : xs ++ n ∷ ns ≡ (xs ++ n ∷ []) ++ ns = sym (append_assoc xs (n ∷ []) ns) in
    ap (λ (ms : List ℕ). fold with_place ms ns) (place-last xs n above) ∙ places-more (xs ++ n ∷ []) ns (subst (RisesBy (λ (m : ℕ). m)) next rise) ∙ sym next

-- ---- the words of a line

abbrev keep_words : Bool → ℕ → List (List ℕ)
keep_words none n = cond none [] (codes "keep" ∷ decimal n ∷ [])

abbrev rebirth_words : List ℕ → List (List ℕ)
rebirth_words [] = []
rebirth_words (p ∷ ps) = codes "rebirth" ∷ map decimal (p ∷ ps)

abbrev first_word : Line → List ℕ
first_word (line.Step (event.Work p)) = codes "work"
first_word (line.Step (event.Deliver i)) = codes "deliver"
first_word (line.Step (event.Discarded i)) = codes "drop"
first_word (line.Step (event.Crash p n)) = codes "crash"
first_word (line.Step event.Barrier) = codes "barrier"
first_word (line.Step (event.Recover ps)) = codes "recover"
first_word (line.Step event.Repair) = codes "repair"
first_word (line.Step event.Discard) = codes "discard"
first_word line.Settle = codes "settle"
first_word line.Finish = codes "finish"

abbrev other_words : Line → List (List ℕ)
other_words (line.Step (event.Work p)) = decimal p ∷ []
other_words (line.Step (event.Deliver i)) = decimal i ∷ []
other_words (line.Step (event.Discarded i)) = decimal i ∷ []
other_words (line.Step (event.Crash p n)) = decimal p ∷ keep_words (eqb n 0) n
other_words (line.Step event.Barrier) = []
other_words (line.Step (event.Recover ps)) = rebirth_words ps
other_words (line.Step event.Repair) = []
other_words (line.Step event.Discard) = []
other_words line.Settle = []
other_words line.Finish = []

-- numbers behind a word
spaced-words : (w : List ℕ) (ns : List ℕ) → w ++ flat_map word ns ≡ spaced w (map decimal ns)
spaced-words w [] = append-nil w
spaced-words w (n ∷ ns) = ap (λ (l : List ℕ). w ++ 32 ∷ l) (spaced-words (decimal n) ns)

keep-text : (none : Bool) (n : ℕ) (w : List ℕ) → w ++ cond none [] (codes " keep" ++ word n) ≡ spaced w (keep_words none n)
keep-text true n w = append-nil w
keep-text false n w = refl

text-words : (e : Event) → event_text e ≡ spaced (first_word (line.Step e)) (other_words (line.Step e))
text-words (event.Work p) = refl
text-words (event.Deliver i) = refl
text-words (event.Discarded i) = refl
text-words (event.Crash p n) = ap (λ (l : List ℕ). codes "crash" ++ 32 ∷ l) (keep-text (eqb n 0) n (decimal p))
text-words event.Barrier = refl
text-words (event.Recover []) = refl
text-words (event.Recover (p ∷ ps)) = ap (λ (l : List ℕ). codes "recover" ++ 32 ∷ l) (spaced-words (codes "rebirth") (p ∷ ps))
text-words event.Repair = refl
text-words event.Discard = refl

-- a line of the text, before others
line-words : (l : Line) (more : List ℕ) → line_text l ++ more ≡ spaced (first_word l) (other_words l) ++ 10 ∷ more
line-words (line.Step e) more = append_assoc (event_text e) (codes "\n") more ∙ ap (λ (t : List ℕ). t ++ 10 ∷ more) (text-words e)
line-words line.Settle more = refl
line-words line.Finish more = refl

first-is_word : (l : Line) → IsWord (first_word l)
first-is_word (line.Step (event.Work p)) = word-from_test (codes "work") (omega arith) refl
first-is_word (line.Step (event.Deliver i)) = word-from_test (codes "deliver") (omega arith) refl
first-is_word (line.Step (event.Discarded i)) = word-from_test (codes "drop") (omega arith) refl
first-is_word (line.Step (event.Crash p n)) = word-from_test (codes "crash") (omega arith) refl
first-is_word (line.Step event.Barrier) = word-from_test (codes "barrier") (omega arith) refl
first-is_word (line.Step (event.Recover ps)) = word-from_test (codes "recover") (omega arith) refl
first-is_word (line.Step event.Repair) = word-from_test (codes "repair") (omega arith) refl
first-is_word (line.Step event.Discard) = word-from_test (codes "discard") (omega arith) refl
first-is_word line.Settle = word-from_test (codes "settle") (omega arith) refl
first-is_word line.Finish = word-from_test (codes "finish") (omega arith) refl

no-words : All IsWord []
no-words = λ k d lt. absurd (omega arith)

one-number : (n : ℕ) → n < 2 ^ 32 → All IsWord (decimal n ∷ [])
one-number n small = All-cons IsWord (decimal n) [] (word-decimal n small) no-words

keep-are_words : (none : Bool) (n : ℕ) → n < 2 ^ 32 → All IsWord (keep_words none n)
keep-are_words true n small = no-words
keep-are_words false n small = All-cons IsWord (codes "keep") (decimal n ∷ []) (word-from_test (codes "keep") (omega arith) refl) (one-number n small)

small-places : (ps : List ℕ) → IsPlaces ps → All (λ p. p < 2 ^ 32) ps
small-places ps are = λ k d lt. let small = are.below k d lt in omega arith

others-are_words : (l : Line) → IsLine l → All IsWord (other_words l)
others-are_words (line.Step (event.Work p)) h = one-number p h
others-are_words (line.Step (event.Deliver i)) h = one-number i h
others-are_words (line.Step (event.Discarded i)) h = one-number i h
others-are_words (line.Step (event.Crash p n)) h = All-cons IsWord (decimal p) (keep_words (eqb n 0) n) (word-decimal p h.0) (keep-are_words (eqb n 0) n h.1)
others-are_words (line.Step event.Barrier) h = no-words
others-are_words (line.Step (event.Recover [])) h = no-words
others-are_words (line.Step (event.Recover (p ∷ ps))) h =
    All-cons IsWord (codes "rebirth") (map decimal (p ∷ ps)) (word-from_test (codes "rebirth") (omega arith) refl) (words-decimal (p ∷ ps) (small-places (p ∷ ps) h))
others-are_words (line.Step event.Repair) h = no-words
others-are_words (line.Step event.Discard) h = no-words
others-are_words line.Settle h = no-words
others-are_words line.Finish h = no-words

-- ---- what the words say

kept-said : (none : Bool) (n : ℕ) → eqb n 0 ≡ none → n < 2 ^ 32 → kept_of (keep_words none n) ≡ Some n
kept-said true n is small = ap (λ (m : ℕ). let one : Option ℕ = Some m in one) (sym (eqb-true n 0 is))
kept-said false n is small = number_of-decimal n small

words-say : (places : ℕ) (l : Line) → IsLine l → of_fields places (first_word l ∷ other_words l) ≡ placed places (Some l)
words-say places (line.Step (event.Work p)) h = ap (λ (n : Option ℕ). placed places (option_map (λ (p : ℕ). line.Step (event.Work p)) n)) (number_of-decimal p h)
words-say places (line.Step (event.Deliver i)) h = ap (λ (n : Option ℕ). placed places (option_map (λ (i : ℕ). line.Step (event.Deliver i)) n)) (number_of-decimal i h)
words-say places (line.Step (event.Discarded i)) h = ap (λ (n : Option ℕ). placed places (option_map (λ (i : ℕ). line.Step (event.Discarded i)) n)) (number_of-decimal i h)
words-say places (line.Step (event.Crash p n)) h = λ t. placed places (crash_at (number_of-decimal p h.0 t) (kept-said (eqb n 0) n refl h.1 t))
words-say places (line.Step event.Barrier) h = refl
words-say places (line.Step (event.Recover [])) h = refl
words-say places (line.Step (event.Recover (p ∷ ps))) h =
    ap (λ (ns : Option (List ℕ)). placed places (option_map reborn_at ns)) (all_numbers-decimal (p ∷ ps) (small-places (p ∷ ps) h))
    ∙ ap (λ (qs : List ℕ). placed places (Some (line.Step (event.Recover qs)))) (places-more [] (p ∷ ps) h.rise)
words-say places (line.Step event.Repair) h = refl
words-say places (line.Step event.Discard) h = refl
words-say places line.Settle h = refl
words-say places line.Finish h = refl

line-said : (places : ℕ) (l : Line) → IsLine l → IsWithin places l → line_of places (spaced (first_word l) (other_words l)) ≡ Found l
line-said places l is within =
    ap (of_fields places) (words-read (first_word l) (other_words l) (first-is_word l) (others-are_words l is))
    ∙ words-say places l is
    ∙ cond-true _ (Found l) Misplaced within

pub lines-said : (places : ℕ) (ls : List Line) → All IsLine ls → All (IsWithin places) ls → lines_of places (schedule_text ls) ≡ map Found ls ++ Skipped ∷ []
lines-said places [] are within = refl
lines-said places (l ∷ ls) are within =
    let is : IsLine l = are 0 l (omega arith) in
    let more = schedule_text ls in
    ap (lines_of places) (line-words l more)
    ∙ words-before (line_of places) (first_word l) (other_words l) more (first-is_word l) (others-are_words l is)
    ∙ (λ t. line-said places l is (within 0 l (omega arith)) t ∷ lines-said places ls (λ k d lt. are (suc k) d (omega arith)) (λ k d lt. within (suc k) d (omega arith)) t)
