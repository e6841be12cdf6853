-- A log as its bytes, and what the calls make of it.
use Rattle.std.proofs.Common.{◌≡◌, ◌∙◌, ◌+◌, ◌-◌, ◌<◌, ◌≤◌, ℕ, zero, suc, true, false, List, [], ◌∷◌, ◌++◌, length, length-append, append_assoc, append-nil, take, drop, leb, Some, None, Ok, Err, ap, sym, subst, arith, inl, inr}
use Rattle.std.specs.Prelude.{Result, OnOk}
use Rattle.std.specs.List.{All}
use Rattle.std.proofs.lemmas.Bool.{cases_Bool, cond-true, cond-false, leb-true, leb-false}
use Rattle.std.proofs.lemmas.List.{take-take, take-append-le, drop-append-le, drop-drop, length-take, length-take-le, length-drop, take-append-drop, take_all, drop_all, drop-take}
use Rattle.std.proofs.lemmas.List.Elements.{All-append, All-take, All-drop}
use Rattle.gr_log.specs.declared.record.LogRecord.{LogRecord}
use Rattle.gr_log.specs.Bytes.{record_bytes, records_bytes, size_of}
use Rattle.gr_log.specs.Log.{Log, empty_log, tail_bytes, tail_size, committed_log, cut_log, whole_in, torn_log}
use Rattle.gr_log.specs.Appending.{log_bytes, committed_size, IsAppended}
use Rattle.gr_log.specs.Reading.{first_record, read, log_in, IsLog}
use Rattle.gr_log.proofs.Reading.{size, known, first-fits, first-take, first-part, none-part, read-nil, read-none, read-some, read-append}
use Rattle.gr_log.proofs.Written.{Byte, first-written}

-- ---- reading and writing a whole list

written-by : (m : ℕ) (d : List ℕ) → length d ≤ m → All Byte d → records_bytes (read d).0 ++ (read d).1 ≡ d
written-by m [] le small = ap (λ (p : List LogRecord × List ℕ). records_bytes p.0 ++ p.1) read-nil
written-by zero (b ∷ bs) le small = absurd (omega arith)
written-by (suc m) (b ∷ bs) le small = elim (known (first_record (b ∷ bs))) [
  | inl none ↦ ap (λ (p : List LogRecord × List ℕ). records_bytes p.0 ++ p.1) (read-none (b ∷ bs) none)
  | inr some ↦
      let d : List ℕ = b ∷ bs in
      let r = some.0 in
      let fits = first-fits d r some.1 in
      let later = written-by m (drop (size r) d) (omega (arith, length-drop (size r) d, fits.0, fits.1)) (All-drop Byte (size r) d small) in
      ap (λ (p : List LogRecord × List ℕ). records_bytes p.0 ++ p.1) (read-some d r some.1)
      ∙ append_assoc (record_bytes r) (records_bytes (read (drop (size r) d)).0) (read (drop (size r) d)).1
      ∙ ap (λ (l : List ℕ). record_bytes r ++ l) later
      ∙ ap (λ (l : List ℕ). l ++ drop (size r) d) (first-written d r small some.1)
      ∙ take-append-drop (size r) d
]

pub written : (d : List ℕ) → All Byte d → records_bytes (read d).0 ++ (read d).1 ≡ d
written d small = written-by (length d) d (omega arith) small

-- ---- the first bytes of a tail

abbrev Torn : ℕ → List ℕ → Type 0
Torn n d = read (take n d) ≡ (whole_in n (read d).0, drop (size_of (whole_in n (read d).0)) (take n d))

module _ (n : ℕ) (d : List ℕ) where
  torn-none : first_record d ≡ None → Torn n d
  torn-none none =
      read-none (take n d) (none-part d n none)
      ∙ ap (λ (p : List LogRecord × List ℕ). (whole_in n p.0, drop (size_of (whole_in n p.0)) (take n d))) (sym (read-none d none))

  torn-part : (r : LogRecord) → first_record d ≡ Some r → leb (size r) n ≡ false → Torn n d
  torn-part r is off =
      read-none (take n d) (first-part d r n is (leb-false (size r) n off))
      ∙ ap (λ (w : List LogRecord). (w, drop (size_of w) (take n d)))
      (sym (ap (λ (p : List LogRecord × List ℕ). whole_in n p.0) (read-some d r is) ∙ cond-false (leb (size r) n) _ _ off))

  torn-more : (r : LogRecord) → first_record d ≡ Some r → leb (size r) n ≡ true → Torn (n - size r) (drop (size r) d) → Torn n d
  torn-more r is on later =
      let room : size r ≤ n = leb-true (size r) n on in
      let split : n ≡ size r + (n - size r) = omega arith in
      let rest : drop (size r) (take n d) ≡ take (n - size r) (drop (size r) d) =
      ap (λ (k : ℕ). drop (size r) (take k d)) split ∙ drop-take (size r) (n - size r) d in
      let whole : whole_in n (read d).0 ≡ r ∷ whole_in (n - size r) (read (drop (size r) d)).0 =
      ap (λ (p : List LogRecord × List ℕ). whole_in n p.0) (read-some d r is) ∙ cond-true (leb (size r) n) _ _ on in
      let w : List LogRecord = whole_in (n - size r) (read (drop (size r) d)).0 in
      read-some (take n d) r (first-take d r is n room)
      ∙ ap (λ (l : List ℕ). (r ∷ (read l).0, (read l).1)) rest
      ∙ ap (λ (p : List LogRecord × List ℕ). (r ∷ p.0, p.1)) later
      ∙ ap (λ (l : List ℕ). (r ∷ w, drop (size_of w) l)) (sym rest)
      ∙ ap (λ (l : List ℕ). (r ∷ w, l)) (drop-drop (size_of w) (size r) (take n d) ∙ ap (λ (k : ℕ). drop k (take n d)) (sym (length-append (record_bytes r) (records_bytes w))))
      ∙ ap (λ (l : List LogRecord). (l, drop (size_of l) (take n d))) (sym whole)

torn-by : (m n : ℕ) (d : List ℕ) → length d ≤ m → Torn n d
torn-by zero n d le = elim (known (first_record d)) [
  | inl none ↦ torn-none n d none
  | inr some ↦ let fits = first-fits d some.0 some.1 in absurd (omega (arith, fits.0, fits.1))
]
torn-by (suc m) n d le = elim (known (first_record d)) [
  | inl none ↦ torn-none n d none
  | inr some ↦ elim (cases_Bool (leb (size some.0) n)) [
    | inl on ↦
        let fits = first-fits d some.0 some.1 in
        torn-more n d some.0 some.1 on (torn-by m (n - size some.0) (drop (size some.0) d) (omega (arith, length-drop (size some.0) d, fits.0, fits.1)))
    | inr off ↦ torn-part n d some.0 some.1 off
  ]
]

-- ---- a log

pub new-is : IsLog [] 0
new-is = record { inside = omega arith; whole = ap (λ (p : List LogRecord × List ℕ). p.1) read-nil; bytes = λ j d l. absurd (omega arith) }

pub new-empty : log_in [] 0 ≡ empty_log
new-empty = ap (λ (p : List LogRecord × List ℕ). record { committed = p.0; appended = p.0; torn = p.1 }) read-nil

module _ (bs : List ℕ) (n : ℕ) (is : IsLog bs n) where
  pub tail-is : tail_bytes (log_in bs n) ≡ drop n bs
  tail-is = written (drop n bs) (All-drop Byte n bs is.bytes)

  committed-is : records_bytes (log_in bs n).committed ≡ take n bs
  committed-is = sym (append-nil (records_bytes (log_in bs n).committed)) ∙ ap (λ (l : List ℕ). records_bytes (log_in bs n).committed ++ l) (sym is.whole) ∙ written (take n bs) (All-take Byte n bs is.bytes)

  pub log-is : log_bytes (log_in bs n) ≡ bs
  log-is = (λ i. committed-is i ++ tail-is i) ∙ take-append-drop n bs

  pub committed-length : committed_size (log_in bs n) ≡ n
  committed-length = ap length committed-is ∙ length-take-le n bs is.inside

  pub tail-length : tail_size (log_in bs n) ≡ length bs - n
  tail-length = ap length tail-is ∙ length-drop n bs

  -- all is committed
  module _ (none : (read (drop n bs)).1 ≡ []) where
    all : read bs ≡ ((read (take n bs)).0 ++ (read (drop n bs)).0, (read (drop n bs)).1)
    all = ap read (sym (take-append-drop n bs)) ∙ read-append (take n bs) (drop n bs) is.whole

    pub commit-is : IsLog bs (length bs)
    commit-is = record {
      inside = omega arith;
      whole = ap (λ (l : List ℕ). (read l).1) (take_all (length bs) bs (omega arith)) ∙ ap (λ (p : List LogRecord × List ℕ). p.1) all ∙ none;
      bytes = is.bytes;
    }

    pub commit-log : log_in bs (length bs) ≡ committed_log (log_in bs n)
    commit-log =
        ap (λ (l : List ℕ). record { committed = (read l).0; appended = (read (drop (length bs) bs)).0; torn = (read (drop (length bs) bs)).1 }) (take_all (length bs) bs (omega arith))
        ∙ ap (λ (p : List LogRecord × List ℕ). record { committed = p.0; appended = (read (drop (length bs) bs)).0; torn = (read (drop (length bs) bs)).1 }) all
        ∙ ap (λ (p : List LogRecord × List ℕ). record { committed = (log_in bs n).committed ++ (log_in bs n).appended; appended = p.0; torn = p.1 }) (ap read (drop_all (length bs) bs (omega arith)) ∙ read-nil)

  -- the first bytes of the tail are kept
  module _ (k : ℕ) where
    kept-committed : take n (take (n + k) bs) ≡ take n bs
    kept-committed = take-take n (n + k) bs (omega arith)

    pub tear-is : IsLog (take (n + k) bs) n
    tear-is = record {
      inside = omega (arith, length-take (n + k) bs, is.inside);
      whole = ap (λ (l : List ℕ). (read l).1) kept-committed ∙ is.whole;
      bytes = All-take Byte (n + k) bs is.bytes;
    }

    pub tear-log : log_in (take (n + k) bs) n ≡ torn_log k (log_in bs n)
    tear-log =
        (λ i. record { committed = (read (kept-committed i)).0; appended = (read (drop-take n k bs i)).0; torn = (read (drop-take n k bs i)).1 })
        ∙ ap (λ (p : List LogRecord × List ℕ). record { committed = (log_in bs n).committed; appended = p.0; torn = p.1 }) (torn-by (length (drop n bs)) k (drop n bs) (omega arith))
        ∙ ap (λ (l : List ℕ). let whole = whole_in k (log_in bs n).appended in record { committed = (log_in bs n).committed; appended = whole; torn = drop (size_of whole) (take k l) }) (sym tail-is)

  -- the whole tail is kept
  pub tear-all : (k : ℕ) → length bs - n ≤ k → log_in bs n ≡ torn_log k (log_in bs n)
  tear-all k le = ap (λ (l : List ℕ). log_in l n) (sym (take_all (n + k) bs (omega (arith, is.inside)))) ∙ tear-log k

  -- none of the tail is kept
  pub cut-is : IsLog (take n bs) n
  cut-is = record {
    inside = omega (arith, length-take n bs, is.inside);
    whole = ap (λ (l : List ℕ). (read l).1) (take-take n n bs (omega arith)) ∙ is.whole;
    bytes = All-take Byte n bs is.bytes;
  }

  pub cut-is_log : log_in (take n bs) n ≡ cut_log (log_in bs n)
  cut-is_log =
      ap (λ (l : List ℕ). record { committed = (read l).0; appended = (read (drop n (take n bs))).0; torn = (read (drop n (take n bs))).1 }) (take-take n n bs (omega arith))
      ∙ ap (λ (p : List LogRecord × List ℕ). record { committed = (log_in bs n).committed; appended = p.0; torn = p.1 }) (ap read (drop_all n (take n bs) (omega (arith, length-take n bs))) ∙ read-nil)

  -- a record follows
  module _ (r : LogRecord) (reads : first_record (record_bytes r) ≡ Some r) (small : All Byte (record_bytes r)) where
    one : read (record_bytes r) ≡ (r ∷ [], [])
    one = read-some (record_bytes r) r reads ∙ ap (λ (p : List LogRecord × List ℕ). (r ∷ p.0, p.1)) (ap read (drop_all (size r) (record_bytes r) (omega arith)) ∙ read-nil)

    front : take n (bs ++ record_bytes r) ≡ take n bs
    front = take-append-le n bs (record_bytes r) is.inside

    back : drop n (bs ++ record_bytes r) ≡ drop n bs ++ record_bytes r
    back = drop-append-le n bs (record_bytes r) is.inside

    pub append-is : IsLog (bs ++ record_bytes r) n
    append-is = record {
      inside = omega (arith, length-append bs (record_bytes r), is.inside);
      whole = ap (λ (l : List ℕ). (read l).1) front ∙ is.whole;
      bytes = All-append Byte bs (record_bytes r) is.bytes small;
    }

    pub append-log : IsAppended r (log_in bs n) (log_in (bs ++ record_bytes r) n)
    append-log = record {
      committed = ap (λ (l : List ℕ). (read l).0) front;
      bytes = ap (λ (l : List ℕ). records_bytes (read l).0 ++ (read l).1) back ∙ written (drop n bs ++ record_bytes r) (All-append Byte (drop n bs) (record_bytes r) (All-drop Byte n bs is.bytes) small) ∙ ap (λ (l : List ℕ). l ++ record_bytes r) (sym tail-is);
      whole = λ none.
          (λ i. record { committed = (read (front i)).0; appended = (read (back i)).0; torn = (read (back i)).1 })
          ∙ ap (λ (p : List LogRecord × List ℕ). record { committed = (log_in bs n).committed; appended = p.0; torn = p.1 }) (read-append (drop n bs) (record_bytes r) none)
          ∙ ap (λ (p : List LogRecord × List ℕ). record { committed = (log_in bs n).committed; appended = (log_in bs n).appended ++ p.0; torn = p.1 }) one
          ∙ ap (λ (l : List ℕ). record { committed = (log_in bs n).committed; appended = (log_in bs n).appended ++ r ∷ []; torn = l }) (sym none);
    }

-- the same of a call that may fail
pub append-from : {E : Type 0} (bs cs : List ℕ) (n : ℕ) → IsLog bs n → (r : LogRecord) (old : Log) (result : Result (Unit {0}) E)
    → first_record (record_bytes r) ≡ Some r → All Byte (record_bytes r) → log_in bs n ≡ old
    → OnOk result (cs ≡ bs ++ record_bytes r) → OnOk result (IsAppended r old (log_in cs n))
append-from bs cs n is r old (Ok u) reads small view e =
    subst (λ (l : Log). IsAppended r l (log_in cs n)) view (subst (λ (l : List ℕ). IsAppended r (log_in bs n) (log_in l n)) (sym e) (append-log bs n is r reads small))
append-from bs cs n is r old (Err u) reads small view e = e

-- ---- the reader of records

module _ (bs : List ℕ) (at : ℕ) (rs total : List LogRecord) (le : at ≤ length bs) (so_far : rs ++ (read (drop at bs)).0 ≡ total) where
  rest-is : take (length bs - at) (drop at bs) ≡ drop at bs
  rest-is = take_all (length bs - at) (drop at bs) (omega (arith, length-drop at bs))

  module _ (r : LogRecord) (is : first_record (take (length bs - at) (drop at bs)) ≡ Some r) where
    here : first_record (drop at bs) ≡ Some r
    here = ap first_record (sym rest-is) ∙ is

    pub step-fits : (at + size r ≤ length bs) × (0 < size r)
    step-fits = let fits = first-fits (drop at bs) r here in ((omega (arith, length-drop at bs, fits.0)), fits.1)

    pub step-reads : (rs ++ r ∷ []) ++ (read (drop (at + size r) bs)).0 ≡ total
    step-reads =
        append_assoc rs (r ∷ []) (read (drop (at + size r) bs)).0
        ∙ ap (λ (l : List ℕ). rs ++ r ∷ (read l).0) (sym (drop-drop (size r) at bs))
        ∙ ap (λ (p : List LogRecord × List ℕ). rs ++ p.0) (sym (read-some (drop at bs) r here))
        ∙ so_far

  pub end-reads : first_record (take (length bs - at) (drop at bs)) ≡ None → rs ≡ total
  end-reads none =
      sym (append-nil rs)
      ∙ ap (λ (p : List LogRecord × List ℕ). rs ++ p.0) (sym (read-none (drop at bs) (ap first_record (sym rest-is) ∙ none)))
      ∙ so_far
