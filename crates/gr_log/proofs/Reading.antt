-- Records and their bytes: what is written is read again, and what is read was written.
use Rattle.std.proofs.Common.{◌≡◌, ◌∙◌, ◌-◌, ◌<◌, ◌≤◌, ℕ, zero, suc, List, [], ◌∷◌, ◌++◌, length, length-append, take, drop, get_or, eqb, leb, Some, None, refl, ap, sym, subst, arith, inl, inr}
use Rattle.std.specs.Prelude.{Option, ◌⊎◌}
use Rattle.std.proofs.lemmas.Bool.{cases_Bool, cases_eq, cases_lt, cond-true, cond-false, eq-eqb, ne_eqb, le-leb, leb-true, lt-leb}
use Rattle.std.proofs.lemmas.List.{take-take, take-append-le, drop-append-le, length-take, length-drop}
use Rattle.gr_log.specs.declared.record.LogRecord.{LogRecord}
use Rattle.gr_log.specs.declared.record.LogRecord.TheVariants as entry
use Rattle.gr_log.specs.Bytes.{record_bytes}
use Rattle.gr_log.specs.Reading.{held_in, kept_in, said_by, first_record, read_on, read_past, read}

abbrev pub size : LogRecord → ℕ
size r = length (record_bytes r)

-- ---- what n bytes say

said : (n : ℕ) (f : List ℕ → LogRecord) (bs : List ℕ) → n ≤ length bs → said_by n f bs ≡ Some (f (take n bs))
said n f bs le = cond-true (leb n (length bs)) _ _ (le-leb n (length bs) le)

unsaid : (n : ℕ) (f : List ℕ → LogRecord) (bs : List ℕ) → length bs < n → said_by n f bs ≡ None
unsaid n f bs lt = cond-false (leb n (length bs)) _ _ (lt-leb n (length bs) lt)

said-is : (n : ℕ) (f : List ℕ → LogRecord) (bs : List ℕ) (r : LogRecord) → said_by n f bs ≡ Some r → (n ≤ length bs) × (r ≡ f (take n bs))
said-is n f bs r e = elim (cases_Bool (leb n (length bs))) [
  | inl on ↦ (leb-true n (length bs) on, cc (said n f bs (leb-true n (length bs) on)))
  | inr off ↦ let none = cond-false (leb n (length bs)) (Some (f (take n bs))) None off in cc
]

-- ---- the first record

module _ (t : ℕ) (bs : List ℕ) where
  pub first-held : t ≡ 0x43 → first_record (t ∷ bs) ≡ said_by 21 held_in bs
  unfolding first_record
  first-held at = cond-true (eqb t 0x43) _ _ (eq-eqb t 0x43 at)

  pub first-kept : t ≡ 0x45 → first_record (t ∷ bs) ≡ said_by 16 kept_in bs
  unfolding first_record
  first-kept at = cond-false (eqb t 0x43) _ _ (ne_eqb t 0x43 (λ e. omega arith)) ∙ cond-true (eqb t 0x45) _ _ (eq-eqb t 0x45 at)

  pub first-other : (t ≡ 0x43 → ⊥) → (t ≡ 0x45 → ⊥) → first_record (t ∷ bs) ≡ None
  unfolding first_record
  first-other a b = cond-false (eqb t 0x43) _ _ (ne_eqb t 0x43 a) ∙ cond-false (eqb t 0x45) _ _ (ne_eqb t 0x45 b)

  -- the cases of a record that stands
  pub record Held (r : LogRecord) : Type 0 where
    pub tag : t ≡ 0x43
    pub long : 21 ≤ length bs
    pub is : r ≡ held_in (take 21 bs)

  pub record Kept (r : LogRecord) : Type 0 where
    pub tag : t ≡ 0x45
    pub long : 16 ≤ length bs
    pub is : r ≡ kept_in (take 16 bs)

  pub first-is : (r : LogRecord) → first_record (t ∷ bs) ≡ Some r → Held r ⊎ Kept r
  first-is r e = elim (cases_eq t 0x43) [
    | inl at ↦ let q = said-is 21 held_in bs r (sym (first-held at) ∙ e) in inl (record { tag = at; long = q.0; is = q.1 })
    | inr apart ↦ elim (cases_eq t 0x45) [
      | inl at ↦ let q = said-is 16 kept_in bs r (sym (first-kept at) ∙ e) in inr (record { tag = at; long = q.0; is = q.1 })
      | inr other ↦ let none = first-other apart other in cc
    ]
  ]

  pub held-first : (r : LogRecord) → Held r → first_record (t ∷ bs) ≡ Some r
  held-first r h = first-held h.tag ∙ said 21 held_in bs h.long ∙ ap Some (sym h.is)

  pub kept-first : (r : LogRecord) → Kept r → first_record (t ∷ bs) ≡ Some r
  kept-first r h = first-kept h.tag ∙ said 16 kept_in bs h.long ∙ ap Some (sym h.is)

  -- none stands where its bytes are not all there
  pub first-short : (t ≡ 0x43 → length bs < 21) → (t ≡ 0x45 → length bs < 16) → first_record (t ∷ bs) ≡ None
  first-short a b = elim (cases_eq t 0x43) [
    | inl at ↦ first-held at ∙ unsaid 21 held_in bs (a at)
    | inr apart ↦ elim (cases_eq t 0x45) [
      | inl at ↦ first-kept at ∙ unsaid 16 kept_in bs (b at)
      | inr other ↦ first-other apart other
    ]
  ]

  pub short-first : first_record (t ∷ bs) ≡ None → (t ≡ 0x43 → length bs < 21) × (t ≡ 0x45 → length bs < 16)
  short-first e = (
    (λ at. elim (cases_lt (length bs) 21) [ inl lt ↦ lt | inr ge ↦ let some = held-first (held_in (take 21 bs)) (record { tag = at; long = ge; is = refl }) in cc ]),
    (λ at. elim (cases_lt (length bs) 16) [ inl lt ↦ lt | inr ge ↦ let some = kept-first (kept_in (take 16 bs)) (record { tag = at; long = ge; is = refl }) in cc ]),
  )

-- ---- its size

pub first-nil : first_record [] ≡ None
unfolding first_record
first-nil = refl

pub held-size : (bs : List ℕ) → size (held_in bs) ≡ 22
held-size bs = refl

pub kept-size : (bs : List ℕ) → size (kept_in bs) ≡ 17
kept-size bs = refl

held-again : (t u : ℕ) (bs cs : List ℕ) (r : LogRecord) → Held t bs r → 22 ≤ length (u ∷ cs) → take 22 (u ∷ cs) ≡ take 22 (t ∷ bs) → first_record (u ∷ cs) ≡ Some r
held-again t u bs cs r h le same =
    let tag : u ≡ t = cc in
    let rest : take 21 cs ≡ take 21 bs = cc in
    held-first u cs r (record { tag = tag ∙ h.tag; long = omega arith; is = h.is ∙ ap held_in (sym rest) })

kept-again : (t u : ℕ) (bs cs : List ℕ) (r : LogRecord) → Kept t bs r → 17 ≤ length (u ∷ cs) → take 17 (u ∷ cs) ≡ take 17 (t ∷ bs) → first_record (u ∷ cs) ≡ Some r
kept-again t u bs cs r h le same =
    let tag : u ≡ t = cc in
    let rest : take 16 cs ≡ take 16 bs = cc in
    kept-first u cs r (record { tag = tag ∙ h.tag; long = omega arith; is = h.is ∙ ap kept_in (sym rest) })

-- a record stands in as many bytes as it has, whatever follows
pub first-same : (d e : List ℕ) (r : LogRecord) → first_record d ≡ Some r → size r ≤ length e → take (size r) e ≡ take (size r) d → first_record e ≡ Some r
first-same [] e r is le same = let none = first-nil in cc
first-same (t ∷ bs) [] r is le same = elim (first-is t bs r is) [
  | inl h ↦ absurd (omega (arith, ap size h.is))
  | inr h ↦ absurd (omega (arith, ap size h.is))
]
first-same (t ∷ bs) (u ∷ cs) r is le same = elim (first-is t bs r is) [
  | inl h ↦
      let s : size r ≡ 22 = ap size h.is in
      held-again t u bs cs r h (omega arith) (subst (λ (n : ℕ). take n (u ∷ cs) ≡ take n (t ∷ bs)) s same)
  | inr h ↦
      let s : size r ≡ 17 = ap size h.is in
      kept-again t u bs cs r h (omega arith) (subst (λ (n : ℕ). take n (u ∷ cs) ≡ take n (t ∷ bs)) s same)
]

pub first-fits : (d : List ℕ) (r : LogRecord) → first_record d ≡ Some r → (size r ≤ length d) × (0 < size r)
first-fits [] r is = let none = first-nil in cc
first-fits (t ∷ bs) r is = elim (first-is t bs r is) [
  | inl h ↦ let s : size r ≡ 22 = ap size h.is in let l = h.long in ((omega arith), (omega arith))
  | inr h ↦ let s : size r ≡ 17 = ap size h.is in let l = h.long in ((omega arith), (omega arith))
]

module _ (d : List ℕ) (r : LogRecord) (is : first_record d ≡ Some r) where
  pub first-append : (x : List ℕ) → first_record (d ++ x) ≡ Some r
  first-append x =
      let fits = (first-fits d r is).0 in
      first-same d (d ++ x) r is (omega (arith, length-append d x)) (take-append-le (size r) d x fits)

  pub first-take : (n : ℕ) → size r ≤ n → first_record (take n d) ≡ Some r
  first-take n le =
      let fits = (first-fits d r is).0 in
      first-same d (take n d) r is (omega (arith, length-take n d)) (take-take (size r) n d le)

-- a part of its bytes says nothing
pub first-part : (d : List ℕ) (r : LogRecord) (n : ℕ) → first_record d ≡ Some r → n < size r → first_record (take n d) ≡ None
first-part [] r n is lt = let none = first-nil in cc
first-part (t ∷ bs) r zero is lt = first-nil
first-part (t ∷ bs) r (suc n) is lt = elim (first-is t bs r is) [
  | inl h ↦
      let s : size r ≡ 22 = ap size h.is in
      first-short t (take n bs) (λ at. omega (arith, length-take n bs)) (λ at. absurd (omega (arith, h.tag)))
  | inr h ↦
      let s : size r ≡ 17 = ap size h.is in
      first-short t (take n bs) (λ at. absurd (omega (arith, h.tag))) (λ at. omega (arith, length-take n bs))
]

pub none-part : (d : List ℕ) (n : ℕ) → first_record d ≡ None → first_record (take n d) ≡ None
none-part [] zero is = is
none-part [] (suc n) is = is
none-part (t ∷ bs) zero is = first-nil
none-part (t ∷ bs) (suc n) is =
    let q = short-first t bs is in
    first-short t (take n bs) (λ at. let lt = q.0 at in omega (arith, length-take n bs)) (λ at. let lt = q.1 at in omega (arith, length-take n bs))

-- ---- as the code looks at it

pub at-empty : (bs : List ℕ) → length bs ≡ 0 → first_record bs ≡ None
at-empty [] none = first-nil
at-empty (b ∷ bs) none = absurd (omega arith)

pub at-held : (bs : List ℕ) → get_or bs 0 0 ≡ 0x43 → 22 ≤ length bs → first_record bs ≡ Some (held_in (take 21 (drop 1 bs)))
at-held [] tag long = absurd (omega arith)
at-held (t ∷ bs) tag long = first-held t bs tag ∙ said 21 held_in bs (omega arith)

pub at-held_short : (bs : List ℕ) → get_or bs 0 0 ≡ 0x43 → length bs < 22 → first_record bs ≡ None
at-held_short [] tag short = first-nil
at-held_short (t ∷ bs) tag short = first-held t bs tag ∙ unsaid 21 held_in bs (omega arith)

pub at-kept : (bs : List ℕ) → get_or bs 0 0 ≡ 0x45 → 17 ≤ length bs → first_record bs ≡ Some (kept_in (take 16 (drop 1 bs)))
at-kept [] tag long = absurd (omega arith)
at-kept (t ∷ bs) tag long = first-kept t bs tag ∙ said 16 kept_in bs (omega arith)

pub at-kept_short : (bs : List ℕ) → get_or bs 0 0 ≡ 0x45 → length bs < 17 → first_record bs ≡ None
at-kept_short [] tag short = first-nil
at-kept_short (t ∷ bs) tag short = first-kept t bs tag ∙ unsaid 16 kept_in bs (omega arith)

pub at-other : (bs : List ℕ) → (get_or bs 0 0 ≡ 0x43 → ⊥) → (get_or bs 0 0 ≡ 0x45 → ⊥) → first_record bs ≡ None
at-other [] a b = first-nil
at-other (t ∷ bs) a b = first-other t bs a b

-- ---- all records

pub past-drop : (k : ℕ) (bs : List ℕ) → read_past k bs ≡ read (drop k bs)
unfolding read_past
past-drop zero bs = refl
past-drop (suc k) [] = refl
past-drop (suc k) (b ∷ bs) = past-drop k bs

pub read-nil : read [] ≡ ([], [])
unfolding read_past
read-nil = refl

pub read-none : (d : List ℕ) → first_record d ≡ None → read d ≡ ([], d)
unfolding read_past
read-none [] is = refl
read-none (b ∷ bs) is = ap (λ (o : Option LogRecord). read_on o (b ∷ bs) (λ k. read_past k bs)) is

drop-rest : (r : LogRecord) (b : ℕ) (bs : List ℕ) → drop (size r - 1) bs ≡ drop (size r) (b ∷ bs)
drop-rest (entry.Held v i o m hs) b bs = refl
drop-rest (entry.Kept a) b bs = refl

pub read-some : (d : List ℕ) (r : LogRecord) → first_record d ≡ Some r → read d ≡ (r ∷ (read (drop (size r) d)).0, (read (drop (size r) d)).1)
unfolding read_past
read-some [] r is = let none = first-nil in cc
read-some (b ∷ bs) r is =
    ap (λ (o : Option LogRecord). read_on o (b ∷ bs) (λ k. read_past k bs)) is
    ∙ ap (λ (p : List LogRecord × List ℕ). (r ∷ p.0, p.1)) (past-drop (size r - 1) bs ∙ ap read (drop-rest r b bs))

-- ---- by the records one after another

pub known : (o : Option LogRecord) → (o ≡ None) ⊎ ((r : LogRecord) × (o ≡ Some r))
known None = inl refl
known (Some r) = inr (r, refl)

-- what stands whole is read first
append-by : (m : ℕ) (d x : List ℕ) → length d ≤ m → (read d).1 ≡ [] → read (d ++ x) ≡ ((read d).0 ++ (read x).0, (read x).1)
append-by m [] x le whole = ap (λ (p : List LogRecord × List ℕ). (p.0 ++ (read x).0, (read x).1)) (sym read-nil)
append-by zero (b ∷ bs) x le whole = absurd (omega arith)
append-by (suc m) (b ∷ bs) x le whole = elim (known (first_record (b ∷ bs))) [
  | inl none ↦ let torn = ap (λ (p : List LogRecord × List ℕ). p.1) (read-none (b ∷ bs) none) in cc
  | inr some ↦
      let d : List ℕ = b ∷ bs in
      let r = some.0 in
      let fits = first-fits d r some.1 in
      let now = read-some d r some.1 in
      let rest : (read (drop (size r) d)).1 ≡ [] = sym (ap (λ (p : List LogRecord × List ℕ). p.1) now) ∙ whole in
      let later = append-by m (drop (size r) d) x (omega (arith, length-drop (size r) d, fits.0, fits.1)) rest in
      read-some (d ++ x) r (first-append d r some.1 x)
      ∙ ap (λ (l : List ℕ). (r ∷ (read l).0, (read l).1)) (drop-append-le (size r) d x fits.0)
      ∙ ap (λ (p : List LogRecord × List ℕ). (r ∷ p.0, p.1)) later
      ∙ ap (λ (p : List LogRecord × List ℕ). (p.0 ++ (read x).0, (read x).1)) (sym now)
]

pub read-append : (d x : List ℕ) → (read d).1 ≡ [] → read (d ++ x) ≡ ((read d).0 ++ (read x).0, (read x).1)
read-append d x whole = append-by (length d) d x (omega arith) whole
