-- The holders at load, by the ends of the edges at each place.
use Rattle.std.proofs.Common.{◌≡◌, ◌∙◌, ◌<◌, ◌≤◌, ◌+◌, ◌-◌, ℕ, zero, suc, Bool, false, not, eqb, ltb, cond, List, [], ◌∷◌, length, take, get_or, map, refl, ap, sym, arith, inl, inr}
use Rattle.std.specs.Prelude.{◌&&◌, ◌||◌, slice_index_or, min}
use Rattle.std.specs.List.{All, filter, list_any, range_with_len, enumerate_from}
use Rattle.std.proofs.Math.Bool.{and-true, and-false}
use Rattle.std.proofs.lemmas.Bool.{cases_Bool, or_parts, ne_eqb, lt-ltb, le-ltb}
use Rattle.std.proofs.lemmas.List.Elements.{All-cons, All-nil}
use Rattle.std.proofs.lemmas.List.Folds.{list_any-append}
use Rattle.std.proofs.lemmas.List.FromFn.{get_or-range_with_len, length-range_with_len}
use Rattle.std.proofs.Math.Nat.{mod-lt}
use Rattle.gr_base.specs.declared.records.Edge.{Edge}
use Rattle.gr_base.specs.declared.records.NumberedEdge.{NumberedEdge}
use Rattle.gr_base.specs.Rising.{has, without}
use Rattle.gr_base.specs.Places.{below, ring, IsPlaces}
use Rattle.gr_cut.specs.Cut.{home, place_at_load, cut_of}
use Rattle.gr_cut.proofs.Rows.{numbered_edge, rows-at}
use Rattle.gr_copies.specs.Ends.{touches, edge_at, is_end}
use Rattle.gr_copies.specs.Holders.{has_edge_of, needed_holders, first_holders, further}
use Rattle.gr_copies.proofs.Selecting.{filter-same, filter-on, filter-off, members-below}

module _ (place : Edge → ℕ) (r : ℕ) (whole : List Edge) where
  abbrev here : NumberedEdge → Bool
  here x = eqb (place x.edge) r

  abbrev number : NumberedEdge → ℕ
  number x = x.number

  -- a test of the edges of a row's numbers
  pub any-row : (f : Edge → Bool) (a : ℕ) (es : List Edge) → ((k : ℕ) (d : Edge) → k < length es → get_or whole (a + k) d ≡ get_or es k d)
      → list_any (λ n. f (edge_at whole n)) (map number (filter here (map numbered_edge (enumerate_from a es)))) ≡ list_any (λ e. f e && eqb (place e) r) es
  any-row f a [] at = refl
  any-row f a (e ∷ es) at =
      let none : Edge = record { src = 0; dst = 0; weight = 0 } in
      let zero_on : a + 0 ≡ a = omega arith in
      let first : edge_at whole a ≡ e = ap (edge_at whole) (sym zero_on) ∙ at 0 none (omega arith) in
      let rest = any-row f (a + 1) es (λ k d lt. let next : a + 1 + k ≡ a + suc k = omega arith in ap (λ j. get_or whole j d) next ∙ at (suc k) d (omega arith)) in
      let more = map numbered_edge (enumerate_from (a + 1) es) in
      let x : NumberedEdge = record { number = a; edge = e } in
      elim (cases_Bool (eqb (place e) r)) [
        | inl on ↦
            ap (λ l. list_any (λ n. f (edge_at whole n)) (map number l)) (filter-on here x more on)
            ∙ ap (λ g. f g || list_any (λ n. f (edge_at whole n)) (map number (filter here more))) first
            ∙ ap (λ b. f e || b) rest
            ∙ ap (λ b. b || list_any (λ e. f e && eqb (place e) r) es) (sym (and-true (f e)) ∙ ap (λ b. f e && b) (sym on))
        | inr off ↦
            ap (λ l. list_any (λ n. f (edge_at whole n)) (map number l)) (filter-off here x more off)
            ∙ rest
            ∙ ap (λ b. b || list_any (λ e. f e && eqb (place e) r) es) (sym (and-false (f e)) ∙ ap (λ b. f e && b) (sym off))
      ]

  -- a row's numbers are of edges
  pub row-bound : (a m : ℕ) (es : List Edge) → a + length es ≤ m → All (λ n. n < m) (map number (filter here (map numbered_edge (enumerate_from a es))))
  row-bound a m [] le = All-nil (λ n. n < m)
  row-bound a m (e ∷ es) le =
      let rest = row-bound (a + 1) m es (omega arith) in
      let more = map numbered_edge (enumerate_from (a + 1) es) in
      let x : NumberedEdge = record { number = a; edge = e } in
      elim (cases_Bool (eqb (place e) r)) [
        | inl on ↦ rw on (All-cons (λ n. n < m) a (map number (filter here more)) (omega arith) rest)
        | inr off ↦ rw off rest
      ]

-- tests that fail from some number on
filter-none : (f : ℕ → Bool) (a m : ℕ) → ((q : ℕ) → a ≤ q → f q ≡ false) → filter f (range_with_len a m) ≡ []
filter-none f a zero none = refl
filter-none f a (suc m) none = filter-off f a (range_with_len (a + 1) m) (none a (omega arith)) ∙ filter-none f (a + 1) m (λ q le. none q (omega arith))

pub filter-past : (f : ℕ → Bool) (a n m : ℕ) → n ≤ m → ((q : ℕ) → a + n ≤ q → f q ≡ false) → filter f (range_with_len a m) ≡ filter f (range_with_len a n)
filter-past f a zero m le none = filter-none f a m (λ q low. none q (omega arith))
filter-past f a (suc n) zero le none = absurd (omega arith)
filter-past f a (suc n) (suc m) le none = ap (λ l. cond (f a) (a ∷ l) l) (filter-past f (a + 1) n m (omega arith) (λ q low. none q (omega arith)))

has-range_past : (a n q : ℕ) → a + n ≤ q → has (range_with_len a n) q ≡ false
has-range_past a zero q le = refl
has-range_past a (suc n) q le = ap (λ b. b || has (range_with_len (a + 1) n) q) (ne_eqb a q (λ e. omega arith)) ∙ has-range_past (a + 1) n q (omega arith)

has-filter_none : (f : ℕ → Bool) (xs : List ℕ) (q : ℕ) → has xs q ≡ false → has (filter f xs) q ≡ false
has-filter_none f [] q none = refl
has-filter_none f (x ∷ xs) q none =
    let both = or_parts (eqb x q) (has xs q) none in
    elim (cases_Bool (f x)) [
      | inl on ↦ ap (λ l. has l q) (filter-on f x xs on) ∙ ap (λ b. b || has (filter f xs) q) both.0 ∙ has-filter_none f xs q both.1
      | inr off ↦ ap (λ l. has l q) (filter-off f x xs off) ∙ has-filter_none f xs q both.1
    ]

has-take_none : (n : ℕ) (xs : List ℕ) (q : ℕ) → has xs q ≡ false → has (take n xs) q ≡ false
has-take_none zero xs q none = refl
has-take_none (suc n) [] q none = refl
has-take_none (suc n) (x ∷ xs) q none = let both = or_parts (eqb x q) (has xs q) none in ap (λ b. b || has (take n xs) q) both.0 ∙ has-take_none n xs q both.1

module _ (places theta losses : ℕ) (es : List Edge) (most : places ≤ 64) (some : 1 ≤ places) where
  -- the ends of the edges at a place are those of the vertices with an edge there
  ends-there : (v r : ℕ) → r < places → is_end es (slice_index_or (cut_of places theta es) r []) v ≡ has_edge_of places theta losses es v r
  ends-there v r lt =
      ap (λ l. is_end es l v) (rows-at (place_at_load places theta es) places es r [] lt)
      ∙ any-row (place_at_load places theta es) r es (λ e. touches e v) 0 es (λ k d low. let z : 0 + k ≡ k = omega arith in ap (λ j. get_or es j d) z)

  -- a set of ends is what the vertex needs
  pub needed-is : (v : ℕ) (s : List ℕ) → IsPlaces s → ((r : ℕ) → has s r ≡ (eqb (home places v) r || (ltb r places && is_end es (slice_index_or (cut_of places theta es) r []) v))) → s ≡ needed_holders places theta losses es v
  needed-is v s are member =
      let h = home places v in
      let t : ℕ → Bool = λ r. eqb h r || (ltb r places && is_end es (slice_index_or (cut_of places theta es) r []) v) in
      sym (members-below s 64 are.rise are.below)
      ∙ filter-same (has s) t (range_with_len 0 64) (λ k d lt. member (get_or (range_with_len 0 64) k d))
      ∙ filter-past t 0 places 64 most (λ q le. let low : home places v < places = mod-lt v some in
      ap (λ b. b || (ltb q places && is_end es (slice_index_or (cut_of places theta es) q []) v)) (ne_eqb h q (λ e. omega arith))
      ∙ ap (λ b. b && is_end es (slice_index_or (cut_of places theta es) q []) v) (le-ltb q places (omega arith)))
      ∙ filter-same t (λ r. eqb h r || has_edge_of places theta losses es v r) (range_with_len 0 places) (λ k d lt.
      let q = get_or (range_with_len 0 places) k d in
      let low : q < places = omega (arith, get_or-range_with_len 0 places k d (rw (length-range_with_len 0 places) at lt), length-range_with_len 0 places) in
      ap (λ b. eqb h q || (b && is_end es (slice_index_or (cut_of places theta es) q []) v)) (lt-ltb q places low)
      ∙ ap (λ b. eqb h q || b) (ends-there v q low))

  needed-past : (v q : ℕ) → places ≤ q → has (needed_holders places theta losses es v) q ≡ false
  needed-past v q le = has-filter_none _ (range_with_len 0 places) q (has-range_past 0 places q (omega arith))

  further-past : (n m : ℕ) (held : List ℕ) (q : ℕ) → places ≤ q → has (further n held (ring m (below places))) q ≡ false
  further-past n m held q le =
      let none = has-range_past 0 places q (omega arith) in
      let above = has-filter_none (λ p. ltb m p) (range_with_len 0 places) q none in
      let under = has-filter_none (λ p. ltb p m) (range_with_len 0 places) q none in
      let both : has (ring m (below places)) q ≡ false =
      list_any-append (λ x. eqb x q) (filter (λ p. ltb m p) (below places)) (filter (λ p. ltb p m) (below places)) ∙ ap (λ b. b || has (filter (λ p. ltb p m) (below places)) q) above ∙ under in
      has-take_none (n - length held) (without (ring m (below places)) held) q (has-filter_none (λ x. not (has held x)) (ring m (below places)) q both)

  -- what a vertex needs, with the next places
  pub holders-are : (v : ℕ) (s hs : List ℕ) → s ≡ needed_holders places theta losses es v
      → hs ≡ filter (λ p. has s p || has (further (min (losses + 1) places) s (ring (home places v) (below places))) p) (below 64) → hs ≡ first_holders places theta losses es v
  unfolding first_holders
  holders-are v s hs needed is =
      let all : List ℕ → ℕ → Bool = λ s p. has s p || has (further (min (losses + 1) places) s (ring (home places v) (below places))) p in
      let u = needed_holders places theta losses es v in
      is
      ∙ ap (λ l. filter (all l) (below 64)) needed
      ∙ filter-past (all u) 0 places 64 most (λ q le. ap (λ b. b || has (further (min (losses + 1) places) u (ring (home places v) (below places))) q) (needed-past v q (omega arith)) ∙ further-past (min (losses + 1) places) (home places v) u q (omega arith))
