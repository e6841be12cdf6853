-- Marks of a place in sets.
use Rattle.std.proofs.Common.{◌≡◌, ◌∙◌, ◌<◌, ◌+◌, ℕ, Bool, true, false, eqb, ltb, List, [], ◌∷◌, length, take, get_or, set, refl, ap, sym, arith, inl, inr}
use Rattle.std.specs.Prelude.{◌&&◌, ◌||◌, slice_index, slice_index_or}
use Rattle.std.proofs.Math.Bool.{and-true, and-false, or-false, or_assoc}
use Rattle.std.proofs.lemmas.Bool.{cases_eq, cases_order, eq-eqb, ne_eqb, lt-ltb, le-ltb}
use Rattle.std.proofs.lemmas.List.{get_or_default, get_or-set_same, get_or-set_other, length-set}
use Rattle.std.proofs.lemmas.List.Folds.{list_any_more}
use Rattle.gr_base.specs.declared.records.Edge.{Edge}
use Rattle.gr_base.specs.Rising.{RisesBy, has}
use Rattle.gr_base.specs.Places.{with_place}
use Rattle.gr_base.proofs.WithPlace.{has-with_place}
use Rattle.gr_cut.specs.Cut.{home}
use Rattle.gr_copies.specs.Ends.{touches, edge_at, is_end, IsMarked, AreEnds}

same-place : (vs : List ℕ) (j k : ℕ) → RisesBy (λ (n : ℕ). n) vs → j < length vs → k < length vs → slice_index vs j ≡ slice_index vs k → j ≡ k
same-place vs j k rise lj lk same = elim (cases_order j k) [
  | inl e ↦ e
  | inr o ↦ elim o [
    | inl lt ↦ let q = rise j k 0 lt lk in absurd (omega arith)
    | inr gt ↦ let q = rise k j 0 gt lj in absurd (omega arith)
  ]
]

module _ (vs : List ℕ) (p : ℕ) where
  -- a place is put into one set
  pub marked-at : (old : List (List ℕ)) (at v : ℕ) (e : List ℕ) → RisesBy (λ (n : ℕ). n) vs → at < length vs → length old ≡ length vs → slice_index vs at ≡ v
      → IsMarked vs p (λ w. eqb v w) old (set old at (with_place (get_or old at e) p))
  marked-at old at v e rise lt long is =
      let new = with_place (get_or old at e) p in
      let low : at < length old = omega arith in
      record {
        long = length-set old at new;
        members = λ k lk r. elim (cases_eq k at) [
          | inl same ↦
              let on : eqb v (slice_index vs k) ≡ true = eq-eqb v (slice_index vs k) (sym is ∙ sym (ap (slice_index vs) same)) in
              ap (λ j. has (get_or (set old at new) j []) r) same
              ∙ ap (λ l. has l r) (get_or-set_same old at new [] low)
              ∙ has-with_place (get_or old at e) p r
              ∙ ap (λ l. has l r || eqb p r) (get_or_default old at e [] low ∙ sym (ap (λ j. get_or old j []) same))
              ∙ ap (λ b. has (get_or old k []) r || b) (sym (and-true (eqb p r)))
              ∙ ap (λ b. has (get_or old k []) r || (eqb p r && b)) (sym on)
          | inr apart ↦
              let off : eqb v (slice_index vs k) ≡ false = ne_eqb v (slice_index vs k) (λ q. apart (sym (same-place vs at k rise lt lk (is ∙ q)))) in
              ap (λ l. has l r) (get_or-set_other old at k new [] apart)
              ∙ sym (or-false (has (get_or old k []) r))
              ∙ ap (λ b. has (get_or old k []) r || b) (sym (and-false (eqb p r)))
              ∙ ap (λ b. has (get_or old k []) r || (eqb p r && b)) (sym off)
        ];
      }

  spread : (h e s t : Bool) → ((h || (e && s)) || (e && t)) ≡ (h || (e && (s || t)))
  spread true e s t = refl
  spread false true s t = refl
  spread false false s t = refl

  pub marks-then : (s t : ℕ → Bool) (a b c : List (List ℕ)) → IsMarked vs p s a b → IsMarked vs p t b c → IsMarked vs p (λ w. s w || t w) a c
  marks-then s t a b c x y = record {
    long = y.long ∙ x.long;
    members = λ k lk r.
        y.members k lk r
        ∙ ap (λ h. h || (eqb p r && t (slice_index vs k))) (x.members k lk r)
        ∙ spread (has (slice_index_or a k []) r) (eqb p r) (s (slice_index vs k)) (t (slice_index vs k));
  }

  pub marks-same : (s t : ℕ → Bool) (a b : List (List ℕ)) → ((w : ℕ) → s w ≡ t w) → IsMarked vs p s a b → IsMarked vs p t a b
  marks-same s t a b same x = record {
    long = x.long;
    members = λ k lk r. x.members k lk r ∙ ap (λ h. has (slice_index_or a k []) r || (eqb p r && h)) (same (slice_index vs k));
  }

  pub marks-none : (es : List Edge) (a : List (List ℕ)) → IsMarked vs p (is_end es []) a a
  marks-none es a = record {
    long = refl;
    members = λ k lk r. sym (or-false (has (slice_index_or a k []) r)) ∙ ap (λ h. has (slice_index_or a k []) r || h) (sym (and-false (eqb p r)));
  }

  -- the ends of one edge more
  pub marks-more : (es : List Edge) (ns : List ℕ) (i : ℕ) (a b c d : List (List ℕ)) → i < length ns
      → IsMarked vs p (is_end es (take i ns)) a b → IsMarked vs p (λ w. eqb (edge_at es (slice_index ns i)).src w) b c → IsMarked vs p (λ w. eqb (edge_at es (slice_index ns i)).dst w) c d
      → IsMarked vs p (is_end es (take (i + 1) ns)) a d
  marks-more es ns i a b c d lt was first second =
      let e = edge_at es (slice_index ns i) in
      marks-same (λ w. (is_end es (take i ns) w || eqb e.src w) || eqb e.dst w) (is_end es (take (i + 1) ns)) a d
      (λ w. or_assoc (is_end es (take i ns) w) (eqb e.src w) (eqb e.dst w) ∙ sym (list_any_more (λ n. touches (edge_at es n) w) ns i 0 lt))
      (marks-then (λ w. is_end es (take i ns) w || eqb e.src w) (λ w. eqb e.dst w) a c d (marks-then (is_end es (take i ns)) (λ w. eqb e.src w) a b c was first) second)

-- before any place each set has the home alone
pub ends-none : (places : ℕ) (es : List Edge) (rows : List (List ℕ)) (vs : List ℕ) (sets : List (List ℕ)) → length sets ≡ length vs
    → ((k : ℕ) → k < length vs → slice_index_or sets k [] ≡ home places (slice_index vs k) ∷ []) → AreEnds places 0 es rows vs sets
ends-none places es rows vs sets long is = record {
  long = long;
  members = λ k lk r.
      ap (λ l. has l r) (is k lk)
      ∙ ap (λ b. eqb (home places (slice_index vs k)) r || (b && is_end es (slice_index_or rows r []) (slice_index vs k))) (sym (le-ltb r 0 (omega arith)));
}

-- the ends of the edges of one place more
pub ends-more : (places p : ℕ) (es : List Edge) (rows : List (List ℕ)) (vs : List ℕ) (a b : List (List ℕ)) → AreEnds places p es rows vs a
    → IsMarked vs p (is_end es (slice_index_or rows p [])) a b → AreEnds places (p + 1) es rows vs b
ends-more places p es rows vs a b was marked = record {
  long = marked.long ∙ was.long;
  members = λ k lk r.
      let v = slice_index vs k in
      let test = is_end es (slice_index_or rows r []) v in
      let here = is_end es (slice_index_or rows p []) v in
      let h = eqb (home places v) r in
      marked.members k lk r
      ∙ ap (λ t. t || (eqb p r && here)) (was.members k lk r)
      ∙ (elim (cases_order r p) [
        | inl same ↦
            let now : here ≡ test = ap (λ q. is_end es (slice_index_or rows q []) v) (sym same) in
            ap (λ t. (h || (t && test)) || (eqb p r && here)) (le-ltb r p (omega arith))
            ∙ ap (λ t. (h || false) || (t && here)) (eq-eqb p r (sym same))
            ∙ ap (λ t. t || here) (or-false h)
            ∙ ap (λ t. h || t) now
            ∙ ap (λ t. h || (t && test)) (sym (lt-ltb r (p + 1) (omega arith)))
        | inr o ↦ elim o [
          | inl lt ↦
              ap (λ t. (h || (ltb r p && test)) || (t && here)) (ne_eqb p r (λ e. omega arith))
              ∙ or-false (h || (ltb r p && test))
              ∙ ap (λ t. h || (t && test)) (lt-ltb r p lt ∙ sym (lt-ltb r (p + 1) (omega arith)))
          | inr gt ↦
              ap (λ t. (h || (ltb r p && test)) || (t && here)) (ne_eqb p r (λ e. omega arith))
              ∙ or-false (h || (ltb r p && test))
              ∙ ap (λ t. h || (t && test)) (le-ltb r p (omega arith) ∙ sym (le-ltb r (p + 1) (omega arith)))
        ]
      ]);
}
