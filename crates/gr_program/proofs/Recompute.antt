-- Under a forgetful program a vertex that is not active keeps the value that `apply` gives it once more.
use Rattle.std.proofs.Common.{◌≡◌, ◌∙◌, ◌<◌, ◌^◌, ◌&&◌, ◌==◌, ℕ, zero, suc, Bool, true, false, cond, List, [], ◌∷◌, map, IsTrue, get_or, refl, ap, sym, inl, inr}
use Rattle.std.specs.List.{All, filter, list_any}
use Rattle.std.proofs.lemmas.Bool.{cases_Bool, cond-true, cond-false, eq-eqb}
use Rattle.std.proofs.lemmas.List.Elements.{All-head, All-tail, All-filter, All-map}
use Rattle.std.proofs.lemmas.List.Folds.{list_any_at}
use Rattle.std.proofs.lemmas.List.Sums.{get_or-le-sum_by}
use Rattle.gr_base.specs.declared.records.Edge.{Edge}
use Rattle.gr_base.specs.Degrees.{outdegree}
use Rattle.gr_program.specs.Program.{Program, total}
use Rattle.gr_program.specs.ProgramLaws.{ProgramLaws}
use Rattle.gr_program.specs.Rounds.{State, contribution, gathered, next_value, woke, after_round, first_state, state_after}
use Rattle.gr_program.proofs.Totals.{total-kept}

-- two functions that agree on the kept elements
pub map-filter-same : {X Y : Type 0} (f g : X → Y) (t : X → Bool) (xs : List X) → All (λ x. t x ≡ true → f x ≡ g x) xs → map f (filter t xs) ≡ map g (filter t xs)
map-filter-same f g t [] same = refl
map-filter-same f g t (x ∷ xs) same =
    let rest = map-filter-same f g t xs (All-tail (λ x. t x ≡ true → f x ≡ g x) x xs same) in
    elim (cases_Bool (t x)) [
      | inl on ↦
          let here = All-head (λ x. t x ≡ true → f x ≡ g x) x xs same on in
          rw on (ap (λ y. y ∷ map f (filter t xs)) here ∙ ap (λ ys. g x ∷ ys) rest)
      | inr off ↦ rw off rest
    ]

-- the source of an edge has an edge out of it
pub source-degree : (es : List Edge) → All (λ e. 0 < outdegree es e.src) es
source-degree es = λ k d h.
    let e = get_or es k d in
    let on = eq-eqb e.src e.src refl in
    rw on at (get_or-le-sum_by (λ x. cond (x.src == e.src) 1 0) es k d h)

quiet : (a b : Bool) → (a && b) ≡ false → a ≡ true → b ≡ false
quiet true b e on = e
quiet false b e on = cc

module _ {V A : Type 0} {p : Program V A} (laws : ProgramLaws p) (es : List Edge) (sources : All (λ e. e.src < 2 ^ 32) es) where
  -- every id has a value of the program
  abbrev pub AreValues : (ℕ → V) → Type 0
  AreValues x = (v : ℕ) → v < 2 ^ 32 → IsTrue (p.is_value (x v))

  pub contribution-kept : (x : ℕ → V) → AreValues x → All (λ e. IsTrue (p.is_acc (contribution p es x e))) es
  contribution-kept x kept = λ k d h. let e = get_or es k d in laws.along_kept (x e.src) e.weight (outdegree es e.src) (kept e.src (sources k d h)) (source-degree es k d h)

  pub gathered-kept : (x : ℕ → V) → AreValues x → (v : ℕ) → IsTrue (p.is_acc (gathered p es x v))
  gathered-kept x kept v =
      total-kept laws (map (contribution p es x) (filter (λ e. e.dst == v) es))
      (All-map (λ a. IsTrue (p.is_acc a)) (contribution p es x) (filter (λ e. e.dst == v) es) (All-filter (λ e. e.dst == v) (λ e. IsTrue (p.is_acc (contribution p es x e))) es (contribution-kept x kept)))

  next-kept : (s : State V) → AreValues s.value → AreValues (next_value p es s)
  next-kept s kept = λ v lt. elim (cases_Bool (s.active v)) [
    | inl on ↦ rw on (laws.apply_kept v (s.value v) (gathered p es s.value v) (kept v lt) (gathered-kept s.value kept v))
    | inr off ↦ rw off (kept v lt)
  ]

  -- the values after each round are values of the program
  pub values-kept : (r : ℕ) → AreValues (state_after p es r).value
  unfolding state_after first_state after_round
  values-kept zero = λ v lt. laws.start_kept v _ _ lt
  values-kept (suc r) = next-kept (state_after p es r) (values-kept r)

  -- what a vertex gathers stays where no source of an edge into it woke
  stays : IsTrue p.forgetful → (s : State V) → AreValues s.value → (v : ℕ) → list_any (λ e. (e.dst == v) && woke p es s e.src) es ≡ false → gathered p es s.value v ≡ gathered p es (next_value p es s) v
  stays forgets s kept v none =
      ap (total p) (map-filter-same (contribution p es s.value) (contribution p es (next_value p es s)) (λ e. e.dst == v) es
      (λ k d h into.
      let e = get_or es k d in
      let u = e.src in
      let lt = sources k d h in
      let asleep : woke p es s u ≡ false = quiet (e.dst == v) (woke p es s u) (elim (cases_Bool ((e.dst == v) && woke p es s u)) [
        | inl on ↦ let some = list_any_at (λ e. (e.dst == v) && woke p es s e.src) es k d h on in cc
        | inr off ↦ off
      ]) into in
      elim (cases_Bool (s.active u)) [
        | inl on ↦ laws.along_stays forgets (s.value u) (next_value p es s u) (kept u lt) (next-kept s kept u lt) (quiet (s.active u) (p.wakes (s.value u) (next_value p es s u)) asleep on) e.weight (outdegree es u) (source-degree es k d h)
        | inr off ↦ ap (λ x. p.along x e.weight (outdegree es u)) (sym (cond-false (s.active u) _ (s.value u) off))
      ]))

  pub inactive-recomputed : IsTrue p.forgetful → (r v : ℕ) → v < 2 ^ 32 → (state_after p es r).active v ≡ false → (x : V) → IsTrue (p.is_value x) → (state_after p es r).value v ≡ p.apply v x (gathered p es (state_after p es r).value v)
  unfolding state_after first_state after_round
  inactive-recomputed forgets zero v lt off x kx = cc
  inactive-recomputed forgets (suc r) v lt off x kx =
      let s = state_after p es r in
      let kept = values-kept r in
      let same = stays forgets s kept v off in
      elim (cases_Bool (s.active v)) [
        | inl on ↦
            cond-true (s.active v) _ (s.value v) on
            ∙ laws.apply_forgets forgets v (s.value v) x (gathered p es s.value v) (kept v lt) kx (gathered-kept s.value kept v)
            ∙ ap (p.apply v x) same
        | inr rests ↦
            cond-false (s.active v) _ (s.value v) rests
            ∙ inactive-recomputed forgets r v lt rests x kx
            ∙ ap (p.apply v x) same
      ]
