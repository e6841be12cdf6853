-- The numbers of a rising list whose copies pass a test.
use Rattle.std.proofs.Common.{append-nil, ◌≡◌, ◌∙◌, ◌<◌, ◌+◌, ◌++◌, take, ℕ, Bool, true, false, cond, List, [], ◌∷◌, length, get_or, map, filter, filter_map, Option, Some, None, if◌then◌else◌, refl, sym, ap, arith, eqb-true}
use Rattle.std.specs.Prelude.{◌&&◌, ◌==◌, MatchOption, IfSome}
use Rattle.std.specs.List.{cons_option}
use Rattle.std.proofs.lemmas.Bool.{and_right}
use Rattle.gr_base.specs.Rising.{RisesBy, has}
use Rattle.gr_base.proofs.Nth.{filter_map-more}
use Rattle.gr_base.proofs.Rising.{filter-rises}
use Rattle.gr_program.specs.declared.copy.VertexCopy.{VertexCopy}
use Rattle.gr_rules.specs.Rows.{row}
use Rattle.gr_rules.specs.Round.{vertices_where}
use Rattle.std.proofs.lemmas.List.{map-append}
use Rattle.gr_lists.proofs.Tests.{by_test, by_option}
use Rattle.gr_lists.proofs.Items.{only, rises-same, find-filter}
use Rattle.gr_lists.proofs.Selections.{find-filter_map}
use Rattle.gr_lists.proofs.Chosen.{filter_map-rises}
use Rattle.gr_signal.specs.declared.target.Target.{Target}
use Rattle.gr_signal.specs.Signals.{target_of}
use Rattle.gr_signal.proofs.Selected.{vertex}

-- any copy passes
abbrev pub any : {V : Type 0} → VertexCopy V → Bool
any c = true

module _ {V : Type 0} (t : VertexCopy V → Bool) where
  -- whether there is a copy, and it passes
  abbrev pub passes : Option (VertexCopy V) → Bool
  passes None = false
  passes (Some c) = t c

  pub passes-is : (o : Option (VertexCopy V)) (b : Bool) → MatchOption o (b ≡ false) (λ c. b ≡ t c) → b ≡ passes o
  passes-is None b h = h
  passes-is (Some c) b h = h

  abbrev pub picked : List (VertexCopy V) → List ℕ → List ℕ
  picked rows next = filter (λ v. passes (row rows v)) next

  -- the copies themselves
  abbrev pub copies : List (VertexCopy V) → List ℕ → List (VertexCopy V)
  copies rows next = filter_map (λ v. only t (row rows v)) next

  row-vertex : (rows : List (VertexCopy V)) (v : ℕ) (c : VertexCopy V) → row rows v ≡ Some c → c.vertex ≡ v
  row-vertex [] v c e = absurd (cc)
  row-vertex (d ∷ ds) v c e = by_test (d.vertex == v)
      (λ k. let here = rw k at e in let same : d ≡ c = cc in sym (ap vertex same) ∙ eqb-true d.vertex v k)
      (λ k. let later = rw k at e in row-vertex ds v c later)

  only-vertex : (o : Option (VertexCopy V)) (v : ℕ) → ((c : VertexCopy V) → o ≡ Some c → c.vertex ≡ v) → (d : VertexCopy V) → only t o ≡ Some d → d.vertex ≡ v
  only-vertex None v h d e = absurd (cc)
  only-vertex (Some c) v h d e = by_test (t c)
      (λ k. let here = rw k at e in let same : c ≡ d = cc in sym (ap vertex same) ∙ h c refl)
      (λ k. let none = rw k at e in absurd (cc))

  only-named : (o : Option (VertexCopy V)) (v : ℕ) → ((c : VertexCopy V) → o ≡ Some c → c.vertex ≡ v) → IfSome (only t o) (λ d. d.vertex ≡ v)
  only-named o v h = by_option (only t o)
      (λ e. rw e tt)
      (λ d e. rw e (only-vertex o v h d e))

  -- a test that the vertex is listed as well
  only-listed : (next : List ℕ) (v : ℕ) (o : Option (VertexCopy V)) → ((c : VertexCopy V) → o ≡ Some c → c.vertex ≡ v)
      → (if has next v then only t o else None) ≡ only (λ c. t c && has next c.vertex) o
  only-listed next v None h = by_test (has next v)
      (λ k. rw k refl)
      (λ k. rw k refl)
  only-listed next v (Some c) h = either (t c) (has next v) ∙ ap (λ u. if t c && has next u then Some c else None) (sym (h c refl))
    where
      either : (a b : Bool) → (if b then (if a then Some c else None) else None) ≡ (if a && b then Some c else None)
      either true true = refl
      either true false = refl
      either false true = refl
      either false false = refl

  -- the copies of listed vertices rise, whether all copies do or not
  pub copies-rise : (rows : List (VertexCopy V)) (next : List ℕ) → RisesBy (λ (n : ℕ). n) next → RisesBy vertex (copies rows next)
  copies-rise rows next n = filter_map-rises (λ v. only t (row rows v)) vertex (λ (v : ℕ). v) (λ v. only-named (row rows v) v (row-vertex rows v)) next n

  -- those of one vertex more
  pub copies-more : (rows : List (VertexCopy V)) (next : List ℕ) (i d : ℕ) → i < length next → copies rows (take (i + 1) next) ≡ copies rows (take i next) ++ cons_option (only t (row rows (get_or next i d))) []
  copies-more rows next i d lt = filter_map-more (λ v. only t (row rows v)) next i d lt

  copies-are : (rows : List (VertexCopy V)) (next : List ℕ) → RisesBy (λ (n : ℕ). n) next → RisesBy vertex rows → copies rows next ≡ filter (λ c. t c && has next c.vertex) rows
  copies-are rows next n r =
      rises-same vertex (copies rows next) (filter (λ c. t c && has next c.vertex) rows)
      (copies-rise rows next n)
      (filter-rises vertex (λ c. t c && has next c.vertex) rows r)
      (λ v. find-filter_map vertex (λ u. only t (row rows u)) (λ u d e. only-vertex (row rows u) u (row-vertex rows u) d e) next v
      ∙ only-listed next v (row rows v) (row-vertex rows v)
      ∙ sym (find-filter vertex (λ c. t c && has next c.vertex) rows r v))

  picked-copies : (rows : List (VertexCopy V)) (next : List ℕ) → picked rows next ≡ map vertex (copies rows next)
  picked-copies rows [] = refl
  picked-copies rows (v ∷ vs) = step (row rows v) (row-vertex rows v) (picked-copies rows vs)
    where
      step : (o : Option (VertexCopy V)) → ((c : VertexCopy V) → o ≡ Some c → c.vertex ≡ v) → picked rows vs ≡ map vertex (copies rows vs)
          → cond (passes o) (v ∷ picked rows vs) (picked rows vs) ≡ map vertex (cons_option (only t o) (copies rows vs))
      step None h e = e
      step (Some c) h e = by_test (t c)
          (λ k. rw k (λ i. sym (h c refl) i ∷ e i))
          (λ k. rw k e)

  none-listed : (rows : List (VertexCopy V)) → [] ≡ filter (λ c. t c && has [] c.vertex) rows
  none-listed [] = refl
  none-listed (c ∷ cs) = rw (and_right (t c) false refl) (none-listed cs)

  -- they are the vertices of the copies that pass and are listed
  pub picked-are : (rows : List (VertexCopy V)) (next : List ℕ) → RisesBy (λ (n : ℕ). n) next → (0 < length next → RisesBy vertex rows)
      → picked rows next ≡ vertices_where (λ c. t c && has next c.vertex) rows
  picked-are rows [] n r = ap (map vertex) (none-listed rows)
  picked-are rows (v ∷ vs) n r = picked-copies rows (v ∷ vs) ∙ ap (map vertex) (copies-are rows (v ∷ vs) n (r (omega arith)))

  -- the copies themselves are those that pass and whose vertices are listed
  pub copies-listed : (rows : List (VertexCopy V)) (next : List ℕ) → RisesBy (λ (n : ℕ). n) next → (0 < length next → RisesBy vertex rows)
      → copies rows next ≡ filter (λ c. t c && has next c.vertex) rows
  copies-listed rows [] n r = none-listed rows
  copies-listed rows (v ∷ vs) n r = copies-are rows (v ∷ vs) n (r (omega arith))

-- the targets of listed vertices, with one vertex more
module _ {V : Type 0} (rows : List (VertexCopy V)) (next : List ℕ) (i d : ℕ) (lt : i < length next) where
  abbrev targets : List ℕ → List Target
  targets vs = map target_of (copies any rows vs)

  pub targets-some : (c : VertexCopy V) → Some c ≡ row rows (get_or next i d) → targets (take (i + 1) next) ≡ targets (take i next) ++ target_of c ∷ []
  targets-some c is =
      ap (map target_of) (copies-more any rows next i d lt) ∙ map-append target_of (copies any rows (take i next)) _
      ∙ ap (λ o. targets (take i next) ++ map target_of (cons_option (only any o) [])) (sym is)

  pub targets-none : None ≡ row rows (get_or next i d) → targets (take (i + 1) next) ≡ targets (take i next)
  targets-none is =
      ap (map target_of) (copies-more any rows next i d lt) ∙ map-append target_of (copies any rows (take i next)) _
      ∙ ap (λ o. targets (take i next) ++ map target_of (cons_option (only any o) [])) (sym is) ∙ append-nil (targets (take i next))
