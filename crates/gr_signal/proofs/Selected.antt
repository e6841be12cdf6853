-- The vertices of selected copies.
use Rattle.std.proofs.Common.{◌≡◌, ◌∙◌, ◌<◌, ℕ, zero, suc, Bool, true, false, cond, eqb, List, [], ◌∷◌, get_or, map, refl, ap, arith}
use Rattle.std.specs.Prelude.{◌||◌}
use Rattle.std.specs.List.{All, filter}
use Rattle.std.proofs.lemmas.Bool.{eq-eqb, ne_eqb}
use Rattle.gr_base.specs.Rising.{RisesBy, has}
use Rattle.gr_base.proofs.Rising.{rises-head, rises-tail}
use Rattle.gr_program.specs.declared.copy.VertexCopy.{VertexCopy}
use Rattle.gr_rules.specs.Round.{vertices_where}

module _ {V : Type 0} where
  abbrev pub vertex : VertexCopy V → ℕ
  vertex c = c.vertex

  pub vertices-same : (s t : VertexCopy V → Bool) (rows : List (VertexCopy V)) → All (λ c. s c ≡ t c) rows → vertices_where s rows ≡ vertices_where t rows
  vertices-same s t [] a = refl
  vertices-same s t (c ∷ cs) a = ap (λ b. map vertex (cond b (c ∷ filter s cs) (filter s cs))) (a 0 c (omega arith)) ∙ kept (t c) (vertices-same s t cs (λ k d l. a (suc k) d (omega arith)))
    where
      kept : (b : Bool) → map vertex (filter s cs) ≡ map vertex (filter t cs) → map vertex (cond b (c ∷ filter s cs) (filter s cs)) ≡ map vertex (cond b (c ∷ filter t cs) (filter t cs))
      kept true e = ap (λ l. c.vertex ∷ l) e
      kept false e = e

  pub none-selected : (t : VertexCopy V → Bool) (rows : List (VertexCopy V)) (v : ℕ) → All (λ c. v < c.vertex) rows → has (vertices_where t rows) v ≡ false
  none-selected t [] v a = refl
  none-selected t (x ∷ xs) v a =
      let above = a 0 x (omega arith) in
      at (t x) (ne_eqb x.vertex v (λ e. omega arith)) (none-selected t xs v (λ k d l. a (suc k) d (omega arith)))
    where
      at : (b : Bool) → eqb x.vertex v ≡ false → has (vertices_where t xs) v ≡ false → has (map vertex (cond b (x ∷ filter t xs) (filter t xs))) v ≡ false
      at true off rest = rw off rest
      at false off rest = rest

  -- a vertex is among the selected ones where its copy passes
  pub selected-has : (t : VertexCopy V → Bool) (rows : List (VertexCopy V)) → RisesBy vertex rows → All (λ c. has (vertices_where t rows) c.vertex ≡ t c) rows
  selected-has t [] r = λ k d l. absurd (omega arith)
  selected-has t (x ∷ xs) r =
      from (selected-has t xs (rises-tail vertex x xs r)) (none-selected t xs x.vertex (rises-head vertex x xs r)) (rises-head vertex x xs r)
    where
      head : (b : Bool) → has (vertices_where t xs) x.vertex ≡ false → has (map vertex (cond b (x ∷ filter t xs) (filter t xs))) x.vertex ≡ b
      head true none = ap (λ b. b || has (vertices_where t xs) x.vertex) (eq-eqb x.vertex x.vertex refl)
      head false none = none

      later : (b : Bool) (c : VertexCopy V) → x.vertex < c.vertex → has (vertices_where t xs) c.vertex ≡ t c → has (map vertex (cond b (x ∷ filter t xs) (filter t xs))) c.vertex ≡ t c
      later true c lt e = ap (λ b. b || has (vertices_where t xs) c.vertex) (ne_eqb x.vertex c.vertex (λ q. omega arith)) ∙ e
      later false c lt e = e

      from : All (λ c. has (vertices_where t xs) c.vertex ≡ t c) xs → has (vertices_where t xs) x.vertex ≡ false → All (λ c. x.vertex < c.vertex) xs → All (λ c. has (vertices_where t (x ∷ xs)) c.vertex ≡ t c) (x ∷ xs)
      from rest none above zero d l = head (t x) none
      from rest none above (suc k) d l = later (t x) (get_or xs k d) (above k d (omega arith)) (rest k d (omega arith))
