-- No edge of a place leads to a low vertex that another place masters.
use Rattle.std.proofs.Common.{◌≡◌, ◌≢◌, ◌∙◌, ℕ, zero, suc, Bool, true, false, cond, eqb, List, [], ◌∷◌, map, Option, Some, None, refl, sym, ap, arith, inl, inr}
use Rattle.std.specs.Prelude.{◌&&◌, IsTrue}
use Rattle.std.specs.List.{All, filter}
use Rattle.std.proofs.lemmas.Bool.{cases_Bool, eqb-true, eq-eqb, true≢false}
use Rattle.gr_base.specs.Rising.{RisesBy, has}
use Rattle.gr_base.specs.declared.records.NumberedEdge.{NumberedEdge}
use Rattle.gr_base.proofs.Rising.{rises-tail, rises-head}
use Rattle.gr_program.specs.declared.copy.VertexCopy.{VertexCopy}
use Rattle.gr_cut.specs.Cut.{is_high, edge_place}
use Rattle.gr_batch.specs.declared.body.NewValue.{NewValue}
use Rattle.gr_rules.specs.Rows.{row}
use Rattle.gr_rules.specs.Round.{is_signalled, vertices_where, signal_body}
use Rattle.gr_signal.specs.LowVertices.{stands_between, StandByCut, LowAreNotSignalled}
use Rattle.gr_signal.proofs.Selected.{vertex}

-- where vertices rise, the copies of a vertex are one
same-copy : {V : Type 0} (rows : List (VertexCopy V)) (v : ℕ) (c : VertexCopy V) → RisesBy vertex rows → row rows v ≡ Some c → All (λ d. d.vertex ≡ v → d ≡ c) rows
same-copy [] v c r e = λ k d l. absurd (omega arith)
same-copy (x ∷ xs) v c r e = elim (cases_Bool (eqb x.vertex v)) [
  | inl on ↦ at-head (eqb-true x.vertex v on) (rw on at e)
  | inr off ↦ let e' = rw off at e in past-head off (same-copy xs v c (rises-tail vertex x xs r) e')
]
  where
    at-head : x.vertex ≡ v → Some x ≡ Some c → All (λ d. d.vertex ≡ v → d ≡ c) (x ∷ xs)
    at-head same e zero d l is = cc
    at-head same e (suc k) d l is = let above = rises-head vertex x xs r k d (omega arith) in absurd (omega arith)

    past-head : eqb x.vertex v ≡ false → All (λ d. d.vertex ≡ v → d ≡ c) xs → All (λ d. d.vertex ≡ v → d ≡ c) (x ∷ xs)
    past-head off later zero d l is = absurd (true≢false (sym (eq-eqb x.vertex v is) ∙ off))
    past-head off later (suc k) d l is = later k d (omega arith) is

none-selected : {V : Type 0} (test : VertexCopy V → Bool) (rows : List (VertexCopy V)) (v : ℕ) → All (λ d. d.vertex ≡ v → test d ≡ false) rows → has (vertices_where test rows) v ≡ false
none-selected test [] v a = refl
none-selected {V} test (x ∷ xs) v a = elim (cases_Bool (test x)) [
  | inl on ↦ elim (cases_Bool (eqb x.vertex v)) [
    | inl same ↦ absurd (true≢false (sym on ∙ a 0 x (omega arith) (eqb-true x.vertex v same)))
    | inr apart ↦ kept (test x) (none-selected test xs v (λ k d l. a (suc k) d (omega arith))) apart
  ]
  | inr off ↦ dropped (test x) off (none-selected test xs v (λ k d l. a (suc k) d (omega arith)))
]
  where
    kept : (b : Bool) → has (vertices_where test xs) v ≡ false → eqb x.vertex v ≡ false → has (map vertex (cond b (x ∷ filter test xs) (filter test xs))) v ≡ false
    kept true e apart = rw apart e
    kept false e apart = e

    dropped : (b : Bool) → b ≡ false → has (vertices_where test xs) v ≡ false → has (map vertex (cond b (x ∷ filter test xs) (filter test xs))) v ≡ false
    dropped b off e = rw off e

module _ {V : Type 0} (theta p : ℕ) (rows : List (VertexCopy V)) (news : List (NewValue V)) (c : VertexCopy V) where
  -- an edge to a low vertex stands at its master
  at-master : (s d : Option (VertexCopy V)) → d ≡ Some c → is_high theta c.indeg ≡ false → IsTrue (stands_between theta p s d) → c.master ≡ p
  at-master None None e low t = cc
  at-master None (Some d) e low t = absurd (true≢false (sym t))
  at-master (Some s) None e low t = cc
  at-master (Some s) (Some d) e low t = let same : d ≡ c = cc in eqb-true c.master p (sym (ap (λ b. eqb (edge_place s.master c.master b) p) low) ∙ ap (λ (k : VertexCopy V). eqb (edge_place s.master k.master (is_high theta k.indeg)) p) (sym same) ∙ t)

  none-signalled : (arcs : List NumberedEdge) → StandByCut theta p rows arcs → row rows c.vertex ≡ Some c → is_high theta c.indeg ≡ false → c.master ≢ p → is_signalled news arcs c.vertex ≡ false
  none-signalled [] s e low apart = refl
  none-signalled (a ∷ rest) s e low apart = elim (cases_Bool (eqb a.edge.dst c.vertex)) [
    | inl on ↦ absurd (apart (at-master (row rows a.edge.src) (row rows a.edge.dst) (ap (row rows) (eqb-true a.edge.dst c.vertex on) ∙ e) low s.0))
    | inr off ↦ rw off (none-signalled rest s.1 e low apart)
  ]

and-false : (b : Bool) → (b && false) ≡ false
and-false true = refl
and-false false = refl

pub low-not-signalled : {V : Type 0} → LowAreNotSignalled V
unfolding signal_body
low-not-signalled theta p q rows arcs r stand apart news c e low =
    let test = λ (d : VertexCopy _). eqb d.master q && is_signalled news arcs d.vertex in
    let off : test c ≡ false = elim (cases_Bool (eqb c.master q)) [
      | inl on ↦ ap (λ b. eqb c.master q && b) (none-signalled theta p rows news c arcs stand e low (λ s. apart (sym (eqb-true c.master q on) ∙ s))) ∙ and-false (eqb c.master q)
      | inr un ↦ ap (λ b. b && is_signalled news arcs c.vertex) un
    ] in
    none-selected test rows c.vertex (λ k d l is. ap test (same-copy rows c.vertex c r e k d l is) ∙ off)
