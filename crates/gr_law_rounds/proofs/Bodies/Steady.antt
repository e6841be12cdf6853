-- What the synchronous rounds give of the values of a committed state.
use Rattle.std.proofs.Common.{◌≡◌, ℕ, ◌<◌, ◌^◌, List, [], ◌∷◌, true, false, ◌==◌, map, sym, subst, arith, ne_eqb, eqb-true}
use Rattle.std.specs.Prelude.{IsTrue}
use Rattle.std.specs.List.{All, AllByRecursion as Each}
use Rattle.std.proofs.lemmas.Bool.{and_parts}
use Rattle.std.proofs.lemmas.List.Elements.{All-cons, All-nil, All-head, All-tail}
use Rattle.gr_base.specs.declared.records.Edge.{Edge}
use Rattle.gr_base.specs.declared.records.NumberedEdge.{NumberedEdge}
use Rattle.gr_base.specs.Degrees.{outdegree}
use Rattle.gr_base.specs.Rising.{has}
use Rattle.gr_program.specs.Program.{Program}
use Rattle.gr_program.specs.ProgramLaws.{ProgramLaws}
use Rattle.gr_program.specs.Rounds.{gathered, state_after}
use Rattle.gr_program.proofs.Recompute.{source-degree, values-kept, inactive-recomputed}
use Rattle.gr_agree.specs.Truth.{Truth, edge_list, true_outdegree, hidden}
use Rattle.gr_agree.specs.Logs.{Sound}
use Rattle.gr_lists.proofs.Tests.{by_test}

-- the values of the vertices are values of the program, each source of an edge has readers, and a hidden vertex that is not active may be applied once more
pub record Steady {V A : Type 0} (P : Program V A) (t : Truth V) : Type 0 where
  pub ids : (v : ℕ) → has t.vertices v ≡ true → v < 2 ^ 32
  pub values : (v : ℕ) → has t.vertices v ≡ true → IsTrue (P.is_value (t.state.value v))
  pub reads : Each (λ a. (true_outdegree t a.edge.src == 0) ≡ false) t.edges
  pub fresh : (v : ℕ) (x : V) → has t.vertices v ≡ true → IsTrue (P.is_value x) → hidden P t v ≡ true → t.state.active v ≡ false
      → P.apply v x (gathered P (edge_list t) t.state.value v) ≡ t.state.value v

each-at : (Q : ℕ → Type 0) (xs : List ℕ) → Each Q xs → (v : ℕ) → has xs v ≡ true → Q v
each-at Q [] h v m = absurd (let bad : false ≡ true = m in cc)
each-at Q (x ∷ xs) h v m = by_test (x == v)
    (λ e. let same : x ≡ v = eqb-true x v e in subst Q same h.0)
    (λ e. let m' : has xs v ≡ true = rw e at m in each-at Q xs h.1 v m')

module _ {V A : Type 0} (P : Program V A) (L : ProgramLaws P) (t : Truth V) (S : Sound P t) where
  ids-of : (v : ℕ) → has t.vertices v ≡ true → v < 2 ^ 32
  ids-of v m = each-at (λ u. u < 2 ^ 32) t.vertices S.ids v m

  all-sources : (es : List NumberedEdge) → Each (λ a. IsTrue (has t.vertices a.edge.src)) es → All (λ e. e.src < 2 ^ 32) (map (λ (a : NumberedEdge). a.edge) es)
  all-sources [] h = All-nil (λ (e : Edge). e.src < 2 ^ 32)
  all-sources (a ∷ es) h = All-cons (λ (e : Edge). e.src < 2 ^ 32) a.edge (map (λ a. a.edge) es) (ids-of a.edge.src h.0) (all-sources es h.1)

  all-read : (all : List Edge) (es : List NumberedEdge) → All (λ e. 0 < outdegree all e.src) (map (λ (a : NumberedEdge). a.edge) es) → Each (λ a. (outdegree all a.edge.src == 0) ≡ false) es
  all-read all [] h = tt
  all-read all (a ∷ es) h =
      let Q : Edge → Type 0 = (λ e. 0 < outdegree all e.src) in
      let some = All-head Q a.edge (map (λ a. a.edge) es) h in
      (ne_eqb (outdegree all a.edge.src) 0 (λ x. absurd (omega (arith, some, x))), all-read all es (All-tail Q a.edge (map (λ a. a.edge) es) h))

  pub steady : (r : ℕ) → t.state ≡ state_after P (edge_list t) r → Steady P t
  steady r is =
      let sources = all-sources t.edges S.sources in
      record {
        ids = ids-of;
        values = λ v m. subst (λ s. IsTrue (P.is_value (s.value v))) (sym is) (values-kept L (edge_list t) sources r v (ids-of v m));
        reads = all-read (edge_list t) t.edges (source-degree (edge_list t));
        fresh = λ v x m k h off.
            let forgets : P.forgetful ≡ true = forgetful-of v h in
            let off' : (state_after P (edge_list t) r).active v ≡ false = subst (λ s. s.active v ≡ false) is off in
            subst (λ s. P.apply v x (gathered P (edge_list t) s.value v) ≡ s.value v) (sym is) (sym (inactive-recomputed L (edge_list t) sources forgets r v (ids-of v m) off' x k));
      }
    where
      forgetful-of : (v : ℕ) → hidden P t v ≡ true → P.forgetful ≡ true
      forgetful-of v h = (and_parts P.forgetful _ h).0
