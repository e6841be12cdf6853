-- The copies and the edges of a place, where they are those of the committed state.
use Rattle.std.proofs.Common.{◌≡◌, ◌<◌, ℕ, zero, suc, true, false, not, ◌==◌, ◌&&◌, map, filter, refl, sym, ap, ◌∙◌, subst, arith, Some, None, if◌then◌else◌, eqb-true}
use Rattle.std.specs.Prelude.{IsTrue, IfSome, IsSomeAnd}
use Rattle.std.specs.List.{AllByRecursion as Each}
use Rattle.std.proofs.lemmas.Bool.{and_right}
use Rattle.std.proofs.lemmas.List.Elements.{All-from_recursion}
use Rattle.gr_base.specs.declared.records.NumberedEdge.{NumberedEdge}
use Rattle.gr_base.specs.Rising.{has}
use Rattle.gr_program.specs.declared.copy.VertexCopy.{VertexCopy}
use Rattle.gr_program.specs.Program.{Program}
use Rattle.gr_rows.specs.Layers.{vertex_of}
use Rattle.gr_rules.specs.Rows.{row}
use Rattle.gr_low.specs.Sources.{IsSource, SourcesReady}
use Rattle.gr_round.specs.Needs.{ValuesFit}
use Rattle.gr_agree.specs.Truth.{Truth, true_outdegree, held, held_at, place_of, arcs_at, hidden, copy_at, rows_at}
use Rattle.gr_agree.specs.TrueRound.{copy_staged, staged}
use Rattle.gr_agree.specs.Logs.{Sound}
use Rattle.gr_lists.proofs.Each.{Each-both, Each-has, Each-filter}
use Rattle.gr_lists.proofs.Maps.{Each-map}
use Rattle.gr_lists.proofs.Chosen.{if-none, Each-passing, map-undone}
use Rattle.gr_law_rounds.proofs.Bodies.Steady.{Steady}
use Rattle.gr_law_rounds.proofs.Bodies.Rows.{row-rows_at}

above-zero : (d : ℕ) → (d == 0) ≡ false → 0 < d
above-zero zero e = absurd (let bad : true ≡ false = e in cc)
above-zero (suc d) e = omega arith

module _ {V A : Type 0} (P : Program V A) (t : Truth V) (p : ℕ) (S : Sound P t) where
  module _ (N : Steady P t) where
    -- the source of an edge has a copy with a value, and readers
    source-ready : (a : NumberedEdge) → ((true_outdegree t a.edge.src == 0) ≡ false) × (has t.vertices a.edge.src ≡ true) → held t (place_of t a) a.edge.src ≡ true → (place_of t a == p) ≡ true
        → IsSomeAnd (row (rows_at P t p) a.edge.src) (IsSource P)
    source-ready a k h e =
        let here : held t p a.edge.src ≡ true = sym (ap (λ q. held t q a.edge.src) (eqb-true (place_of t a) p e)) ∙ h in
        let plain : hidden P t a.edge.src ≡ false = and_right P.forgetful _ k.0 in
        subst (λ o. IsSomeAnd o (IsSource P)) (sym (row-rows_at P t p a.edge.src k.1 here)) (record {
          value = subst (λ b. IsSomeAnd (if b && not ((t.master a.edge.src == p) && t.kept a.edge.src) then None else Some (t.state.value a.edge.src)) (λ x. IsTrue (P.is_value x))) (sym plain) (N.values a.edge.src k.1);
          outdeg = above-zero _ k.0;
        })

    read-there : Each (λ a. ((true_outdegree t a.edge.src == 0) ≡ false) × (has t.vertices a.edge.src ≡ true)) t.edges
    read-there = Each-both (λ a. (true_outdegree t a.edge.src == 0) ≡ false) (λ a. has t.vertices a.edge.src ≡ true) _ (λ a x y. (x, y)) t.edges N.reads S.sources

    pub sources-ready : SourcesReady P (rows_at P t p) (arcs_at t p)
    unfolding arcs_at
    sources-ready = All-from_recursion (λ a. IsSomeAnd (row (rows_at P t p) a.edge.src) (IsSource P)) (filter (λ a. place_of t a == p) t.edges)
        (Each-passing (λ a. IsSomeAnd (row (rows_at P t p) a.edge.src) (IsSource P)) (λ a. place_of t a == p) t.edges (Each-both _ _ _ source-ready t.edges read-there S.sources_held))

    -- each value that is kept is one of the program
    abbrev Fits : VertexCopy V → Type 0
    Fits c = IfSome c.value (λ x. IsTrue (P.is_value x))

    pub values-fit : ValuesFit P (rows_at P t p)
    unfolding rows_at
    values-fit = All-from_recursion Fits (rows_at P t p) (Each-map Fits (copy_at P t p) (held_at t p) (Each-filter (λ v. Fits (copy_at P t p v)) (held t p) t.vertices (Each-has _ t.vertices (λ v m.
        if-none (λ x. IsTrue (P.is_value x)) (hidden P t v && not ((t.master v == p) && t.kept v)) (t.state.value v) (λ _. N.values v m)))))

  -- the staged copies are of the vertices of the stable ones
  pub vertices-staged : (k : ℕ) → map vertex_of (staged P t p k) ≡ map vertex_of (rows_at P t p)
  unfolding staged rows_at
  vertices-staged k = map-undone (copy_staged P t p k) vertex_of (λ v. refl) (held_at t p) ∙ sym (map-undone (copy_at P t p) vertex_of (λ v. refl) (held_at t p))
