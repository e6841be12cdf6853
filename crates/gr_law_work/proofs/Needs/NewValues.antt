-- Once a place has computed its new values, they are those of its pending copies.
use Rattle.std.proofs.Common.{◌≡◌, ◌<◌, ℕ, List, true, nat_lt, ◌==◌, ◌&&◌, refl, sym, ap, ◌∙◌, subst, Some, eqb-true, lt-ltb}
use Rattle.std.specs.Prelude.{IsTrue, IfSome}
use Rattle.std.specs.List.{AllByRecursion as Each}
use Rattle.std.proofs.lemmas.Bool.{and_parts}
use Rattle.std.proofs.lemmas.List.Elements.{All-from_recursion}
use Rattle.gr_base.specs.Rising.{has}
use Rattle.gr_base.specs.Places.{without_place}
use Rattle.gr_program.specs.declared.copy.VertexCopy.{VertexCopy}
use Rattle.gr_program.specs.Program.{Program}
use Rattle.gr_program.specs.ProgramLaws.{ProgramLaws}
use Rattle.gr_program.specs.Rounds.{gathered}
use Rattle.gr_rules.specs.Rows.{row}
use Rattle.gr_round.specs.Needs.{HasNewValue, NewValuesAreStaged}
use Rattle.gr_agree.specs.Truth.{Truth, edge_list, held, held_at, place_of, arcs_at, hidden, copy_at, rows_at}
use Rattle.gr_agree.specs.TrueRound.{value_next, value_staged, staged}
use Rattle.gr_agree.specs.Logs.{Sound}
use Rattle.gr_lists.proofs.Tests.{by_test}
use Rattle.gr_lists.proofs.Each.{Each-has, Each-filter}
use Rattle.gr_lists.proofs.Maps.{Each-map}
use Rattle.gr_law_rounds.proofs.Bodies.Fold.{occurs}
use Rattle.gr_law_rounds.proofs.Bodies.Steady.{Steady}
use Rattle.gr_law_rounds.proofs.Bodies.Rows.{gathers_of, gathered-kept, held-here, row-staged}
use Rattle.gr_law_rounds.proofs.Bodies.Values.{new-value_at}

module _ {V A : Type 0} (P : Program V A) (t : Truth V) (p : ℕ) (L : ProgramLaws P) (S : Sound P t) (N : Steady P t) where
  -- the next value of a vertex is one of the program
  next-kept : (v : ℕ) → has t.vertices v ≡ true → IsTrue (P.is_value (value_next P t v))
  next-kept v there = by_test (t.state.active v)
      (λ a. rw a (L.apply_kept v (t.state.value v) (gathered P (edge_list t) t.state.value v) (N.values v there) (gathered-kept P t p L S N v)))
      (λ a. rw a (N.values v there))

  module _ (ps : List ℕ) (once : occurs p ps ≡ 1) (placed : Each (λ a. occurs (place_of t a) ps ≡ 1) t.edges) (k : ℕ) (late : 1 < k) where
    -- the master stages the next value of a vertex with its second stage
    value-staged : (v : ℕ) → (t.master v == p) ≡ true → value_staged P t p k v ≡ Some (value_next P t v)
    value-staged v m =
        let on : nat_lt 1 k ≡ true = lt-ltb 1 k late in
        by_test (hidden P t v)
        (λ h. rw (h, on, m) refl)
        (λ h. rw (h, on, m) refl)

    staged-new : (v : ℕ) → has t.vertices v ≡ true → IsTrue (t.due v && (t.master v == p))
        → IfSome (row (staged P t p k) v) (HasNewValue P (rows_at P t p) (arcs_at t p) (gathers_of P t p (without_place ps p)) (copy_at P t p v))
    staged-new v there own =
        let parts = and_parts (t.due v) (t.master v == p) own in
        let m : t.master v ≡ p = eqb-true (t.master v) p parts.1 in
        let is = new-value_at P t p L S N ps once placed v there m parts.0 in
        subst (λ o. IfSome o (HasNewValue P (rows_at P t p) (arcs_at t p) (gathers_of P t p (without_place ps p)) (copy_at P t p v)))
        (sym (row-staged P t p k v there (held-here P t p L S N v there m)))
        (record {
          value = value-staged v parts.1 ∙ sym (ap (λ n. Some n.value) is);
          kept = subst (λ n. IsTrue (P.is_value n.value)) (sym is) (next-kept v there);
        })

    pub new-values-staged : NewValuesAreStaged P p (rows_at P t p) (arcs_at t p) (gathers_of P t p (without_place ps p)) (staged P t p k)
    unfolding rows_at
    new-values-staged = All-from_recursion Has (rows_at P t p) in_rows
      where
        Has : VertexCopy V → Type 0
        Has c = IsTrue (c.due && (c.master == p)) → IfSome (row (staged P t p k) c.vertex) (HasNewValue P (rows_at P t p) (arcs_at t p) (gathers_of P t p (without_place ps p)) c)

        in_rows : Each Has (rows_at P t p)
        in_rows = Each-map Has (copy_at P t p) (held_at t p) (Each-filter (λ v. Has (copy_at P t p v)) (held t p) t.vertices (Each-has _ t.vertices staged-new))
