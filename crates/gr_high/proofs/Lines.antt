-- The parts of a Gather body.
use Rattle.std.proofs.Common.{◌≡◌, ◌∙◌, ℕ, Bool, true, false, cond, IsTrue, List, Some, None, ◌&&◌, refl, sym, ap, subst}
use Rattle.std.specs.Prelude.{IsSomeAnd, ◌==◌}
use Rattle.std.specs.List.{All, list_any, filter_map}
use Rattle.gr_base.specs.declared.records.NumberedEdge.{NumberedEdge}
use Rattle.gr_base.specs.Rising.{RisesBy}
use Rattle.gr_program.specs.declared.copy.VertexCopy.{VertexCopy}
use Rattle.gr_program.specs.Program.{Program}
use Rattle.gr_cut.specs.Cut.{is_high}
use Rattle.gr_batch.specs.declared.body.Part.{Part}
use Rattle.gr_rules.specs.Rows.{row, into}
use Rattle.gr_rules.specs.Round.{own_sum, gather_line, gather_body}
use Rattle.gr_high.specs.Parts.{is_due_high}
use Rattle.gr_high.proofs.DueCopies.{due_copies, filter_map-due_copies}
use Rattle.gr_high.proofs.Selected.{All-filter_map, filter_map-rises, find-each}

given : {X : Type 0} (b : Bool) (y x : X) → cond b (Some y) None ≡ Some x → (b ≡ true) × (y ≡ x)
given true y x e = (refl, cc)
given false y x e = cc

first-two : (a b r : Bool) → (a && (b && r)) ≡ true → IsTrue (a && b)
first-two true true r e = refl
first-two true false r e = cc
first-two false b r e = cc

module _ {V A : Type 0} (P : Program V A) (theta q : ℕ) (rows : List (VertexCopy V)) (arcs : List NumberedEdge) where
  abbrev is_sent : VertexCopy V → Bool
  is_sent c = c.due && (is_high theta c.indeg && ((c.master == q) && list_any (into c.vertex) arcs))

  abbrev part : VertexCopy V → Part A
  part c = record { vertex = c.vertex; acc = own_sum P rows arcs c.vertex }

  -- a part is one of the vertex of its copy, which is due and high
  line-vertex : (c : VertexCopy V) (x : Part A) → gather_line P theta q rows arcs c ≡ Some x → x.vertex ≡ c.vertex
  line-vertex c x e = sym (ap (λ (y : Part A). y.vertex) (given (is_sent c) (part c) x e).1)

  line-due_high : (c : VertexCopy V) (x : Part A) → gather_line P theta q rows arcs c ≡ Some x → IsTrue (is_due_high theta c)
  line-due_high c x e = first-two c.due (is_high theta c.indeg) ((c.master == q) && list_any (into c.vertex) arcs) (given (is_sent c) (part c) x e).0

  -- the copies that are not due bring no part
  pub gather_body-due : gather_body P theta q rows arcs ≡ filter_map (gather_line P theta q rows arcs) (due_copies rows)
  unfolding gather_body
  gather_body-due =
      sym (filter_map-due_copies (gather_line P theta q rows arcs)
      (λ c off. ap (λ b. cond (b && (is_high theta c.indeg && ((c.master == q) && list_any (into c.vertex) arcs))) (Some (part c)) None) off) rows)

  pub gather_body-rises : RisesBy (λ (c : VertexCopy V). c.vertex) rows → RisesBy (λ (x : Part A). x.vertex) (gather_body P theta q rows arcs)
  unfolding gather_body
  gather_body-rises r = filter_map-rises (gather_line P theta q rows arcs) (λ (c : VertexCopy V). c.vertex) (λ (x : Part A). x.vertex) line-vertex rows r

  pub gather_body-high : RisesBy (λ (c : VertexCopy V). c.vertex) rows → All (λ (x : Part A). IsSomeAnd (row rows x.vertex) (λ c. IsTrue (is_due_high theta c))) (gather_body P theta q rows arcs)
  unfolding gather_body
  gather_body-high r =
      All-filter_map (gather_line P theta q rows arcs) (λ c. row rows c.vertex ≡ Some c) (λ x. IsSomeAnd (row rows x.vertex) (λ c. IsTrue (is_due_high theta c)))
      (λ c x at e. subst (λ o. IsSomeAnd o (λ (k : VertexCopy V). IsTrue (is_due_high theta k))) (sym (ap (row rows) (line-vertex c x e) ∙ at)) (line-due_high c x e))
      rows (find-each (λ (c : VertexCopy V). c.vertex) rows r)
