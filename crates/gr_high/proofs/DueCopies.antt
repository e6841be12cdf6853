-- The due copies, and what is made of them.
use Rattle.std.proofs.Common.{◌≡◌, ◌≤◌, ◌∙◌, Bool, true, false, cond, List, [], ◌∷◌, length, Option, None, refl, sym, ap, arith}
use Rattle.std.specs.List.{filter, filter_map, cons_option}
use Rattle.std.proofs.lemmas.List.Sums.{length-filter, count_by-le-length}
use Rattle.gr_program.specs.declared.copy.VertexCopy.{VertexCopy}

module _ {V : Type 0} where
  -- the copies that are due, in their order
  abbrev pub due_copies : List (VertexCopy V) → List (VertexCopy V)
  due_copies rows = filter (λ (c : VertexCopy V). c.due) rows

  pub length-due_copies : (rows : List (VertexCopy V)) → length (due_copies rows) ≤ length rows
  length-due_copies rows = omega (arith, length-filter (λ (c : VertexCopy V). c.due) rows, count_by-le-length (λ (c : VertexCopy V). c.due) rows)

  -- if nothing is made of a copy that is not due, the due copies give all that is made
  pub filter_map-due_copies : {Y : Type 0} (h : VertexCopy V → Option Y) → ((c : VertexCopy V) → c.due ≡ false → h c ≡ None) → (rows : List (VertexCopy V)) → filter_map h (due_copies rows) ≡ filter_map h rows
  filter_map-due_copies h none [] = refl
  filter_map-due_copies h none (c ∷ rows) = by_case c.due (none c) (filter_map-due_copies h none rows)
    where
      by_case : (b : Bool) → (b ≡ false → h c ≡ None) → filter_map h (due_copies rows) ≡ filter_map h rows → filter_map h (cond b (c ∷ due_copies rows) (due_copies rows)) ≡ cons_option (h c) (filter_map h rows)
      by_case true off rest = ap (cons_option (h c)) rest
      by_case false off rest = rest ∙ sym (ap (λ o. cons_option o (filter_map h rows)) (off refl))
