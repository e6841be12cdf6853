use Rattle.std.proofs.Common.{◌≡◌, ◌∙◌, Bool, true, false, cond, not, eqb, List, [], ◌∷◌, length, refl, ap, arith}
use Rattle.std.specs.Prelude.{◌||◌}
use Rattle.std.specs.List.{filter, list_any}
use Rattle.std.proofs.lemmas.Bool.{ne_eqb}
use Rattle.gr_base.specs.declared.records.NumberedEdge.{NumberedEdge}
use Rattle.gr_rules.specs.Rows.{into}
use Rattle.gr_high.proofs.partial.has_edge_into.Goals as goal

-- some element is left where one passes
any-left : {X : Type 0} (test : X → Bool) (xs : List X) → not (eqb (length (filter test xs)) 0) ≡ list_any test xs
any-left test [] = refl
any-left test (x ∷ xs) = more (test x) x (filter test xs) (list_any test xs) (any-left test xs)
  where
    more : {X : Type 0} (b : Bool) (x : X) (ys : List X) (r : Bool) → not (eqb (length ys) 0) ≡ r → not (eqb (length (cond b (x ∷ ys) ys)) 0) ≡ (b || r)
    more true x ys r e = ap not (ne_eqb (length (x ∷ ys)) 0 (λ q. omega arith))
    more false x ys r e = e

pub returns : goal.returns
returns c =
    ap not c.is_empty.ensures ∙ ap (λ (es : List NumberedEdge). not (eqb (length es) 0)) c.edges_into.ensures.edges ∙ any-left (into c.args.v) c.args.arcs.now.stable
