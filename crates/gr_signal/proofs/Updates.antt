-- New values, one after another.
use Rattle.std.proofs.Common.{◌≡◌, ◌≢◌, ◌∙◌, ◌<◌, ◌+◌, ℕ, zero, suc, Bool, true, false, cond, eqb, List, [], ◌∷◌, map, take, length, get_or, Option, Some, None, refl, sym, ap, arith, inl, inr}
use Rattle.std.specs.Prelude.{is_some}
use Rattle.std.specs.List.{find}
use Rattle.std.specs.Option.{option_or}
use Rattle.std.proofs.lemmas.Bool.{cases_eq, eq-eqb, ne_eqb}
use Rattle.std.proofs.lemmas.List.{take_more, map-id}
use Rattle.std.proofs.lemmas.List.Folds.{find-append}
use Rattle.gr_base.specs.Rising.{RisesBy}
use Rattle.gr_program.specs.declared.copy.VertexCopy.{VertexCopy}
use Rattle.gr_batch.specs.declared.body.NewValue.{NewValue}
use Rattle.gr_rows.specs.Layers.{copy_with_value}
use Rattle.gr_rules.specs.Rows.{row, with_value, with_values}

or-none : {X : Type 0} (o : Option X) → option_or o None ≡ o
or-none None = refl
or-none (Some x) = refl

module _ {V : Type 0} where
  abbrev new_for : ℕ → List (NewValue V) → Option (NewValue V)
  new_for v news = find (λ n. eqb n.vertex v) news

  none-before : (news : List (NewValue V)) (i : ℕ) (d : NewValue V) (v : ℕ) → ((k : ℕ) → k < i → (get_or news k d).vertex ≢ v) → i < length news → new_for v (take i news) ≡ None
  none-before news zero d v apart lt = refl
  none-before [] (suc i) d v apart lt = refl
  none-before (n ∷ ns) (suc i) d v apart lt = rw (ne_eqb n.vertex v (apart 0 (omega arith))) (none-before ns i d v (λ k l. apart (suc k) (omega arith)) (omega arith))

  kept-vertex : (o : Option (NewValue V)) (c : VertexCopy V) → (with_value o c).vertex ≡ c.vertex
  kept-vertex None c = refl
  kept-vertex (Some n) c = refl

  one-value : (n : NewValue V) (o : Option (NewValue V)) (c : VertexCopy V) → (n.vertex ≡ c.vertex → o ≡ None) →
      copy_with_value n.vertex n.value (with_value o c) ≡ with_value (option_or o (cond (eqb n.vertex c.vertex) (Some n) None)) c
  one-value n o c fresh = elim (cases_eq n.vertex c.vertex) [
    | inl same ↦ rw (fresh same, eq-eqb n.vertex c.vertex same, eq-eqb c.vertex n.vertex (sym same)) refl
    | inr apart ↦ rw (kept-vertex o c, ne_eqb n.vertex c.vertex apart, ne_eqb c.vertex n.vertex (λ q. apart (sym q)), or-none o) refl
  ]

  -- no new value
  pub values-none : (rows : List (VertexCopy V)) → with_values [] rows ≡ rows
  unfolding with_values
  values-none rows = map-id rows

  -- one new value more
  pub values-more : (rows : List (VertexCopy V)) (news : List (NewValue V)) (i : ℕ) (n : NewValue V) → RisesBy (λ (l : NewValue V). l.vertex) news → i < length news → n ≡ get_or news i n →
      map (copy_with_value n.vertex n.value) (with_values (take i news) rows) ≡ with_values (take (i + 1) news) rows
  unfolding with_values
  values-more [] news i n r lt is = refl
  values-more (c ∷ cs) news i n r lt is =
      let before = (λ (same : n.vertex ≡ c.vertex). none-before news i n c.vertex (λ k l e. let q = r k i n l lt in let s = ap (λ (x : NewValue V). x.vertex) is in omega arith) lt) in
      let found = ap (new_for c.vertex) (take_more news i n lt) ∙ find-append (λ (x : NewValue V). eqb x.vertex c.vertex) (take i news) (get_or news i n ∷ []) ∙ ap (λ m. option_or (new_for c.vertex (take i news)) (cond (eqb m.vertex c.vertex) (Some m) None)) (sym is) in
      ap (λ x. x ∷ map (copy_with_value n.vertex n.value) (with_values (take i news) cs)) (one-value n (new_for c.vertex (take i news)) c before ∙ ap (λ o. with_value o c) (sym found))
      ∙ ap (λ l. with_value (new_for c.vertex (take (i + 1) news)) c ∷ l) (values-more cs news i n r lt is)

  -- the vertices stay
  pub some-values : (rows : List (VertexCopy V)) (news : List (NewValue V)) (v : ℕ) → is_some (row (with_values news rows) v) ≡ is_some (row rows v)
  unfolding with_values
  some-values [] news v = refl
  some-values (c ∷ cs) news v = case (new_for c.vertex news) (with_values news cs) cs c v (some-values cs news v)
    where
      if_some : (b : Bool) (x y : VertexCopy V) (o p : Option (VertexCopy V)) → is_some o ≡ is_some p → is_some (cond b (Some x) o) ≡ is_some (cond b (Some y) p)
      if_some true x y o p e = refl
      if_some false x y o p e = e

      case : (o : Option (NewValue V)) (ds cs : List (VertexCopy V)) (c : VertexCopy V) (v : ℕ) → is_some (row ds v) ≡ is_some (row cs v) → is_some (row (with_value o c ∷ ds) v) ≡ is_some (row (c ∷ cs) v)
      case o ds cs c v e = rw (kept-vertex o c) (if_some (eqb c.vertex v) (with_value o c) c (row ds v) (row cs v) e)
