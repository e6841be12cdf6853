-- Values staged in several steps, and the vertices that stay.
use Rattle.std.proofs.Common.{◌≡◌, ◌∙◌, ℕ, zero, suc, Bool, true, false, cond, eqb, List, [], ◌∷◌, ◌++◌, map, get_or, Option, Some, None, refl, sym, ap, arith}
use Rattle.std.specs.Prelude.{IsSome, is_some, ◌||◌}
use Rattle.std.specs.List.{All, find, cons_option}
use Rattle.std.specs.Option.{option_or}
use Rattle.std.proofs.lemmas.Bool.{eq-eqb}
use Rattle.std.proofs.lemmas.List.Folds.{find-append}
use Rattle.gr_base.specs.Rising.{has}
use Rattle.gr_program.specs.declared.copy.VertexCopy.{VertexCopy}
use Rattle.gr_batch.specs.declared.body.NewValue.{NewValue}
use Rattle.gr_rows.specs.Layers.{vertex_of}
use Rattle.gr_rules.specs.Rows.{row, with_value, with_values}
use Rattle.gr_round.proofs.Selecting.{chosen}

module _ {V : Type 0} where
  kept-vertex : (o : Option (NewValue V)) (c : VertexCopy V) → (with_value o c).vertex ≡ c.vertex
  kept-vertex None c = refl
  kept-vertex (Some n) c = refl

  abbrev new_for : ℕ → List (NewValue V) → Option (NewValue V)
  new_for v news = find (λ n. eqb n.vertex v) news

  either-value : (o p : Option (NewValue V)) (c : VertexCopy V) → with_value (option_or o p) c ≡ with_value o (with_value p c)
  either-value None p c = refl
  either-value (Some n) None c = refl
  either-value (Some n) (Some m) c = refl

  pub values-append : (xs ys : List (NewValue V)) (rows : List (VertexCopy V)) → with_values (xs ++ ys) rows ≡ with_values xs (with_values ys rows)
  unfolding with_values
  values-append xs ys [] = refl
  values-append xs ys (c ∷ cs) =
      let one = ap (λ o. with_value o c) (find-append (λ n. eqb n.vertex c.vertex) xs ys) ∙ either-value (new_for c.vertex xs) (new_for c.vertex ys) c
      ∙ ap (λ v. with_value (new_for v xs) (with_value (new_for c.vertex ys) c)) (sym (kept-vertex (new_for c.vertex ys) c)) in
      ap (λ k. k ∷ with_values (xs ++ ys) cs) one ∙ ap (λ l. with_value (new_for (with_value (new_for c.vertex ys) c).vertex xs) (with_value (new_for c.vertex ys) c) ∷ l) (values-append xs ys cs)

  pub values-nil : (rows : List (VertexCopy V)) → with_values [] rows ≡ rows
  unfolding with_values
  values-nil [] = refl
  values-nil (c ∷ cs) = ap (λ l. c ∷ l) (values-nil cs)

  pub vertices-values : (news : List (NewValue V)) (rows : List (VertexCopy V)) → map vertex_of (with_values news rows) ≡ map vertex_of rows
  unfolding with_values
  vertices-values news [] = refl
  vertices-values news (c ∷ cs) = ap (λ v. v ∷ map vertex_of (with_values news cs)) (kept-vertex (new_for c.vertex news) c) ∙ ap (λ l. c.vertex ∷ l) (vertices-values news cs)

  -- a copy of a vertex stands where the vertex does
  pub row-has : (rows : List (VertexCopy V)) (v : ℕ) → is_some (row rows v) ≡ has (map vertex_of rows) v
  row-has [] v = refl
  row-has (c ∷ cs) v = at (eqb c.vertex v) (row-has cs v)
    where
      at : (b : Bool) → is_some (row cs v) ≡ has (map vertex_of cs) v → is_some (cond b (Some c) (row cs v)) ≡ (b || has (map vertex_of cs) v)
      at true e = refl
      at false e = e

  pub known-same : (xs ys : List (VertexCopy V)) (v : ℕ) → map vertex_of xs ≡ map vertex_of ys → IsSome (row ys v) → IsSome (row xs v)
  known-same xs ys v same known = row-has xs v ∙ ap (λ l. has l v) same ∙ sym (row-has ys v) ∙ known

  each-known : (rows : List (VertexCopy V)) → All (λ c. has (map vertex_of rows) c.vertex ≡ true) rows
  each-known [] k d l = absurd (omega arith)
  each-known (c ∷ cs) zero d l = ap (λ b. b || has (map vertex_of cs) c.vertex) (eq-eqb c.vertex c.vertex refl)
  each-known (c ∷ cs) (suc k) d l = past (eqb c.vertex _) (each-known cs k d (omega arith))
    where
      past : {b : Bool} (a : Bool) → b ≡ true → (a || b) ≡ true
      past true e = refl
      past false e = e

  -- a place knows the vertices whose new values it computes
  module _ (t : VertexCopy V → Bool) (f : VertexCopy V → NewValue V) where
    chosen-all : (R : NewValue V → Type 0) (xs : List (VertexCopy V)) → All (λ x. R (f x)) xs → All R (chosen t f xs)
    chosen-all R [] a = λ k d l. absurd (omega arith)
    chosen-all R (x ∷ xs) a = at (t x) (chosen-all R xs (λ k d l. a (suc k) d (omega arith)))
      where
        both : All R (chosen t f xs) → All R (f x ∷ chosen t f xs)
        both rest zero d l = a 0 x (omega arith)
        both rest (suc k) d l = rest k d (omega arith)

        at : (b : Bool) → All R (chosen t f xs) → All R (cons_option (cond b (Some (f x)) None) (chosen t f xs))
        at true rest = both rest
        at false rest = rest

    pub chosen-known : ((x : VertexCopy V) → (f x).vertex ≡ x.vertex) → (rows pending : List (VertexCopy V)) → map vertex_of pending ≡ map vertex_of rows → All (λ n. IsSome (row pending n.vertex)) (chosen t f rows)
    chosen-known same rows pending vertices =
        chosen-all (λ n. IsSome (row pending n.vertex)) rows (λ k d l.
        let x = get_or rows k d in
        row-has pending (f x).vertex ∙ ap (λ l. has l (f x).vertex) vertices ∙ ap (has (map vertex_of rows)) (same x) ∙ each-known rows k d l)
