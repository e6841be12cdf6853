-- The values that a place masters, copy by copy.
use Rattle.std.proofs.Common.{◌≡◌, ◌∙◌, ◌<◌, ◌+◌, ◌++◌, ◌==◌, ℕ, List, [], ◌∷◌, Option, Some, None, length, take, get_or, filter_map, refl, ap, sym, subst, arith}
use Rattle.std.specs.Prelude.{option_map}
use Rattle.std.specs.List.{cons_option}
use Rattle.std.specs.List.{All}
use Rattle.std.proofs.lemmas.List.Elements.{All-cons, All-head, All-tail}
use Rattle.gr_base.specs.Rising.{RisesBy}
use Rattle.gr_base.proofs.Rising.{rises-nil, rises-cons, rises-head, rises-tail}
use Rattle.gr_base.proofs.Nth.{filter_map-more}
use Rattle.gr_program.specs.declared.copy.VertexCopy.{VertexCopy}
use Rattle.gr_program.specs.declared.program.ValueOf.{ValueOf}
use Rattle.gr_rows.specs.Layers.{vertex_of}
use Rattle.gr_lists.proofs.Tests.{by_test}
use Rattle.gr_core.specs.Values.{vertex_in, value_in, mastered_value, mastered_in}

module _ {V : Type 0} (p : ℕ) where
  -- a selection of a selection is one
  mastered-chosen : (rows : List (VertexCopy V)) → mastered_in p rows ≡ filter_map (mastered_value p) rows
  mastered-chosen [] = refl
  mastered-chosen (r ∷ rs) = by_test (r.master == p)
      (λ e. rw e (ap (λ l. cons_option (value_in r) l) (mastered-chosen rs)))
      (λ e. rw e (mastered-chosen rs))

  pub mastered-more : (rows : List (VertexCopy V)) (i : ℕ) (d : VertexCopy V) → i < length rows → mastered_in p (take (i + 1) rows) ≡ mastered_in p (take i rows) ++ cons_option (mastered_value p (get_or rows i d)) []
  mastered-more rows i d lt =
      mastered-chosen (take (i + 1) rows) ∙ (filter_map-more (mastered_value p) rows i d lt ∙ (λ k. sym-chosen rows i k ++ cons_option (mastered_value p (get_or rows i d)) []))
    where
      sym-chosen : (rs : List (VertexCopy V)) (n : ℕ) → filter_map (mastered_value p) (take n rs) ≡ mastered_in p (take n rs)
      sym-chosen rs n = sym (mastered-chosen (take n rs))

  abbrev Above : ℕ → List (ValueOf V) → Type 0
  Above n xs = All (λ (x : ValueOf V). n < x.vertex) xs

  mastered-above : (n : ℕ) (rows : List (VertexCopy V)) → All (λ (r : VertexCopy V). n < r.vertex) rows → Above n (filter_map (mastered_value p) rows)
  mastered-above n [] a = λ i d lt. absurd (omega (arith, lt))
  mastered-above n (r ∷ rs) a =
      let rest = mastered-above n rs (All-tail (λ (y : VertexCopy V). n < y.vertex) r rs a) in
      by_test (r.master == p) (λ e. rw e (either rest r.value)) (λ e. rw e rest)
    where
      either : Above n (filter_map (mastered_value p) rs) → (o : Option V) → Above n (cons_option (option_map (λ x. record { vertex = r.vertex; value = x }) o) (filter_map (mastered_value p) rs))
      either rest None = rest
      either rest (Some x) = All-cons (λ (y : ValueOf V). n < y.vertex) (record { vertex = r.vertex; value = x }) (filter_map (mastered_value p) rs) (All-head (λ (y : VertexCopy V). n < y.vertex) r rs a) rest

  chosen-rises : (rows : List (VertexCopy V)) → RisesBy vertex_of rows → RisesBy vertex_in (filter_map (mastered_value p) rows)
  chosen-rises [] rise = rises-nil vertex_in
  chosen-rises (r ∷ rs) rise =
      let rest = chosen-rises rs (rises-tail vertex_of r rs rise) in
      by_test (r.master == p) (λ e. rw e (either rest r.value)) (λ e. rw e rest)
    where
      either : RisesBy vertex_in (filter_map (mastered_value p) rs) → (o : Option V) → RisesBy vertex_in (cons_option (option_map (λ x. record { vertex = r.vertex; value = x }) o) (filter_map (mastered_value p) rs))
      either rest None = rest
      either rest (Some x) = rises-cons vertex_in (record { vertex = r.vertex; value = x }) (filter_map (mastered_value p) rs) (mastered-above r.vertex rs (rises-head vertex_of r rs rise)) rest

  pub mastered-rises : (rows : List (VertexCopy V)) → RisesBy vertex_of rows → RisesBy vertex_in (mastered_in p rows)
  mastered-rises rows rise = subst (RisesBy vertex_in) (sym (mastered-chosen rows)) (chosen-rises rows rise)
