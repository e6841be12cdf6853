-- Selections of copies, as loops make them.
use Rattle.std.proofs.Common.{◌≡◌, ◌∙◌, ◌<◌, ◌+◌, ℕ, suc, Bool, true, false, cond, List, [], ◌∷◌, ◌++◌, take, length, get_or, Some, None, refl, sym, ap, subst, arith}
use Rattle.std.specs.Prelude.{◌&&◌, ◌==◌, not, IsTrue, IfSome, slice_get}
use Rattle.std.specs.List.{All, filter_map, cons_option}
use Rattle.std.proofs.lemmas.List.{append-nil, take_all}
use Rattle.std.proofs.lemmas.List.Elements.{All-cons, All-filter}
use Rattle.gr_base.specs.Rising.{RisesBy, has}
use Rattle.gr_base.specs.declared.records.NumberedEdge.{NumberedEdge}
use Rattle.gr_base.proofs.Nth.{filter_map-more, get-some, get-none}
use Rattle.gr_base.proofs.Rising.{rises-tail, rises-head, rises-cons}
use Rattle.gr_program.specs.declared.copy.VertexCopy.{VertexCopy}
use Rattle.gr_program.specs.Program.{Program}
use Rattle.gr_batch.specs.declared.body.Body.{Body}
use Rattle.gr_rows.specs.Layers.{CopyLayers}
use Rattle.gr_batch.specs.declared.batch.Batch.{Batch}
use Rattle.gr_batch.specs.declared.stage.Stage.TheVariants as stage
use Rattle.gr_rules.specs.Rows.{row, is_hidden}
use Rattle.gr_rules.specs.Round.{new_value, new_values, update_body}
use Rattle.gr_high.proofs.DueCopies.{due_copies, filter_map-due_copies}
use Rattle.gr_round.specs.declared.party.Party.{Party}
use Rattle.gr_round.specs.Party.{brought_to}
use Rattle.gr_round.specs.Needs.{ValuesReady, StagesNew, HasNewValue}

module _ {X Y : Type 0} (t : X → Bool) (f : X → Y) where
  -- what f gives of the elements that pass
  abbrev pub chosen : List X → List Y
  chosen xs = filter_map (λ x. cond (t x) (Some (f x)) None) xs

  chosen-yes : (xs : List X) (i : ℕ) (d : X) → i < length xs → t (get_or xs i d) ≡ true → chosen (take (i + 1) xs) ≡ chosen (take i xs) ++ f (get_or xs i d) ∷ []
  chosen-yes xs i d lt on = filter_map-more (λ x. cond (t x) (Some (f x)) None) xs i d lt ∙ ap (λ b. chosen (take i xs) ++ cons_option (cond b (Some (f (get_or xs i d))) None) []) on

  chosen-no : (xs : List X) (i : ℕ) (d : X) → i < length xs → t (get_or xs i d) ≡ false → chosen (take (i + 1) xs) ≡ chosen (take i xs)
  chosen-no xs i d lt off = filter_map-more (λ x. cond (t x) (Some (f x)) None) xs i d lt ∙ ap (λ b. chosen (take i xs) ++ cons_option (cond b (Some (f (get_or xs i d))) None) []) off ∙ append-nil (chosen (take i xs))

  -- what a loop has chosen, with the element that comes next, and at the end
  pub chosen-more : (xs : List X) (i : ℕ) (x : X) (so_far : List Y) → Some x ≡ slice_get xs i → t x ≡ true → so_far ≡ chosen (take i xs) → (y : Y) → y ≡ f x → so_far ++ y ∷ [] ≡ chosen (take (i + 1) xs)
  chosen-more xs i x so_far here on is y y_is =
      let at = get-some xs i x here in
      ap (λ l. l ++ y ∷ []) is ∙ ap (λ n. chosen (take i xs) ++ n ∷ []) (y_is ∙ ap f at.1) ∙ sym (chosen-yes xs i x at.0 (sym (ap t at.1) ∙ on))

  pub chosen-same : (xs : List X) (i : ℕ) (x : X) (so_far : List Y) → Some x ≡ slice_get xs i → t x ≡ false → so_far ≡ chosen (take i xs) → so_far ≡ chosen (take (i + 1) xs)
  chosen-same xs i x so_far here off is = let at = get-some xs i x here in is ∙ sym (chosen-no xs i x at.0 (sym (ap t at.1) ∙ off))

  pub chosen-whole : (xs : List X) (i : ℕ) (so_far : List Y) → None ≡ slice_get xs i → so_far ≡ chosen (take i xs) → so_far ≡ chosen xs
  chosen-whole xs i so_far none is = is ∙ ap chosen (take_all i xs (get-none xs i none))

module _ {V : Type 0} where
  abbrev pub is_own : ℕ → VertexCopy V → Bool
  is_own p c = c.due && (c.master == p)

  abbrev pub is_updated : ℕ → Bool → ℕ → VertexCopy V → Bool
  is_updated q forgetful p c = (c.due && (c.master == p)) && (has c.holders q && not (is_hidden forgetful c))

  -- a test that only due copies pass chooses the same from all copies
  pub chosen-due_copies : {Y : Type 0} (t : VertexCopy V → Bool) (f : VertexCopy V → Y) → ((c : VertexCopy V) → c.due ≡ false → t c ≡ false) → (rows : List (VertexCopy V)) → chosen t f (due_copies rows) ≡ chosen t f rows
  chosen-due_copies t f off rows = filter_map-due_copies (λ c. cond (t c) (Some (f c)) None) (λ c idle. ap (λ b. cond b (Some (f c)) None) (off c idle)) rows

  pub own-not_due : (p : ℕ) (c : VertexCopy V) → c.due ≡ false → is_own p c ≡ false
  own-not_due p c idle = ap (λ b. b && (c.master == p)) idle

  pub updated-not_due : (q : ℕ) (forgetful : Bool) (p : ℕ) (c : VertexCopy V) → c.due ≡ false → is_updated q forgetful p c ≡ false
  updated-not_due q forgetful p c idle = ap (λ b. b && (has c.holders q && not (is_hidden forgetful c))) (own-not_due p c idle)

  module _ {A : Type 0} (P : Program V A) (rows : List (VertexCopy V)) (arcs : List NumberedEdge) (gathers : List (Body V A)) where
    pub own-are : (p : ℕ) → new_values P p rows arcs gathers ≡ chosen (is_own p) (new_value P rows arcs gathers) rows
    unfolding new_values
    own-are p = refl

    pub updated-are : (p q : ℕ) → update_body P p q rows arcs gathers ≡ chosen (is_updated q P.forgetful p) (new_value P rows arcs gathers) rows
    unfolding update_body
    updated-are p q = refl

-- what a due copy needs for its new value, by what the place stands on
module _ {V A : Type 0} (P : Program V A) (p : Party) (inbox : List (Batch V A)) (rows : CopyLayers V) (arcs : List NumberedEdge) (ready : ValuesReady P p inbox rows arcs) (i : ℕ) (x : VertexCopy V) (here : Some x ≡ slice_get (due_copies rows.stable) i) where
  due-fits : (Q : VertexCopy V → Type 0) → All Q rows.stable → Q x
  due-fits Q a = let at = get-some (due_copies rows.stable) i x here in subst Q (sym at.1) (All-filter (λ k. k.due) Q rows.stable a i x at.0)

  pub due-value : IfSome x.value (λ v. IsTrue (P.is_value v))
  due-value = due-fits (λ k. IfSome k.value (λ v. IsTrue (P.is_value v))) ready.values

  pub due-staged : is_own p.place x ≡ true → StagesNew P p inbox rows arcs x
  due-staged own = λ on. due-fits (λ k. IsTrue (is_own p.place k) → IfSome (row rows.pending k.vertex) (HasNewValue P rows.stable arcs (brought_to p inbox stage.Gather) k)) (ready.staged on) own

-- what keeps the key of each element that it takes rises with them
module _ {X Y : Type 0} (t : X → Bool) (f : X → Y) (key : X → ℕ) (to : Y → ℕ) where
  chosen-above : ((x : X) → to (f x) ≡ key x) → (n : ℕ) (xs : List X) → All (λ x. n < key x) xs → All (λ y. n < to y) (chosen t f xs)
  chosen-above same n [] a = λ k d l. absurd (omega arith)
  chosen-above same n (x ∷ xs) a = kept (t x) (chosen-above same n xs (λ k d l. a (suc k) d (omega arith)))
    where
      kept : (b : Bool) → All (λ y. n < to y) (chosen t f xs) → All (λ y. n < to y) (cons_option (cond b (Some (f x)) None) (chosen t f xs))
      kept true rest = All-cons (λ y. n < to y) (f x) (chosen t f xs) (let lt = a 0 x (omega arith) in omega (arith, same x)) rest
      kept false rest = rest

  pub chosen-rises : ((x : X) → to (f x) ≡ key x) → (xs : List X) → RisesBy key xs → RisesBy to (chosen t f xs)
  chosen-rises same [] r = λ i j d h l. absurd (omega arith)
  chosen-rises same (x ∷ xs) r = kept (t x) (chosen-rises same xs (rises-tail key x xs r)) (chosen-above same (key x) xs (rises-head key x xs r))
    where
      kept : (b : Bool) → RisesBy to (chosen t f xs) → All (λ y. key x < to y) (chosen t f xs) → RisesBy to (cons_option (cond b (Some (f x)) None) (chosen t f xs))
      kept true rest above = rises-cons to (f x) (chosen t f xs) (λ k d l. let lt = above k d l in omega (arith, same x)) rest
      kept false rest above = rest
