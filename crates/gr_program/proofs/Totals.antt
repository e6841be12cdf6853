-- The join of a list from the unit: of each permutation of it, and of the joins of its parts.
use Rattle.std.proofs.Common.{◌≡◌, map, ◌∙◌, List, [], ◌∷◌, ◌++◌, IsTrue, refl, ap, sym}
use Rattle.std.specs.List.{All, fold}
use Rattle.std.proofs.lemmas.List.Elements.{All-head, All-tail, All-append, All-cons, All-nil}
use Rattle.std.proofs.lemmas.List.Sums.{fold-append}
use Rattle.gr_program.specs.Program.{Program, total}
use Rattle.gr_program.specs.ProgramLaws.{ProgramLaws}
use Rattle.gr_program.specs.Laws.{flat}

module _ {V A : Type 0} {p : Program V A} (laws : ProgramLaws p) where
  abbrev K : A → Type 0
  K a = IsTrue (p.is_acc a)

  -- sums of the program
  abbrev Sums : List A → Type 0
  Sums xs = All K xs

  pub fold-kept : (a : A) (xs : List A) → IsTrue (p.is_acc a) → Sums xs → IsTrue (p.is_acc (fold p.join a xs))
  fold-kept a [] k ks = k
  fold-kept a (b ∷ bs) k ks = fold-kept (p.join a b) bs (laws.join_kept a b k (All-head K b bs ks)) (All-tail K b bs ks)

  -- a fold from a is a joined with the fold from the unit
  pub fold-from : (a : A) (xs : List A) → IsTrue (p.is_acc a) → Sums xs → fold p.join a xs ≡ p.join a (total p xs)
  fold-from a [] k ks = sym (laws.unit_left a k) ∙ laws.comm p.unit a laws.unit_kept k
  fold-from a (b ∷ bs) k ks =
      let kb = All-head K b bs ks in
      let kr = All-tail K b bs ks in
      let rest = fold-kept p.unit bs laws.unit_kept kr in
      fold-from (p.join a b) bs (laws.join_kept a b k kb) kr
      ∙ laws.assoc a b (total p bs) k kb rest
      ∙ ap (p.join a) (sym (fold-from b bs kb kr) ∙ ap (λ c. fold p.join c bs) (sym (laws.unit_left b kb)))

  pub total-kept : (xs : List A) → Sums xs → IsTrue (p.is_acc (total p xs))
  total-kept xs k = fold-kept p.unit xs laws.unit_kept k

  pub total-cons : (a : A) (xs : List A) → IsTrue (p.is_acc a) → Sums xs → total p (a ∷ xs) ≡ p.join a (total p xs)
  total-cons a xs k ks = ap (λ c. fold p.join c xs) (laws.unit_left a k) ∙ fold-from a xs k ks

  -- the join of two lists is that of their joins
  pub total-append : (xs bs : List A) → Sums xs → Sums bs → total p (xs ++ bs) ≡ p.join (total p xs) (total p bs)
  total-append xs bs k h = fold-append p.join p.unit xs bs ∙ fold-from (total p xs) bs (total-kept xs k) h

  totals-kept : (parts : List (List A)) → All Sums parts → Sums (map (total p) parts)
  totals-kept [] k = All-nil K
  totals-kept (xs ∷ rest) k = All-cons K (total p xs) (map (total p) rest) (total-kept xs (All-head Sums xs rest k)) (totals-kept rest (All-tail Sums xs rest k))

  flat-kept : (parts : List (List A)) → All Sums parts → Sums (flat parts)
  flat-kept [] k = All-nil K
  flat-kept (xs ∷ rest) k = All-append K xs (flat rest) (All-head Sums xs rest k) (flat-kept rest (All-tail Sums xs rest k))

  -- the join of a list is the join of the joins of its parts
  pub total-parts : (parts : List (List A)) → All Sums parts → total p (flat parts) ≡ total p (map (total p) parts)
  total-parts [] k = refl
  total-parts (xs ∷ rest) k =
      let ka = All-head Sums xs rest k in
      let kr = All-tail Sums xs rest k in
      total-append xs (flat rest) ka (flat-kept rest kr)
      ∙ ap (p.join (total p xs)) (total-parts rest kr)
      ∙ sym (total-cons (total p xs) (map (total p) rest) (total-kept xs ka) (totals-kept rest kr))
