-- Parts joined one by one.
use Rattle.std.proofs.Common.{◌≡◌, ℕ, List, ◌∷◌, Option, Some, None, eqb, refl}
use Rattle.std.specs.List.{find, filter_map, fold}
use Rattle.gr_program.specs.Program.{Program}
use Rattle.gr_batch.specs.declared.body.Part.{Part}
use Rattle.gr_batch.specs.declared.body.Body.{Body}
use Rattle.gr_batch.specs.Bodies.{parts_of}
use Rattle.gr_rules.specs.Round.{part_for}
use Rattle.gr_high.specs.Parts.{with_part}

-- the part of the first body is joined before those of the others
pub fold-part_for : {V A : Type 0} (P : Program V A) (own : A) (v : ℕ) (b : Body V A) (bs : List (Body V A))
    → fold P.join own (filter_map (part_for v) (b ∷ bs)) ≡ fold P.join (with_part P own (find (λ x. eqb x.vertex v) (parts_of b))) (filter_map (part_for v) bs)
fold-part_for {A} P own v b bs = by_case (find (λ (x : Part A). eqb x.vertex v) (parts_of b)) refl
  where
    by_case : (o : Option (Part A)) → find (λ (x : Part A). eqb x.vertex v) (parts_of b) ≡ o → fold P.join own (filter_map (part_for v) (b ∷ bs)) ≡ fold P.join (with_part P own (find (λ x. eqb x.vertex v) (parts_of b))) (filter_map (part_for v) bs)
    by_case None e = rw e refl
    by_case (Some x) e = rw e refl
