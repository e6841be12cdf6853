-- Sums joined with the parts of one sender more.
use Rattle.std.proofs.Common.{◌≡◌, ◌∙◌, ℕ, eqb, List, [], ◌∷◌, ◌++◌, Option, Some, None, refl, sym, ap}
use Rattle.std.specs.Prelude.{flat_map, option_map}
use Rattle.std.specs.List.{filter_map, find, fold, cons_option}
use Rattle.std.proofs.lemmas.List.Elements.{filter_map-append}
use Rattle.std.proofs.lemmas.List.Sums.{fold-append}
use Rattle.gr_base.specs.declared.records.NumberedEdge.{NumberedEdge}
use Rattle.gr_program.specs.declared.copy.VertexCopy.{VertexCopy}
use Rattle.gr_program.specs.Program.{Program}
use Rattle.gr_batch.specs.declared.batch.Batch.{Batch}
use Rattle.gr_batch.specs.declared.body.Body.{Body}
use Rattle.gr_batch.specs.declared.body.Part.{Part}
use Rattle.gr_batch.specs.declared.stage.Stage.TheVariants as stage
use Rattle.gr_batch.specs.Bodies.{is_of, parts_of}
use Rattle.gr_rules.specs.Inbox.{bodies}
use Rattle.gr_rules.specs.Round.{part_for, own_sum, whole_sum}
use Rattle.gr_high.specs.Parts.{with_part}
use Rattle.gr_round.proofs.Senders.{items-some, items-none, bodies-some, bodies-absent}

module _ {V A : Type 0} (P : Program V A) (v : ℕ) where
  -- a sum joined with the parts of some bodies, in their order
  abbrev pub joined : A → List (Body V A) → A
  joined own bs = fold P.join own (filter_map (part_for v) bs)

  joined-part : (own : A) (o : Option (Part A)) → with_part P own o ≡ fold P.join own (cons_option (option_map (λ x. x.acc) o) [])
  joined-part own None = refl
  joined-part own (Some x) = refl

  -- the part of one sender
  pub joined-one : (inbox : List (Batch V A)) (e : ℕ) (own : A) (p : ℕ) → with_part P own (find (λ x. eqb x.vertex v) (flat_map parts_of (bodies inbox e stage.Gather (p ∷ [])))) ≡ joined own (bodies inbox e stage.Gather (p ∷ []))
  joined-one inbox e own p = at (find (is_of p e stage.Gather) inbox) refl
    where
      at : (o : Option (Batch V A)) → find (is_of p e stage.Gather) inbox ≡ o → with_part P own (find (λ x. eqb x.vertex v) (flat_map parts_of (bodies inbox e stage.Gather (p ∷ [])))) ≡ joined own (bodies inbox e stage.Gather (p ∷ []))
      at None is = ap (λ xs. with_part P own (find (λ x. eqb x.vertex v) xs)) (items-none inbox e stage.Gather parts_of p is) ∙ sym (ap (joined own) (bodies-absent inbox e stage.Gather p is))
      at (Some b) is =
          ap (λ xs. with_part P own (find (λ x. eqb x.vertex v) xs)) (items-some inbox e stage.Gather parts_of p b is)
          ∙ joined-part own (find (λ x. eqb x.vertex v) (parts_of b.body)) ∙ sym (ap (joined own) (bodies-some inbox e stage.Gather p b is))

  -- one body more
  pub joined-more : (own : A) (bs cs : List (Body V A)) → joined own (bs ++ cs) ≡ joined (joined own bs) cs
  joined-more own bs cs = ap (fold P.join own) (filter_map-append (part_for v) bs cs) ∙ fold-append P.join own (filter_map (part_for v) bs) (filter_map (part_for v) cs)

  pub joined-whole : (rows : List (VertexCopy V)) (arcs : List NumberedEdge) (bs : List (Body V A)) → joined (own_sum P rows arcs v) bs ≡ whole_sum P rows arcs bs v
  unfolding whole_sum
  joined-whole rows arcs bs = refl
