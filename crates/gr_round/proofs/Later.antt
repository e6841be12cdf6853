-- A batch of another stage that comes to an inbox changes nothing of what it holds of a stage, nor of the targets.
use Rattle.std.proofs.Common.{◌≡◌, ℕ, Bool, true, false, List, [], ◌∷◌, ◌++◌, map, Some, None, refl, ap}
use Rattle.std.specs.Prelude.{◌==◌, ◌&&◌, flat_map}
use Rattle.std.specs.List.{find}
use Rattle.gr_base.specs.declared.records.NumberedEdge.{NumberedEdge}
use Rattle.gr_program.specs.declared.copy.VertexCopy.{VertexCopy}
use Rattle.gr_program.specs.Program.{Program}
use Rattle.gr_batch.specs.declared.batch.Batch.{Batch}
use Rattle.gr_batch.specs.declared.stage.Stage.{Stage}
use Rattle.gr_batch.specs.declared.stage.Stage.TheVariants as stage
use Rattle.gr_batch.specs.Stages.{is_stage}
use Rattle.gr_batch.specs.Bodies.{is_of, stage_of_body, values_of}
use Rattle.gr_rules.specs.Inbox.{bodies}
use Rattle.gr_rules.specs.Round.{new_values}
use Rattle.gr_lists.proofs.Tests.{by_test}
use Rattle.gr_signal.specs.Signals.{signalled}
use Rattle.gr_round.specs.Kept.{is_of_targets, targets_at}

and-and-false : (x y z : Bool) → z ≡ false → (x && (y && z)) ≡ false
and-and-false true true z e = e
and-and-false true false z e = refl
and-and-false false y z e = refl

find-append_other : {X : Type 0} (f : X → Bool) (xs : List X) (x : X) → f x ≡ false → find f (xs ++ x ∷ []) ≡ find f xs
find-append_other f [] x off = rw off refl
find-append_other f (y ∷ xs) x off = by_test (f y) (λ k. rw k refl) (λ k. rw k (find-append_other f xs x off))

gather-other : (t : Stage) → is_of_targets t ≡ true → is_stage stage.Gather t ≡ false
gather-other stage.Signal e = refl
gather-other stage.Call e = refl
gather-other stage.Gather e = absurd (let bad : false ≡ true = e in cc)
gather-other stage.Update e = absurd (let bad : false ≡ true = e in cc)
gather-other stage.Ask e = absurd (let bad : false ≡ true = e in cc)
gather-other stage.Grant e = absurd (let bad : false ≡ true = e in cc)
gather-other stage.End e = absurd (let bad : false ≡ true = e in cc)

update-other : (t : Stage) → is_of_targets t ≡ true → is_stage stage.Update t ≡ false
update-other stage.Signal e = refl
update-other stage.Call e = refl
update-other stage.Gather e = absurd (let bad : false ≡ true = e in cc)
update-other stage.Update e = absurd (let bad : false ≡ true = e in cc)
update-other stage.Ask e = absurd (let bad : false ≡ true = e in cc)
update-other stage.Grant e = absurd (let bad : false ≡ true = e in cc)
update-other stage.End e = absurd (let bad : false ≡ true = e in cc)

module _ {V A : Type 0} (inbox : List (Batch V A)) (b : Batch V A) (e : ℕ) where
  pub bodies-later : (s : Stage) (senders : List ℕ) → is_stage s (stage_of_body b.body) ≡ false → bodies (inbox ++ b ∷ []) e s senders ≡ bodies inbox e s senders
  unfolding bodies
  bodies-later s [] other = refl
  bodies-later s (p ∷ ps) other =
      let off : is_of p e s b ≡ false = and-and-false (b.sender == p) (b.epoch == e) (is_stage s (stage_of_body b.body)) other in
      let one = ap (λ o. map (λ (x : Batch V A). x.body) (elim o [ None ↦ [] | Some b ↦ b ∷ [] ])) (find-append_other (is_of p e s) inbox b off) in
      λ i. one i ++ bodies-later s ps other i

  -- the targets are those without a batch of a stage that is made of targets
  pub targets_at-later : (P : Program V A) (p : ℕ) (others : List ℕ) (rows : List (VertexCopy V)) (arcs : List NumberedEdge) → is_of_targets (stage_of_body b.body) ≡ true
      → targets_at P p e others (inbox ++ b ∷ []) rows arcs ≡ targets_at P p e others inbox rows arcs
  targets_at-later P p others rows arcs later =
      let gathered = bodies-later stage.Gather others (gather-other (stage_of_body b.body) later) in
      let updated = bodies-later stage.Update others (update-other (stage_of_body b.body) later) in
      λ i. signalled (new_values P p rows arcs (gathered i) ++ flat_map values_of (updated i)) rows arcs
