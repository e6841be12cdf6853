-- What the stages of a round stage and send, by cases.
use Rattle.std.proofs.Common.{◌≡◌, ◌∙◌, ℕ, List, [], ◌∷◌, map, refl, ap}
use Rattle.gr_base.specs.Rising.{has}
use Rattle.gr_base.specs.declared.records.NumberedEdge.{NumberedEdge}
use Rattle.gr_program.specs.declared.copy.VertexCopy.{VertexCopy}
use Rattle.gr_program.specs.Program.{Program}
use Rattle.gr_batch.specs.declared.batch.Batch.{Batch}
use Rattle.gr_batch.specs.declared.body.Body.TheVariants as body
use Rattle.gr_batch.specs.declared.stage.Stage.{Stage}
use Rattle.gr_batch.specs.declared.stage.Stage.TheVariants as stage
use Rattle.gr_rows.specs.Layers.{vertex_of}
use Rattle.gr_rules.specs.Rows.{with_due}
use Rattle.gr_rules.specs.AtPlace.{own_values, sent_values, all_next, round_rows, round_body}
use Rattle.gr_round.proofs.Staged.{vertices-values}

module _ {V : Type 0} where
  -- marks are told by the members of the list
  pub due-same : (xs ys : List ℕ) → ((v : ℕ) → has xs v ≡ has ys v) → (rows : List (VertexCopy V)) → with_due xs rows ≡ with_due ys rows
  unfolding with_due
  due-same xs ys same [] = refl
  due-same xs ys same (c ∷ cs) = ap (λ b. record c { due = b } ∷ with_due xs cs) (same c.vertex) ∙ ap (λ l. record c { due = has ys c.vertex } ∷ l) (due-same xs ys same cs)

  pub vertices-due : (due : List ℕ) (rows : List (VertexCopy V)) → map vertex_of (with_due due rows) ≡ map vertex_of rows
  unfolding with_due
  vertices-due due [] = refl
  vertices-due due (c ∷ cs) = ap (λ l. c.vertex ∷ l) (vertices-due due cs)

module _ {V A : Type 0} (P : Program V A) (p e : ℕ) (others : List ℕ) (inbox : List (Batch V A)) (rows : List (VertexCopy V)) (arcs : List NumberedEdge) where
  -- no stage adds or drops a copy
  pub vertices-round : (s : Stage) (pending : List (VertexCopy V)) → map vertex_of (round_rows P p e others inbox rows arcs s pending) ≡ map vertex_of pending
  vertices-round stage.Gather pending = refl
  vertices-round stage.Update pending = vertices-values (own_values P p e others inbox rows arcs) pending
  vertices-round stage.Signal pending = vertices-values (sent_values P p e others inbox rows arcs) pending
  vertices-round stage.Call pending = refl
  vertices-round stage.Ask pending = refl
  vertices-round stage.Grant pending = refl
  vertices-round stage.End pending = vertices-due (all_next P p e others inbox rows arcs) pending

  -- the stages that stage nothing
  pub rows-other : (s : Stage) → (s ≡ stage.Update → ⊥) → (s ≡ stage.Signal → ⊥) → (s ≡ stage.End → ⊥) → (pending : List (VertexCopy V)) → round_rows P p e others inbox rows arcs s pending ≡ pending
  rows-other stage.Gather u t n pending = refl
  rows-other stage.Update u t n pending = absurd (u refl)
  rows-other stage.Signal u t n pending = absurd (t refl)
  rows-other stage.Call u t n pending = refl
  rows-other stage.Ask u t n pending = refl
  rows-other stage.Grant u t n pending = refl
  rows-other stage.End u t n pending = absurd (n refl)

  -- the stages that send nothing
  pub body-other : (theta q : ℕ) (s : Stage) → (s ≡ stage.Gather → ⊥) → (s ≡ stage.Update → ⊥) → (s ≡ stage.Signal → ⊥) → (s ≡ stage.Call → ⊥) → round_body P p e others inbox rows arcs theta q s ≡ body.Call []
  body-other theta q stage.Gather g u t c = absurd (g refl)
  body-other theta q stage.Update g u t c = absurd (u refl)
  body-other theta q stage.Signal g u t c = absurd (t refl)
  body-other theta q stage.Call g u t c = absurd (c refl)
  body-other theta q stage.Ask g u t c = refl
  body-other theta q stage.Grant g u t c = refl
  body-other theta q stage.End g u t c = refl
