-- What a party that has adopted the epoch of a round stages and sends.
use Rattle.std.proofs.Common.{◌≡◌, ℕ, ◌+◌, ◌<◌, ◌≤◌, List, ◌++◌, true, false, cond, filter_map, flat_map, refl, ap, ◌∙◌, subst, arith, Option, Some, eqb-true}
use Rattle.std.specs.Prelude.{IsTrue}
use Rattle.std.specs.List.{AllByRecursion as Each, list_any}
use Rattle.gr_base.specs.declared.records.NumberedEdge.{NumberedEdge}
use Rattle.gr_base.specs.Rising.{has}
use Rattle.gr_base.specs.Places.{without_place}
use Rattle.gr_program.specs.declared.copy.VertexCopy.{VertexCopy}
use Rattle.gr_program.specs.Program.{Program}
use Rattle.gr_program.specs.ProgramLaws.{ProgramLaws}
use Rattle.gr_copies.specs.declared.view.RebuildView.{RebuildView}
use Rattle.gr_batch.specs.declared.batch.Batch.{Batch}
use Rattle.gr_batch.specs.declared.stage.Stage.{Stage}
use Rattle.gr_batch.specs.declared.stage.Stage.TheVariants as stage
use Rattle.gr_batch.specs.Stages.{code_of, is_end}
use Rattle.gr_batch.specs.Order.{place_in}
use Rattle.gr_batch.specs.Bodies.{is_of, stage_of_body, values_of, signals_of, calls_of}
use Rattle.gr_view.specs.declared.coordinator.Coordinator.{Coordinator}
use Rattle.gr_view.specs.declared.coordinator.Mode.TheVariants as mode
use Rattle.gr_rules.specs.Rows.{with_values, with_due}
use Rattle.gr_rules.specs.Inbox.{bodies}
use Rattle.gr_rules.specs.Round.{gather_body, new_values, update_body, signal_body, call_body}
use Rattle.gr_rules.specs.AtPlace.{round_rows, round_body}
use Rattle.gr_rules.specs.Exchange.{needed}
use Rattle.gr_cluster.specs.Tables.{Host}
use Rattle.gr_cluster.specs.Stages.{stages_of, has_stage}
use Rattle.gr_agree.specs.Truth.{Truth, place_of, rows_at, arcs_at}
use Rattle.gr_agree.specs.TrueRound.{staged, true_values, true_signals, true_calls}
use Rattle.gr_agree.specs.TrueBody.{TrueBody}
use Rattle.gr_agree.specs.Logs.{Sound}
use Rattle.gr_agree.specs.Hosts.{progress, HasNeeded}
use Rattle.gr_agree.specs.Network.{BatchHolds}
use Rattle.gr_lists.proofs.Each.{Each-has}
use Rattle.gr_law_rounds.proofs.Bodies.Fold.{occurs}
use Rattle.gr_law_rounds.proofs.Bodies.Steady.{Steady}
use Rattle.gr_law_rounds.proofs.Bodies.Rows.{gathers_of, gather-body_at}
use Rattle.gr_law_rounds.proofs.Bodies.Values.{own_line, new-values_at, update-staged, update-body_at, rows-staged}
use Rattle.gr_law_rounds.proofs.Bodies.Signals.{all_lines, own_due, signal-body_at, call-body_at}
use Rattle.gr_law_rounds.proofs.Bodies.Staging.{signal-staged, end-staged}
use Rattle.gr_law_rounds.proofs.Round.Codes.{same-code}
use Rattle.gr_law_rounds.proofs.Round.Brought.{brought-gathers, brought-values, brought-signals, brought-calls}

-- a stage of a round
abbrev pub IsRoundStage : Stage → Type 0
IsRoundStage s = IsTrue (has_stage (stages_of mode.Running) s)

pub place-le : (s : Stage) → place_in s ≤ 4
place-le stage.Gather = omega arith
place-le _ = omega arith

pub end-place : (s : Stage) → is_end s ≡ true → place_in s ≡ 4
end-place s e = ap place_in (same-code s stage.End (eqb-true (code_of s) 6 e))

-- all stages are computed
pub five : {V A : Type 0} (h : Host V A) → h.computed ≡ true → is_end h.stage ≡ true → progress h ≡ 5
five h comp end = let four = end-place h.stage end in let one : progress h ≡ place_in h.stage + 1 = ap (λ b. place_in h.stage + cond b 1 0) comp in omega (arith, four, one)

module _ {V A : Type 0} (P : Program V A) (t : Truth V) (w : RebuildView) (want : ℕ) (co : Coordinator) (L : ProgramLaws P) (S : Sound P t) (N : Steady P t) (p : ℕ) (ps : List ℕ)
    (mastered : (v : ℕ) → has t.vertices v ≡ true → has ps (t.master v) ≡ true) (once : occurs p ps ≡ 1) (placed : Each (λ a. occurs (place_of t a) ps ≡ 1) t.edges)
    (inbox : List (Batch V A)) (good : Each (λ b. BatchHolds P w want t co b × (b.receiver ≡ p)) inbox)
    (e : ℕ) (ee : e ≡ co.epoch) (rows : List (VertexCopy V)) (es : rows ≡ rows_at P t p) (arcs : List NumberedEdge) (ea : arcs ≡ arcs_at t p) where
  abbrev others : List ℕ
  others = without_place ps p

  abbrev Has : Option Stage → Type 0
  Has o = HasNeeded others e inbox o

  there : (s : Stage) → Has (Some s) → Each (λ q. list_any (is_of q co.epoch s) inbox ≡ true) others
  there s f = Each-has _ others (λ q m. subst (λ n. list_any (is_of q n s) inbox ≡ true) ee (f q m))

  pub gathers-here : Has (Some stage.Gather) → bodies inbox e stage.Gather others ≡ gathers_of P t p others
  gathers-here b = (λ i. bodies inbox (ee i) stage.Gather others) ∙ brought-gathers P w want t co p inbox good others (there stage.Gather b)

  values-here : Has (Some stage.Update) → flat_map values_of (bodies inbox e stage.Update others) ≡ flat_map (λ q. true_values P t q p) others
  values-here b = (λ i. flat_map values_of (bodies inbox (ee i) stage.Update others)) ∙ brought-values P w want t co p inbox good others (there stage.Update b)

  signals-here : Has (Some stage.Signal) → flat_map signals_of (bodies inbox e stage.Signal others) ≡ flat_map (λ q. true_signals P t q p) others
  signals-here b = (λ i. flat_map signals_of (bodies inbox (ee i) stage.Signal others)) ∙ brought-signals P w want t co p inbox good others (there stage.Signal b)

  calls-here : Has (Some stage.Call) → flat_map calls_of (bodies inbox e stage.Call others) ≡ flat_map (λ q. true_calls P t q p) others
  calls-here b = (λ i. flat_map calls_of (bodies inbox (ee i) stage.Call others)) ∙ brought-calls P w want t co p inbox good others (there stage.Call b)

  own-here : Has (Some stage.Gather) → new_values P p rows arcs (bodies inbox e stage.Gather others) ≡ filter_map (own_line P t p) t.vertices
  own-here b = (λ i. new_values P p (es i) (ea i) (gathers-here b i)) ∙ new-values_at P t p L S N ps once placed

  known-here : Has (Some stage.Gather) → Has (Some stage.Update)
      → new_values P p rows arcs (bodies inbox e stage.Gather others) ++ flat_map values_of (bodies inbox e stage.Update others) ≡ all_lines P t L S N p ps mastered once placed
  unfolding all_lines
  known-here a b = λ i. own-here a i ++ values-here b i

  next-here : Has (Some stage.Gather) → Has (Some stage.Update) → Has (Some stage.Signal)
      → signal_body (new_values P p rows arcs (bodies inbox e stage.Gather others) ++ flat_map values_of (bodies inbox e stage.Update others)) rows arcs p ++ flat_map signals_of (bodies inbox e stage.Signal others)
      ≡ own_due P t L S N p ps mastered once placed
  unfolding own_due
  next-here a b c = λ i. signal_body (known-here a b i) (es i) (ea i) p ++ signals-here c i

  -- what computing a stage stages
  pub round-rows-true : (s : Stage) (pending : List (VertexCopy V)) → IsRoundStage s → pending ≡ staged P t p (place_in s + 0) → Has (needed false s)
      → ((r : Stage) → place_in r < place_in s + 0 → IsRoundStage r → Has (needed false r))
      → round_rows P p e others inbox rows arcs s pending ≡ staged P t p (place_in s + 1)
  round-rows-true stage.Gather pending r ep now before = ep ∙ (rows-staged P t p).1
  round-rows-true stage.Update pending r ep now before = (λ i. with_values (new_values P p (es i) (ea i) (gathers-here now i)) (ep i)) ∙ update-staged P t p L S N ps once placed
  round-rows-true stage.Signal pending r ep now before = (λ i. with_values (values-here now i) (ep i)) ∙ signal-staged P t L S N p ps mastered once placed
  round-rows-true stage.Call pending r ep now before = ep ∙ (rows-staged P t p).2
  round-rows-true stage.End pending r ep now before =
      (λ i. with_due (next-here (before stage.Update (omega arith) refl) (before stage.Signal (omega arith) refl) (before stage.Call (omega arith) refl) i ++ calls-here now i) (ep i))
      ∙ end-staged P t L S N p ps mastered once placed
  round-rows-true stage.Ask pending r ep now before = absurd (let bad : false ≡ true = r in cc)
  round-rows-true stage.Grant pending r ep now before = absurd (let bad : false ≡ true = r in cc)

  -- the bodies that are sent once a stage is computed
  pub round-body-true : (theta : ℕ) → theta ≡ t.theta → (s : Stage) → IsRoundStage s → is_end s ≡ false
      → ((r : Stage) → place_in r < place_in s + 1 → IsRoundStage r → Has (needed false r))
      → (q : ℕ) → TrueBody P w want t p q (round_body P p e others inbox rows arcs theta q s)
  round-body-true theta th stage.Gather r n before q = (λ i. gather_body P (th i) q (es i) (ea i)) ∙ gather-body_at P t p L S N q
  round-body-true theta th stage.Update r n before q = (λ i. update_body P p q (es i) (ea i) (gathers-here (before stage.Update (omega arith) refl) i)) ∙ update-body_at P t p L S N ps once placed q
  round-body-true theta th stage.Signal r n before q = (λ i. signal_body (known-here (before stage.Update (omega arith) refl) (before stage.Signal (omega arith) refl) i) (es i) (ea i) q) ∙ signal-body_at P t L S N p ps mastered once placed q
  round-body-true theta th stage.Call r n before q =
      (λ i. call_body (next-here (before stage.Update (omega arith) refl) (before stage.Signal (omega arith) refl) (before stage.Call (omega arith) refl) i) (es i) p q) ∙ call-body_at P t L S N p ps mastered once placed q
  round-body-true theta th stage.End r n before q = absurd (let bad : true ≡ false = n in cc)
  round-body-true theta th stage.Ask r n before q = absurd (let bad : false ≡ true = r in cc)
  round-body-true theta th stage.Grant r n before q = absurd (let bad : false ≡ true = r in cc)

  pub round-body-code : (theta : ℕ) (s : Stage) → IsRoundStage s → is_end s ≡ false → (q : ℕ) → code_of (stage_of_body (round_body P p e others inbox rows arcs theta q s)) ≡ code_of s
  round-body-code theta stage.End r n q = absurd (let bad : true ≡ false = n in cc)
  round-body-code theta stage.Ask r n q = absurd (let bad : false ≡ true = r in cc)
  round-body-code theta stage.Grant r n q = absurd (let bad : false ≡ true = r in cc)
  round-body-code theta _ r n q = refl
