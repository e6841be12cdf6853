-- What the inbox of a place brings in a round, where its batches of the present epoch are true.
use Rattle.std.proofs.Common.{◌≡◌, ℕ, List, [], ◌∷◌, ◌++◌, true, map, flat_map, refl, ap, ◌∙◌, subst, Some, None}
use Rattle.std.specs.List.{AllByRecursion as Each, list_any, find}
use Rattle.gr_program.specs.Program.{Program}
use Rattle.gr_copies.specs.declared.view.RebuildView.{RebuildView}
use Rattle.gr_batch.specs.declared.batch.Batch.{Batch}
use Rattle.gr_batch.specs.declared.body.Body.{Body}
use Rattle.gr_batch.specs.declared.stage.Stage.{Stage}
use Rattle.gr_batch.specs.declared.stage.Stage.TheVariants as stage
use Rattle.gr_batch.specs.Stages.{code_of}
use Rattle.gr_batch.specs.Bodies.{stage_of_body, is_of, values_of, signals_of, calls_of}
use Rattle.gr_view.specs.declared.coordinator.Coordinator.{Coordinator}
use Rattle.gr_rules.specs.Inbox.{batch_from, bodies}
use Rattle.gr_agree.specs.Truth.{Truth}
use Rattle.gr_agree.specs.TrueRound.{true_values, true_signals, true_calls}
use Rattle.gr_agree.specs.TrueBody.{TrueBody}
use Rattle.gr_agree.specs.Network.{BatchHolds}
use Rattle.gr_lists.proofs.Any.{find-any}
use Rattle.gr_law_rounds.proofs.Bodies.Rows.{gathers_of}
use Rattle.gr_law_rounds.proofs.Round.Codes.{said-of}
use Rattle.gr_law_rounds.proofs.Round.Network.{of-parts}

module _ {V A : Type 0} (P : Program V A) (w : RebuildView) (want : ℕ) (t : Truth V) (co : Coordinator) (p : ℕ) (inbox : List (Batch V A))
    (good : Each (λ b. BatchHolds P w want t co b × (b.receiver ≡ p)) inbox) where
  -- a batch of the epoch in the inbox holds the true body
  pub true-there : (q : ℕ) (s : Stage) (b : Batch V A) → is_of q co.epoch s b ≡ true → BatchHolds P w want t co b × (b.receiver ≡ p) → TrueBody P w want t q p b.body × (code_of s ≡ code_of (stage_of_body b.body))
  true-there q s b e h =
      let k = of-parts q co.epoch s b e in
      (subst (λ r. TrueBody P w want t q r b.body) h.1 (subst (λ r. TrueBody P w want t r b.receiver b.body) k.0 ((h.0).body k.1)), k.2)

  abbrev Brought : Stage → List ℕ → Type 0
  Brought s qs = Each (λ q. list_any (is_of q co.epoch s) inbox ≡ true) qs

  bodies-cons : (s : Stage) (q : ℕ) (qs : List ℕ) (b : Batch V A) → find (is_of q co.epoch s) inbox ≡ Some b → bodies inbox co.epoch s (q ∷ qs) ≡ b.body ∷ bodies inbox co.epoch s qs
  unfolding bodies
  bodies-cons s q qs b found = ap (λ o. map (λ (x : Batch V A). x.body) (elim o [ None ↦ [] | Some b ↦ b ∷ [] ]) ++ flat_map (λ r. map (λ (x : Batch V A). x.body) (batch_from inbox co.epoch s r)) qs) found

  bodies-nil : (s : Stage) → bodies inbox co.epoch s [] ≡ []
  unfolding bodies
  bodies-nil s = refl

  module _ {Z : Type 0} (g : Body V A → List Z) (G : ℕ → List Z) (s : Stage) (is : (q : ℕ) (b : Body V A) → TrueBody P w want t q p b → code_of s ≡ code_of (stage_of_body b) → g b ≡ G q) where
    pub brought-lists : (qs : List ℕ) → Brought s qs → flat_map g (bodies inbox co.epoch s qs) ≡ flat_map G qs
    brought-lists [] h = ap (flat_map g) (bodies-nil s)
    brought-lists (q ∷ qs) h =
        let f = find-any (is_of q co.epoch s) _ inbox h.0 good in
        let k = true-there q s f.0 f.2 f.3 in
        let here : g ((f.0).body) ≡ G q = is q (f.0).body k.0 k.1 in
        ap (flat_map g) (bodies-cons s q qs f.0 f.1) ∙ (λ i. here i ++ brought-lists qs h.1 i)

  -- the Gather bodies
  pub brought-gathers : (qs : List ℕ) → Brought stage.Gather qs → bodies inbox co.epoch stage.Gather qs ≡ gathers_of P t p qs
  unfolding gathers_of
  brought-gathers [] h = bodies-nil stage.Gather
  brought-gathers (q ∷ qs) h =
      let f = find-any (is_of q co.epoch stage.Gather) _ inbox h.0 good in
      let k = true-there q stage.Gather f.0 f.2 f.3 in
      bodies-cons stage.Gather q qs f.0 f.1 ∙ (λ i. said-of P w want t q p stage.Gather (f.0).body k.0 k.1 i ∷ brought-gathers qs h.1 i)

  pub brought-values : (qs : List ℕ) → Brought stage.Update qs → flat_map values_of (bodies inbox co.epoch stage.Update qs) ≡ flat_map (λ q. true_values P t q p) qs
  brought-values = brought-lists values_of (λ q. true_values P t q p) stage.Update (λ q. said-of P w want t q p stage.Update)

  pub brought-signals : (qs : List ℕ) → Brought stage.Signal qs → flat_map signals_of (bodies inbox co.epoch stage.Signal qs) ≡ flat_map (λ q. true_signals P t q p) qs
  brought-signals = brought-lists signals_of (λ q. true_signals P t q p) stage.Signal (λ q. said-of P w want t q p stage.Signal)

  pub brought-calls : (qs : List ℕ) → Brought stage.Call qs → flat_map calls_of (bodies inbox co.epoch stage.Call qs) ≡ flat_map (λ q. true_calls P t q p) qs
  brought-calls = brought-lists calls_of (λ q. true_calls P t q p) stage.Call (λ q. said-of P w want t q p stage.Call)
