-- What the bodies meet that a place was sent in a round, where the batches of the present epoch in its inbox are true.
use Rattle.std.proofs.Common.{◌≡◌, ℕ, List, [], ◌∷◌, true, not, ◌==◌, ◌&&◌, map, find, refl, sym, subst, Option, Some, None}
use Rattle.std.specs.Prelude.{IsTrue, IfSome, IsSome}
use Rattle.std.specs.List.{All, AllByRecursion as Each}
use Rattle.std.proofs.lemmas.Bool.{and_parts}
use Rattle.std.proofs.lemmas.List.Elements.{All-from_recursion}
use Rattle.gr_base.specs.Rising.{RisesBy}
use Rattle.gr_base.proofs.Rising.{filter-rises}
use Rattle.gr_program.specs.declared.copy.VertexCopy.{VertexCopy}
use Rattle.gr_program.specs.Program.{Program}
use Rattle.gr_program.specs.ProgramLaws.{ProgramLaws}
use Rattle.gr_copies.specs.declared.view.RebuildView.{RebuildView}
use Rattle.gr_batch.specs.declared.batch.Batch.{Batch}
use Rattle.gr_batch.specs.declared.body.Body.{Body}
use Rattle.gr_batch.specs.declared.body.Part.{Part}
use Rattle.gr_batch.specs.declared.body.NewValue.{NewValue}
use Rattle.gr_batch.specs.declared.stage.Stage.{Stage}
use Rattle.gr_batch.specs.declared.stage.Stage.TheVariants as stage
use Rattle.gr_batch.specs.Stages.{code_of}
use Rattle.gr_batch.specs.Bodies.{stage_of_body, is_of, values_of}
use Rattle.gr_view.specs.declared.coordinator.Coordinator.{Coordinator}
use Rattle.gr_rules.specs.Rows.{row}
use Rattle.gr_rules.specs.Inbox.{bodies}
use Rattle.gr_round.specs.Needs.{PartsFit, UpdateFits, GathersFit, UpdatesFit, SignalsRise, CallsRise}
use Rattle.gr_agree.specs.Truth.{Truth, held, hidden, rows_at}
use Rattle.gr_agree.specs.TrueRound.{true_part, true_parts, true_value, true_values, true_signals, true_calls}
use Rattle.gr_agree.specs.TrueBody.{TrueBody}
use Rattle.gr_agree.specs.Logs.{Sound}
use Rattle.gr_agree.specs.Network.{BatchHolds}
use Rattle.gr_lists.proofs.Each.{Each-append, Each-always, Each-has}
use Rattle.gr_lists.proofs.Chosen.{if-some, Each-find, Each-filter_map, filter_map-rises}
use Rattle.gr_law_rounds.proofs.Bodies.Steady.{Steady}
use Rattle.gr_law_rounds.proofs.Bodies.Rows.{row-rows_at, part-kept}
use Rattle.gr_law_rounds.proofs.Round.Codes.{said-of}
use Rattle.gr_law_rounds.proofs.Round.Brought.{true-there}

-- the true bodies from q to p
module _ {V A : Type 0} (P : Program V A) (t : Truth V) (S : Sound P t) (q p : ℕ) where
  true-parts-rise : RisesBy (λ x. x.vertex) (true_parts P t q p)
  unfolding true_parts
  true-parts-rise = filter_map-rises (true_part P t q p) (λ x. x.vertex) (λ v. v) (λ v. if-some (λ (x : Part A). x.vertex ≡ v) _ _ (λ _. refl)) t.vertices S.rise

  true-parts-kept : ProgramLaws P → Steady P t → Each (λ x. IsTrue (P.is_acc x.acc)) (true_parts P t q p)
  unfolding true_parts
  true-parts-kept L N = Each-filter_map (true_part P t q p) _ t.vertices (Each-always _ (λ v. if-some (λ (x : Part A). IsTrue (P.is_acc x.acc)) _ _ (λ _. part-kept P t q L S N q v)) t.vertices)

  true-values-rise : RisesBy (λ n. n.vertex) (true_values P t q p)
  unfolding true_values
  true-values-rise = filter_map-rises (true_value P t q p) (λ n. n.vertex) (λ v. v) (λ v. if-some (λ (n : NewValue V). n.vertex ≡ v) _ _ (λ _. refl)) t.vertices S.rise

  -- each vertex of a value has a copy at p
  true-values-known : Each (λ n. IsSome (row (rows_at P t p) n.vertex)) (true_values P t q p)
  unfolding true_values
  true-values-known = Each-filter_map (true_value P t q p) _ t.vertices (Each-has _ t.vertices (λ v there.
      if-some (λ (n : NewValue V). IsSome (row (rows_at P t p) n.vertex)) ((t.due v && not (hidden P t v)) && ((t.master v == q) && held t p v)) _ (λ k.
      let here : held t p v ≡ true = (and_parts (t.master v == q) _ (and_parts (t.due v && not (hidden P t v)) _ k).1).1 in
      subst (λ o. IsSome o) (sym (row-rows_at P t p v there here)) refl)))

  true-signals-rise : RisesBy (λ v. v) (true_signals P t q p)
  unfolding true_signals
  true-signals-rise = filter-rises (λ v. v) _ t.vertices S.rise

  true-calls-rise : RisesBy (λ v. v) (true_calls P t q p)
  unfolding true_calls
  true-calls-rise = filter-rises (λ v. v) _ t.vertices S.rise

module _ {V A : Type 0} (P : Program V A) (w : RebuildView) (want : ℕ) (t : Truth V) (co : Coordinator) (p : ℕ) (inbox : List (Batch V A))
    (good : Each (λ b. BatchHolds P w want t co b × (b.receiver ≡ p)) inbox) (S : Sound P t) where
  -- what every true body of a stage meets, each meets that is there
  Each-bodies : (Q : Body V A → Type 0) (s : Stage) → ((q : ℕ) (b : Body V A) → TrueBody P w want t q p b → code_of s ≡ code_of (stage_of_body b) → Q b) → (qs : List ℕ) → Each Q (bodies inbox co.epoch s qs)
  unfolding bodies
  Each-bodies Q s is [] = tt
  Each-bodies Q s is (q ∷ qs) = Each-append Q _ _ (here (find (is_of q co.epoch s) inbox) (Each-find _ (is_of q co.epoch s) inbox good)) (Each-bodies Q s is qs)
    where
      here : (o : Option (Batch V A)) → IfSome o (λ b. (is_of q co.epoch s b ≡ true) × (BatchHolds P w want t co b × (b.receiver ≡ p)))
          → Each Q (map (λ (b : Batch V A). b.body) (elim o [ None ↦ [] | Some b ↦ b ∷ [] ]))
      here None h = tt
      here (Some b) h = let k = true-there P w want t co p inbox good q s b h.0 h.1 in (is q b.body k.0 k.1, tt)

  All-bodies : (Q : Body V A → Type 0) (s : Stage) → ((q : ℕ) (b : Body V A) → TrueBody P w want t q p b → code_of s ≡ code_of (stage_of_body b) → Q b) → (qs : List ℕ) → All Q (bodies inbox co.epoch s qs)
  All-bodies Q s is qs = All-from_recursion Q (bodies inbox co.epoch s qs) (Each-bodies Q s is qs)

  pub gathers-fit : ProgramLaws P → Steady P t → (qs : List ℕ) → GathersFit inbox co.epoch qs P
  gathers-fit L N = All-bodies (PartsFit P) stage.Gather (λ q b k e.
      subst (PartsFit P) (sym (said-of P w want t q p stage.Gather b k e)) (record {
        rise = true-parts-rise P t S q p;
        sums = All-from_recursion _ _ (true-parts-kept P t S q p L N);
      }))

  pub updates-fit : (rows : List (VertexCopy V)) → rows ≡ rows_at P t p → (qs : List ℕ) → UpdatesFit inbox co.epoch qs rows
  updates-fit rows er = All-bodies (UpdateFits rows) stage.Update (λ q b k e.
      let is : values_of b ≡ true_values P t q p = said-of P w want t q p stage.Update b k e in
      record {
        rise = subst (RisesBy (λ n. n.vertex)) (sym is) (true-values-rise P t S q p);
        known = subst (λ rs. All (λ n. IsSome (row rs n.vertex)) (values_of b)) (sym er) (subst (All (λ n. IsSome (row (rows_at P t p) n.vertex))) (sym is) (All-from_recursion _ _ (true-values-known P t S q p)));
      })

  pub signals-rise : (qs : List ℕ) → SignalsRise inbox co.epoch qs
  signals-rise = All-bodies _ stage.Signal (λ q b k e. subst (RisesBy (λ v. v)) (sym (said-of P w want t q p stage.Signal b k e)) (true-signals-rise P t S q p))

  pub calls-rise : (qs : List ℕ) → CallsRise inbox co.epoch qs
  calls-rise = All-bodies _ stage.Call (λ q b k e. subst (RisesBy (λ v. v)) (sym (said-of P w want t q p stage.Call b k e)) (true-calls-rise P t S q p))
