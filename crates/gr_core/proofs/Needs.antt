-- A place whose turn it is to act has what its work needs.
use Rattle.std.proofs.Common.{◌≡◌, ℕ, ◌+◌, ◌<◌, ◌≤◌, ◌^◌, true, false, not, cond, ◌==◌, ◌&&◌, refl, sym, ap, ◌∙◌, subst, arith, Option, Some, None, ltb-false, nat_lt}
use Rattle.std.specs.Prelude.{IsTrue}
use Rattle.std.proofs.lemmas.Bool.{and_right}
use Rattle.std.proofs.lemmas.List.Sums.{count_by-le-length}
use Rattle.gr_base.specs.Rising.{has}
use Rattle.gr_program.specs.Program.{Program}
use Rattle.gr_program.specs.ProgramLaws.{ProgramLaws}
use Rattle.gr_batch.specs.declared.stage.Stage.{Stage}
use Rattle.gr_batch.specs.declared.stage.Stage.TheVariants as stage
use Rattle.gr_sched.specs.declared.event.Event.TheVariants as event
use Rattle.gr_view.specs.declared.coordinator.Mode.TheVariants as mode
use Rattle.gr_view.specs.Modes.{is_over, is_open, is_failed, is_rebuild, is_round}
use Rattle.gr_rules.specs.Todo.{Todo}
use Rattle.gr_rules.specs.AtPlace.{due_count}
use Rattle.gr_round.specs.Line.{is_of_round}
use Rattle.gr_cluster.specs.Tables.{Host, Cluster, host}
use Rattle.gr_cluster.specs.Todo.{todo}
use Rattle.gr_batch.specs.Order.{place_in}
use Rattle.gr_batch.specs.declared.outcome.Outcome.TheVariants as outcome
use Rattle.gr_cluster.specs.Work.{worked, worked_at}
use Rattle.gr_cluster.specs.Step.{step}
use Rattle.gr_agree.specs.Truth.{Truth}
use Rattle.gr_agree.specs.TrueRound.{active_next}
use Rattle.gr_agree.specs.Hosts.{progress}
use Rattle.gr_agree.specs.Agree.{Agree}
use Rattle.gr_law_rounds.proofs.Network.Frame.{within}
use Rattle.gr_law_rounds.proofs.Round.AtPlace.{IsRoundStage}
use Rattle.gr_law_rounds.proofs.Round.Install.{party, opened}
use Rattle.gr_law_rounds.proofs.Round.Compute.{round-stage}
use Rattle.gr_law_rounds.proofs.Round.Todo.{case-todo}
use Rattle.gr_law_rounds.proofs.Round.Work.{work-kept}
use Rattle.gr_law_work.proofs.Needs.Act.{may-act}
use Rattle.gr_core.specs.declared.turn.Turn.TheVariants as turn
use Rattle.gr_core.specs.Turns.{turn_of}
use Rattle.gr_core.specs.Works.{MayWork}
use Rattle.gr_core.proofs.Turns.{turn-act, rests-failed, work-step}
use Rattle.gr_core.proofs.Network.{step-taken}
use Rattle.gr_lists.proofs.Tests.{by_test}

stage-of-round : (s : Stage) → IsRoundStage s → IsTrue (is_of_round s)
stage-of-round stage.Gather r = refl
stage-of-round stage.Update r = refl
stage-of-round stage.Signal r = refl
stage-of-round stage.Call r = refl
stage-of-round stage.End r = refl
stage-of-round stage.Ask r = absurd (let bad : false ≡ true = r in cc)
stage-of-round stage.Grant r = absurd (let bad : false ≡ true = r in cc)

module _ {V A : Type 0} (P : Program V A) (L : ProgramLaws P) (t : Truth V) (c : Cluster V A) (AG : Agree P t c) (over : is_over c.coordinator.mode ≡ false) (none : is_rebuild c.coordinator.mode ≡ false) (p : ℕ) where
  -- a place is below 64
  pub place-few : (h : Host V A) → host c p ≡ Some h → p < 64
  place-few h at = let w = within c p h h at in let S = AG.committed.shaped in let a = S.hosts in let f = S.few in omega (arith, w, a, f)

  module _ (h : Host V A) (at : host c p ≡ Some h) where
    not-yet : h.reported ≡ false → has c.coordinator.ready p ≡ false
    not-yet fresh = AG.open_work.reports.ready p h at (party P t c AG none p h at) ∙ (ap (λ b. (h.epoch == c.coordinator.epoch) && b) fresh ∙ and_right (h.epoch == c.coordinator.epoch) false refl)

    fresh-report : todo c.coordinator p h ≡ Todo.Report → h.reported ≡ false
    fresh-report is = case-todo c.coordinator p h none (λ x. x ≡ Todo.Report → h.reported ≡ false)
        (λ e. absurd (cc)) (λ s q e. absurd (cc)) (λ o lt e. absurd (cc)) (λ o le lt e. absurd (cc)) (λ o le le' comp runs needs e. absurd (cc)) (λ q o le le' comp no_end un e. absurd (cc))
        (λ o le le' comp rep end e. rep) is

    -- the sum of the reports is at most the number of vertices
    due-few : c.coordinator.mode ≡ mode.Running → todo c.coordinator p h ≡ Todo.Report → c.coordinator.due + due_count p h.pending < 2 ^ 32
    unfolding worked
    due-few running is =
        let after : Agree P t (worked P c p h Todo.Report).0 = subst (λ x. Agree P t x.0) (work-step P c p over h Todo.Report at is) (work-kept P L t c AG none p).1 in
        let sum = after.open_work.reports.due (ap is_round running) in
        let le = count_by-le-length (λ v. active_next P t v && has (worked P c p h Todo.Report).0.coordinator.ready (t.master v)) t.vertices in
        let few = AG.committed.sound.few in
        omega (arith, sum, le, few)

    acts-here : turn_of c.coordinator (Some h) ≡ turn.Act → MayWork P c.coordinator p h
    acts-here is =
        let W = turn-act c.coordinator (Some h) is in
        let T = W.0 in
        let same : h ≡ T.at = let e = T.is in cc in
        let running = W.1 in
        let le : c.coordinator.commits ≤ h.installed = subst (λ x. c.coordinator.commits ≤ x.installed) (sym same) (ltb-false T.at.installed c.coordinator.commits T.installed) in
        let le' : c.coordinator.epoch ≤ h.epoch = subst (λ x. c.coordinator.epoch ≤ x.epoch) (sym same) (ltb-false T.at.epoch c.coordinator.epoch T.adopted) in
        let O = opened P t c AG none p h at in
        let now : h.epoch ≡ c.coordinator.epoch = let o = O.epoch in omega (arith, o, le') in
        let installed : h.installed ≡ c.coordinator.commits = (O.at_epoch now).installed in
        record {
          running = running;
          installed = installed;
          now = now;
          stage = stage-of-round h.stage (round-stage P t c L AG none running p h at le le');
          needs = may-act P L t c p h AG at running installed now;
          report = λ told. record { party = party P t c AG none p h at; first = ap not (not-yet (fresh-report told)); sum = due-few running told };
        }

module _ {V A : Type 0} (P : Program V A) (L : ProgramLaws P) (t : Truth V) (c : Cluster V A) (AG : Agree P t c) (over : is_over c.coordinator.mode ≡ false) (p : ℕ) where
  pub may-work : (h : Host V A) → host c p ≡ Some h → turn_of c.coordinator (Some h) ≡ turn.Act → MayWork P c.coordinator p h
  may-work h at is = acts-here P L t c AG over (ap is_rebuild (turn-act c.coordinator (Some h) is).1) p h at is

  -- a place whose turn it is not rests
  pub rest-here : (h : Host V A) → host c p ≡ Some h → turn_of c.coordinator (Some h) ≡ turn.Rest → todo c.coordinator p h ≡ Todo.Rest
  unfolding todo
  rest-here h at is = by_test (nat_lt h.installed c.coordinator.commits)
      (λ i. absurd (let e = rw i at is in cc))
      (λ i. by_test (nat_lt h.epoch c.coordinator.epoch)
      (λ n. absurd (let e = rw (i, n) at is in cc))
      (λ n.
      let failed : c.coordinator.mode ≡ mode.Failed = rests-failed c.coordinator.mode over (rw (i, n) at is) in
      let O = opened P t c AG (ap is_rebuild failed) p h at in
      let le = ltb-false h.epoch c.coordinator.epoch n in
      let now : h.epoch ≡ c.coordinator.epoch = let o = O.epoch in omega (arith, o, le) in
      let zero' = (O.at_epoch now).idle (ap is_failed failed) in
      let off : h.computed ≡ false = by_test h.computed
      (λ y. absurd (let one : progress h ≡ place_in h.stage + 1 = ap (λ b. place_in h.stage + cond b 1 0) y in omega (arith, one, zero')))
      (λ y. y) in
      let closed : is_open c.coordinator.mode ≡ false = ap is_open failed in
      rw (over, i, n, closed, off) refl))

  rest-at : (o : Option (Host V A)) → host c p ≡ o → turn_of c.coordinator o ≡ turn.Rest → worked_at P c p o ≡ (c, outcome.Idle)
  unfolding worked
  rest-at None at is = refl
  rest-at (Some h) at is = ap (worked P c p h) (rest-here h at is)

  pub rest-step : turn_of c.coordinator (host c p) ≡ turn.Rest → (c, outcome.Idle) ≡ step P c (event.Work p)
  rest-step is = sym (step-taken P c (event.Work p) over ∙ rest-at (host c p) refl is)
