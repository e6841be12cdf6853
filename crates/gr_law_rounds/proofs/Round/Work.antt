-- A work of a place where no rebuild is open keeps the invariant.
use Rattle.std.proofs.Common.{◌≡◌, ℕ, ◌+◌, ◌≤◌, true, false, cond, refl, sym, ap, ◌∙◌, arith, Option, Some, None}
use Rattle.gr_program.specs.Program.{Program}
use Rattle.gr_program.specs.ProgramLaws.{ProgramLaws}
use Rattle.gr_batch.specs.Order.{place_in}
use Rattle.gr_sched.specs.declared.event.Event.TheVariants as event
use Rattle.gr_view.specs.declared.coordinator.Mode.{Mode}
use Rattle.gr_view.specs.declared.coordinator.Mode.TheVariants as mode
use Rattle.gr_view.specs.Modes.{is_over, is_failed, is_rebuild}
use Rattle.gr_cluster.specs.Tables.{Host, Cluster, host, view_of, wanted_in}
use Rattle.gr_cluster.specs.Work.{first_stage}
use Rattle.gr_cluster.specs.Todo.{todo}
use Rattle.gr_cluster.specs.Work.{worked, worked_at}
use Rattle.gr_cluster.specs.Step.{step}
use Rattle.gr_agree.specs.Truth.{Truth}
use Rattle.gr_agree.specs.TrueRound.{staged}
use Rattle.gr_agree.specs.Hosts.{progress, pending_rows, pending_arcs}
use Rattle.gr_agree.specs.Agree.{Agree}
use Rattle.gr_lists.proofs.Tests.{by_test}
use Rattle.gr_law_rounds.specs.Network.{IsKept}
use Rattle.gr_law_rounds.proofs.Network.Kept.{kept-same}
use Rattle.gr_law_rounds.proofs.Round.Todo.{case-todo}
use Rattle.gr_law_rounds.proofs.Bodies.Values.{rows-staged}
use Rattle.gr_law_rounds.proofs.Round.Running.{is-running, shows-stable}
use Rattle.gr_law_rounds.proofs.Round.InEpoch.{opened}
use Rattle.gr_law_rounds.proofs.Round.Install.{first-place, HasStart, install-kept, adopt-kept}
use Rattle.gr_law_rounds.proofs.Round.Compute.{compute-kept}
use Rattle.gr_law_rounds.proofs.Round.Send.{send-kept}
use Rattle.gr_law_rounds.proofs.Round.Report.{report-kept}

-- a mode that is not over, and in which neither a rebuild is open nor places failed, is that of a round
round-mode : (m : Mode) → is_over m ≡ false → is_rebuild m ≡ false → is_failed m ≡ false → m ≡ mode.Running
round-mode mode.Running o r f = refl
round-mode mode.Failed o r f = absurd (let bad : true ≡ false = f in cc)
round-mode mode.Done o r f = absurd (let bad : true ≡ false = o in cc)
round-mode mode.Lost o r f = absurd (let bad : true ≡ false = o in cc)
round-mode _ o r f = absurd (let bad : true ≡ false = r in cc)

module _ {V A : Type 0} (P : Program V A) (L : ProgramLaws P) (t : Truth V) (c : Cluster V A) (AG : Agree P t c) (no_rebuild : is_rebuild c.coordinator.mode ≡ false) where
  -- where a stage is computed at a place, a round is open
  computed-runs : (p : ℕ) (h : Host V A) → host c p ≡ Some h → is_over c.coordinator.mode ≡ false → c.coordinator.epoch ≤ h.epoch → h.computed ≡ true → c.coordinator.mode ≡ mode.Running
  computed-runs p h at o le comp = round-mode c.coordinator.mode o no_rebuild (by_test (is_failed c.coordinator.mode)
      (λ f. absurd (
      let O = opened P t c AG p h at in let e = O.epoch in
      let zero' = (O.at_epoch (omega (arith, le, e))).idle f in
      let one : progress h ≡ place_in h.stage + 1 = ap (λ b. place_in h.stage + cond b 1 0) comp in omega (arith, zero', one)))
      (λ f. f))

  -- a round starts from the stable layer
  starts : (p : ℕ) (h : Host V A) → host c p ≡ Some h → h.installed ≡ c.coordinator.commits → HasStart P t c p h
  starts p h at is =
      let S = shows-stable P t c AG no_rebuild p h at is in let k = place_in (first_stage c.coordinator.mode) + 0 in (
        S.0 ∙ ((rows-staged P t p).0 ∙ (ap (λ n. staged P t p (n + 0)) (sym (first-place c.coordinator.mode)) ∙ ap (λ b. pending_rows P (view_of P c) (wanted_in P c) t p k b) (sym no_rebuild))),
        S.1 ∙ ap (λ b. pending_arcs P (view_of P c) (wanted_in P c) t p k b) (sym no_rebuild),
      )

  worked-kept : (p : ℕ) (h : Host V A) → host c p ≡ Some h → IsKept P t c (worked P c p h (todo c.coordinator p h)).0
  unfolding worked
  worked-kept p h at = case-todo c.coordinator p h no_rebuild (λ x. IsKept P t c (worked P c p h x).0)
      (kept-same P t c AG)
      (λ s q. kept-same P t c AG)
      (λ o lt. install-kept P t c AG p h at lt)
      (λ o le lt. adopt-kept P t c AG p h at le lt (starts p h at))
      (λ o le le' comp runs needs. compute-kept P t c L AG no_rebuild (is-running c.coordinator.mode no_rebuild runs) p h at le le' comp needs)
      (λ q o le le' comp no_end un. send-kept P t c L AG no_rebuild (computed-runs p h at o le' comp) p h at le le' comp q un no_end)
      (λ o le le' comp rep end. report-kept P t c L AG no_rebuild (computed-runs p h at o le' comp) p h at le le' comp rep end)

  worked_at-kept : (p : ℕ) (o : Option (Host V A)) → host c p ≡ o → IsKept P t c (worked_at P c p o).0
  worked_at-kept p None at = kept-same P t c AG
  worked_at-kept p (Some h) at = worked-kept p h at

  pub work-kept : (p : ℕ) → IsKept P t c (step P c (event.Work p)).0
  unfolding step
  work-kept p = by_test (is_over c.coordinator.mode)
      (λ e. rw e (kept-same P t c AG))
      (λ e. rw e (worked_at-kept p (host c p) refl))
