-- An event that stays in its epoch leaves the mode, unless it is a recovery that finds a lost vertex.
use Rattle.std.proofs.Common.{◌≡◌, ℕ, List, true, false, refl, sym, ap, ◌∙◌, arith, inl, inr, ⊎_elim, nat_lt, length, slice_get}
use Rattle.std.proofs.lemmas.Bool.{and_parts}
use Rattle.gr_program.specs.Program.{Program}
use Rattle.gr_sched.specs.declared.event.Event.{Event}
use Rattle.gr_sched.specs.declared.event.Event.TheVariants as event
use Rattle.gr_view.specs.declared.coordinator.Mode.TheVariants as mode
use Rattle.gr_view.specs.Modes.{is_failed, is_over}
use Rattle.gr_view.specs.Decisions.{may_recover, at_recovery}
use Rattle.gr_cluster.specs.Tables.{Cluster, host}
use Rattle.gr_cluster.specs.Step.{lost_list, recovered, taken_step, step}
use Rattle.gr_agree.specs.Laws.{IsModeSame}
use Rattle.gr_lists.proofs.Tests.{by_test}
use Rattle.gr_law_rebuilds.proofs.Epoch.Unopened.{failed-mode}
use Rattle.gr_law_rounds.proofs.Network.Unruled.{worked_at-unruled, delivered-unruled, dropped-unruled, crashed-unruled}
use Rattle.gr_law_runs.proofs.Left.Decided.{IsDecided, barred-decided, repaired-decided, discarded-decided}

module _ {V A : Type 0} (P : Program V A) (c : Cluster V A) where
  -- a decision that stays in the epoch changes nothing
  decided-same : (d : Cluster V A) → IsDecided c d → d.coordinator.epoch ≡ c.coordinator.epoch → d.coordinator.mode ≡ c.coordinator.mode
  decided-same d D same = ⊎_elim (λ is. ap (λ (x : Cluster V A). x.coordinator.mode) is) (λ r. absurd (omega (arith, r, same))) D

  unended : {X : Type 0} (d : Cluster V A) → is_over c.coordinator.mode ≡ false → d.coordinator.mode ≡ c.coordinator.mode → is_over d.coordinator.mode ≡ true → X
  unended d o same y = absurd (let bad : false ≡ true = sym o ∙ (ap is_over (sym same) ∙ y) in cc)

  same-mode : (e : Event) → IsModeSame e c c
  same-mode (event.Recover ps) = inl refl
  same-mode _ = refl

  -- a recovery that opens nothing finds a lost vertex, or is refused
  recovered-same : (ps : List ℕ) → (recovered c ps).0.coordinator.epoch ≡ c.coordinator.epoch → IsModeSame (event.Recover ps) c (recovered c ps).0
  unfolding recovered at_recovery
  recovered-same ps = by_test (may_recover c.coordinator ps)
      (λ may. by_test (nat_lt 0 (length (lost_list c)))
      (λ some. rw (may, some) (λ same. inr (record {
        failed = failed-mode c.coordinator.mode (and_parts (is_failed c.coordinator.mode) _ may).0;
        some = λ none. let bad : false ≡ true = sym (ap (λ l. nat_lt 0 (length l)) none) ∙ some in cc;
        ended = refl;
      })))
      (λ none. rw (may, none) (λ same. absurd (omega (arith, same)))))
      (λ may. rw may (λ same. inl refl))

  taken-same : is_over c.coordinator.mode ≡ false → (e : Event) → (taken_step P c e).0.coordinator.epoch ≡ c.coordinator.epoch → IsModeSame e c (taken_step P c e).0
  taken-same o (event.Work p) same = (worked_at-unruled P c p (host c p)).mode
  taken-same o (event.Deliver i) same = (delivered-unruled P c i (slice_get c.flight i)).mode
  taken-same o (event.Discarded i) same = (dropped-unruled P c i (slice_get c.flight i)).mode
  taken-same o (event.Crash p n) same = (crashed-unruled P c p n (host c p)).mode
  taken-same o event.Barrier same = decided-same (taken_step P c event.Barrier).0 (barred-decided c o) same
  taken-same o (event.Recover ps) same = recovered-same ps same
  taken-same o event.Repair same = decided-same (taken_step P c event.Repair).0 (repaired-decided c) same
  taken-same o event.Discard same = decided-same (taken_step P c event.Discard).0 (discarded-decided c) same

  pub inside-same : (e : Event) → (step P c e).0.coordinator.epoch ≡ c.coordinator.epoch → IsModeSame e c (step P c e).0
  unfolding step
  inside-same e = by_test (is_over c.coordinator.mode)
      (λ o. rw o (λ same. same-mode e))
      (λ o. rw o (taken-same o e))

  -- only after a failure does an event end the run inside its epoch
  mode-ends : (e : Event) (d : Cluster V A) → is_over c.coordinator.mode ≡ false → IsModeSame e c d → is_over d.coordinator.mode ≡ true → c.coordinator.mode ≡ mode.Failed
  mode-ends (event.Recover ps) d o (inl same) y = unended d o same y
  mode-ends (event.Recover ps) d o (inr L) y = L.failed
  mode-ends (event.Work p) d o same y = unended d o same y
  mode-ends (event.Deliver i) d o same y = unended d o same y
  mode-ends (event.Discarded i) d o same y = unended d o same y
  mode-ends (event.Crash p n) d o same y = unended d o same y
  mode-ends event.Barrier d o same y = unended d o same y
  mode-ends event.Repair d o same y = unended d o same y
  mode-ends event.Discard d o same y = unended d o same y

  pub ends-failed : (e : Event) → is_over c.coordinator.mode ≡ false → (step P c e).0.coordinator.epoch ≡ c.coordinator.epoch
      → is_over (step P c e).0.coordinator.mode ≡ true → c.coordinator.mode ≡ mode.Failed
  ends-failed e o same y = mode-ends e (step P c e).0 o (inside-same e same) y
