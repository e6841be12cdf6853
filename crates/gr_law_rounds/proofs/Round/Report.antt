-- The report of a place in a round keeps the invariant.
use Rattle.std.proofs.Common.{◌≡◌, ℕ, ◌+◌, ◌≤◌, List, Bool, true, false, ◌==◌, ◌&&◌, ◌||◌, refl, sym, ap, ◌∙◌, arith, Some, eqb-true}
use Rattle.std.specs.Prelude.{count_by}
use Rattle.std.proofs.lemmas.Bool.{and_left, and_right, both_ways}
use Rattle.gr_base.specs.Rising.{has}
use Rattle.gr_base.specs.Places.{with_place}
use Rattle.gr_program.specs.declared.copy.VertexCopy.{VertexCopy}
use Rattle.gr_program.specs.Program.{Program}
use Rattle.gr_program.specs.ProgramLaws.{ProgramLaws}
use Rattle.gr_batch.specs.Stages.{is_end}
use Rattle.gr_view.specs.declared.coordinator.Mode.TheVariants as mode
use Rattle.gr_view.specs.Modes.{is_open, is_round, is_rebuild}
use Rattle.gr_rules.specs.AtPlace.{due_count}
use Rattle.gr_rules.specs.Todo.{Todo}
use Rattle.gr_cluster.specs.Tables.{Host, Cluster, host}
use Rattle.gr_cluster.specs.Work.{worked}
use Rattle.gr_agree.specs.Truth.{Truth, held}
use Rattle.gr_agree.specs.TrueRound.{active_next, copy_staged, staged}
use Rattle.gr_agree.specs.Agree.{Agree}
use Rattle.gr_lists.proofs.Tests.{by_test}
use Rattle.gr_lists.proofs.Any.{eqb-sym}
use Rattle.gr_lists.proofs.Each.{Each-always, Each-has}
use Rattle.gr_lists.proofs.Counts.{count_by-or, count_by-map-filter}
use Rattle.gr_base.proofs.WithPlace.{has-with_place}
use Rattle.gr_law_rounds.proofs.Bodies.Rows.{held-here}
use Rattle.gr_law_rounds.specs.Network.{IsKept}
use Rattle.gr_law_rounds.proofs.Round.Running.{steady-here}
use Rattle.gr_law_rounds.proofs.Round.AtPlace.{five}
use Rattle.gr_law_rounds.proofs.Round.Reporting.{not-yet, reported-kept}
use Rattle.gr_law_rounds.proofs.Round.Compute.{pending-here}

module _ {V A : Type 0} (P : Program V A) (t : Truth V) (c : Cluster V A) (L : ProgramLaws P) (AG : Agree P t c) (no_rebuild : is_rebuild c.coordinator.mode ≡ false) (running : c.coordinator.mode ≡ mode.Running)
    (p : ℕ) (h : Host V A) (at : host c p ≡ Some h) (le : c.coordinator.commits ≤ h.installed) (le' : c.coordinator.epoch ≤ h.epoch) (comp : h.computed ≡ true) (fresh : h.reported ≡ false) (end : is_end h.stage ≡ true) where
  -- the due vertices that p masters
  due-here : due_count p h.pending ≡ count_by (λ v. (t.master v == p) && active_next P t v) t.vertices
  unfolding staged
  due-here = ap (count_by (λ (r : VertexCopy V). (r.master == p) && r.due)) (pending-here P t c L AG no_rebuild running p h at le le' ∙ ap (staged P t p) (five h comp end))
      ∙ count_by-map-filter _ (copy_staged P t p 5) (held t p) _ t.vertices (Each-has _ t.vertices (λ v there. (
        (λ e. refl),
        (λ e. by_test (t.master v == p)
            (λ m. absurd (both_ways _ e (held-here P t p L AG.committed.sound (steady-here P t c AG no_rebuild L) v there (eqb-true (t.master v) p m))))
            (λ m. rw m refl)),
      )))

  abbrev ready : List ℕ
  ready = with_place c.coordinator.ready p

  due-after : c.coordinator.due + due_count p h.pending ≡ count_by (λ v. active_next P t v && has ready (t.master v)) t.vertices
  due-after =
      let mine = due-here in let before = AG.open_work.reports.due (ap is_round running) in
      let split = count_by-or (λ v. active_next P t v && has ready (t.master v)) (λ v. active_next P t v && has c.coordinator.ready (t.master v)) (λ v. (t.master v == p) && active_next P t v) t.vertices
      (Each-always _ (λ v. (
        ap (λ b. active_next P t v && b) (has-with_place c.coordinator.ready p (t.master v) ∙ ap (λ b. has c.coordinator.ready (t.master v) || b) (eqb-sym p (t.master v))) ∙ spread (active_next P t v) (has c.coordinator.ready (t.master v)) (t.master v == p),
        by_test (t.master v == p)
            (λ e. let none : has c.coordinator.ready (t.master v) ≡ false = ap (has c.coordinator.ready) (eqb-true (t.master v) p e) ∙ not-yet P t c AG p h at le le' fresh in and_left _ _ (ap (λ b. active_next P t v && b) none ∙ and_right (active_next P t v) false refl))
            (λ e. and_right (active_next P t v && has c.coordinator.ready (t.master v)) _ (and_left _ _ e)),
      )) t.vertices) in omega (arith, mine, before, split)
    where
      spread : (a r m : Bool) → (a && (r || m)) ≡ ((a && r) || (m && a))
      spread true true m = refl
      spread true false true = refl
      spread true false false = refl
      spread false r m = sym (and_right m false refl)

  pub report-kept : IsKept P t c (worked P c p h Todo.Report).0
  report-kept = reported-kept P t c AG p h at le le' fresh (ap is_open running) (five h comp end)
      (λ r. absurd (both_ways _ no_rebuild r)) (λ y. due-after) (λ y. absurd (both_ways _ no_rebuild y))
