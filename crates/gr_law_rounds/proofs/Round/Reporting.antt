-- A report whose sum the committed state says keeps the invariant.
use Rattle.std.proofs.Common.{◌≡◌, ℕ, ◌+◌, ◌*◌, ◌<◌, ◌≤◌, List, true, false, ◌==◌, ◌&&◌, ◌||◌, length, refl, sym, ap, ◌∙◌, arith, Some, eq-eqb, ne_eqb}
use Rattle.std.specs.Prelude.{IsTrue, count_by}
use Rattle.std.proofs.Math.Bool.{and-true, or-false}
use Rattle.std.proofs.lemmas.Bool.{and_right, or_right, both_ways}
use Rattle.gr_base.specs.Rising.{has}
use Rattle.gr_base.specs.Places.{with_place}
use Rattle.gr_base.proofs.WithPlace.{has-with_place, IsPlaces-with}
use Rattle.gr_program.specs.Program.{Program}
use Rattle.gr_view.specs.Modes.{is_open, is_round, is_rebuild}
use Rattle.gr_view.specs.Decisions.{parties}
use Rattle.gr_rules.specs.AtPlace.{due_count}
use Rattle.gr_rules.specs.Todo.{Todo}
use Rattle.gr_cluster.specs.Tables.{Host, Cluster, host, log, with_host, view_of, wanted_in}
use Rattle.gr_cluster.specs.Work.{worked}
use Rattle.gr_agree.specs.Truth.{Truth}
use Rattle.gr_agree.specs.TrueRound.{active_next}
use Rattle.gr_agree.specs.Hosts.{progress}
use Rattle.gr_agree.specs.Agree.{Agree}
use Rattle.gr_lists.proofs.Tests.{by_same}
use Rattle.gr_law_rounds.specs.Network.{IsKept}
use Rattle.gr_law_rounds.proofs.Network.Frame.{within, host-with_host, host-with_host-other}
use Rattle.gr_law_rounds.proofs.Network.Same.{line-same}
use Rattle.gr_law_rounds.proofs.Round.InEpoch.{party, now, at-epoch, network-here, report-keeps}

module _ {V A : Type 0} (P : Program V A) (t : Truth V) (c : Cluster V A) (AG : Agree P t c) (p : ℕ) (h : Host V A) (at : host c p ≡ Some h)
    (le : c.coordinator.commits ≤ h.installed) (le' : c.coordinator.epoch ≤ h.epoch) (fresh : h.reported ≡ false) where
  pub not-yet : has c.coordinator.ready p ≡ false
  not-yet = AG.open_work.reports.ready p h at (party P t c AG p h at) ∙ (ap (λ b. (h.epoch == c.coordinator.epoch) && b) fresh ∙ and_right (h.epoch == c.coordinator.epoch) false refl)

  abbrev ready : List ℕ
  ready = with_place c.coordinator.ready p

  abbrev after : Host V A
  after = record h { reported = true }

  ready-after : (q : ℕ) (k : Host V A) → host (with_host p (Some after) c) q ≡ Some k → IsTrue (has (parties c.coordinator) q) → has ready q ≡ ((k.epoch == c.coordinator.epoch) && k.reported)
  ready-after q k is y = has-with_place c.coordinator.ready p q ∙ by_same q p
      (λ e. let same : Some after ≡ Some k = sym (host-with_host c p h after at) ∙ (ap (host (with_host p (Some after) c)) (sym e) ∙ is) in let same' : after ≡ k = cc in
      or_right (has c.coordinator.ready q) _ (eq-eqb p q (sym e)) ∙ (sym (now P t c AG p h at le le') ∙ (sym (and-true (h.epoch == c.coordinator.epoch)) ∙ ap (λ (x : Host V A). (x.epoch == c.coordinator.epoch) && x.reported) same')))
      (λ ne. ap (λ b. has c.coordinator.ready q || b) (ne_eqb p q (λ x. ne (sym x))) ∙ (or-false (has c.coordinator.ready q) ∙ AG.open_work.reports.ready q k (sym (host-with_host-other c p h after at q ne) ∙ is) y))

  inside : p < 64
  inside = let w = within c p h after at in let S = AG.committed.shaped in let a = S.hosts in let f = S.few in omega (arith, w, a, f)

  pub reported-kept : is_open c.coordinator.mode ≡ true → progress h ≡ 5 → (IsTrue (is_rebuild c.coordinator.mode) → IsTrue h.appended)
      → (IsTrue (is_round c.coordinator.mode) → c.coordinator.due + due_count p h.pending ≡ count_by (λ v. active_next P t v && has ready (t.master v)) t.vertices)
      → (IsTrue (is_rebuild c.coordinator.mode) → c.coordinator.due + due_count p h.pending ≤ length t.vertices * length ready)
      → IsKept P t c (worked P c p h Todo.Report).0
  unfolding worked
  reported-kept opened all appended due due_bounded =
      let E = at-epoch P t c AG p h at le le' in let co = c.coordinator in let l = log c p in
      report-keeps P t c AG p h at le le' after refl refl refl refl c.logs refl (λ q. refl) (λ q ne. refl) c.flight c.serial
      (line-same P (view_of P c) (wanted_in P c) t co co.ready co.due p h h.inbox h.sent h.appended true l l E.not_sent E.unsent_left E.needed E.tail E.not_torn (λ y. (all, appended)) E)
      (network-here P t c AG p h at after refl (λ q s. refl))
      ready (co.due + due_count p h.pending) (IsPlaces-with co.ready p inside AG.committed.shaped.ready)
      (record { ready = ready-after; none = λ e. absurd (both_ways _ e opened); due = due; due_bounded = due_bounded })
