-- The report of a place in a rebuild keeps the invariant.
use Rattle.std.proofs.Common.{◌≡◌, ℕ, ◌+◌, ◌*◌, ◌≤◌, List, true, false, length, sym, ◌∙◌, subst, Some}
use Rattle.std.proofs.lemmas.Bool.{both_ways}
use Rattle.gr_base.specs.Places.{with_place}
use Rattle.gr_program.specs.Program.{Program}
use Rattle.gr_batch.specs.Stages.{is_end}
use Rattle.gr_view.specs.Modes.{is_rebuild}
use Rattle.gr_rules.specs.AtPlace.{due_count}
use Rattle.gr_rules.specs.Todo.{Todo}
use Rattle.gr_cluster.specs.Tables.{Host, Cluster, host, view_of, wanted_in}
use Rattle.gr_cluster.specs.Work.{worked}
use Rattle.gr_agree.specs.Truth.{Truth}
use Rattle.gr_agree.specs.Hosts.{pending_rows}
use Rattle.gr_agree.specs.Agree.{Agree}
use Rattle.gr_law_rounds.specs.Network.{IsKept}
use Rattle.gr_law_rounds.proofs.Round.AtPlace.{five}
use Rattle.gr_law_rounds.proofs.Round.Reporting.{not-yet, reported-kept}
use Rattle.gr_law_rebuilds.proofs.Rebuild.Counting.{length-with_place, due-more, due-bounded}
use Rattle.gr_law_rebuilds.proofs.Rebuild.InEpoch.{the-mode, at-epoch}

module _ {V A : Type 0} (P : Program V A) (t : Truth V) (c : Cluster V A) (AG : Agree P t c) (rebuilding : is_rebuild c.coordinator.mode ≡ true) (p : ℕ) (h : Host V A) (at : host c p ≡ Some h)
    (le : c.coordinator.commits ≤ h.installed) (le' : c.coordinator.epoch ≤ h.epoch) (comp : h.computed ≡ true) (end : is_end h.stage ≡ true) (appended : h.appended ≡ true) (fresh : h.reported ≡ false) where
  -- its due copies are no more than the vertices
  due-here : due_count p h.pending ≤ length t.vertices
  due-here =
      let E = at-epoch P t c AG rebuilding p h at le le' in
      subst (λ rows. due_count p rows ≤ length t.vertices)
      (sym (E.rows ∙ ((λ i. pending_rows P (view_of P c) (wanted_in P c) t p (five h comp end i) (rebuilding i)))))
      (due-bounded P t AG.committed.sound (view_of P c) (wanted_in P c) p)

  abbrev ready : List ℕ
  ready = with_place c.coordinator.ready p

  due-after : c.coordinator.due + due_count p h.pending ≤ length t.vertices * length ready
  due-after = subst (λ k. c.coordinator.due + due_count p h.pending ≤ length t.vertices * k) (sym (length-with_place c.coordinator.ready p AG.committed.shaped.ready.rise (not-yet P t c AG p h at le le' fresh)))
      (due-more (length t.vertices) c.coordinator.due (due_count p h.pending) (length c.coordinator.ready) (AG.open_work.reports.due_bounded rebuilding) due-here)

  pub report-kept : IsKept P t c (worked P c p h Todo.Report).0
  report-kept = let M = the-mode P t c AG rebuilding p h at in
      reported-kept P t c AG p h at le le' fresh M.open_mode (five h comp end) (λ r. appended) (λ y. absurd (both_ways _ M.not_round y)) (λ y. due-after)
