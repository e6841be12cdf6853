-- Appending to a log in a rebuild keeps the invariant.
use Rattle.std.proofs.Common.{◌≡◌, ℕ, ◌<◌, ◌≤◌, [], ◌++◌, true, false, refl, ap, ◌∙◌, arith, Some, set, length, if◌then◌else◌}
use Rattle.std.proofs.lemmas.List.{length-set}
use Rattle.gr_program.specs.Program.{Program}
use Rattle.gr_log.specs.Log.{Log, with_records}
use Rattle.gr_batch.specs.declared.stage.Stage.TheVariants as stage
use Rattle.gr_batch.specs.Stages.{is_end}
use Rattle.gr_view.specs.Modes.{is_rebuild}
use Rattle.gr_rules.specs.Taken.{log_at}
use Rattle.gr_rules.specs.Todo.{Todo}
use Rattle.gr_cluster.specs.Tables.{Host, Cluster, host, log, view_of, wanted_in}
use Rattle.gr_cluster.specs.Place.{new_records}
use Rattle.gr_cluster.specs.Work.{worked}
use Rattle.gr_agree.specs.Truth.{Truth}
use Rattle.gr_agree.specs.Rebuilt.{true_records}
use Rattle.gr_agree.specs.Agree.{Agree}
use Rattle.gr_law_rounds.specs.Network.{IsKept}
use Rattle.gr_law_rounds.proofs.Network.Frame.{within}
use Rattle.gr_law_rounds.proofs.Network.Same.{log-here, log-elsewhere, committed-here, line-same}
use Rattle.gr_law_rounds.proofs.Round.AtPlace.{five}
use Rattle.gr_law_rounds.proofs.Round.InEpoch.{at-epoch, network-here, work-keeps}
use Rattle.gr_law_rebuilds.proofs.Rebuild.AtPlace.{records-here}
use Rattle.gr_law_rebuilds.proofs.Rebuild.InEpoch.{is-now, stable-is, needed-before}

module _ {V A : Type 0} (P : Program V A) (t : Truth V) (c : Cluster V A) (AG : Agree P t c) (rebuilding : is_rebuild c.coordinator.mode ≡ true) (p : ℕ) (h : Host V A) (at : host c p ≡ Some h)
    (le : c.coordinator.commits ≤ h.installed) (le' : c.coordinator.epoch ≤ h.epoch) (comp : h.computed ≡ true) (end : is_end h.stage ≡ true) where
  -- what it appends is what the committed state says
  appends : new_records P c p h ≡ true_records P (view_of P c) (wanted_in P c) t p
  appends = let done = five h comp end in
      records-here P t c AG rebuilding p h at (is-now P t c AG rebuilding p h at le le') (stable-is P t c AG rebuilding p h at le le').0
      (needed-before P t c AG rebuilding p h at le le' stage.Grant (omega (arith, done)) refl) (needed-before P t c AG rebuilding p h at le le' stage.End (omega (arith, done)) refl)

  pub append-kept : h.appended ≡ false → IsKept P t c (worked P c p h Todo.Append).0
  unfolding worked
  append-kept fresh =
      let E = at-epoch P t c AG p h at le le' in let done = five h comp end in let co = c.coordinator in
      let h' : Host V A = record h { appended = true } in
      let l : Log = with_records (new_records P c p h) (log c p) in
      let inside : p < length c.logs = (let w = within c p h h at in let a = AG.committed.shaped.hosts in let b = AG.committed.shaped.logs in omega (arith, w, a, b)) in
      let here = log-here c.logs p l inside in
      let none : (log c p).appended ≡ [] = E.tail ∙ ap (λ b. if b then true_records P (view_of P c) (wanted_in P c) t p else []) fresh in
      work-keeps P t c AG p h at le le' h' refl refl refl refl (set c.logs p l) (length-set c.logs p l) (committed-here c.logs p l inside refl) (log-elsewhere c.logs p l inside) c.flight c.serial
      (line-same P (view_of P c) (wanted_in P c) t co co.ready co.due p h h.inbox h.sent true h.reported (log c p) (log_at (set c.logs p l) p) E.not_sent E.unsent_left E.needed
      (ap (λ (l : Log). l.appended) here ∙ (λ i. none i ++ appends i)) (ap (λ (l : Log). l.torn) here ∙ E.not_torn) (λ y. (done, (λ r. refl))) E)
      (network-here P t c AG p h at h' refl (λ q s. refl))
      refl
