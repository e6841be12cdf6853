-- A work of a place while a rebuild is open keeps the invariant.
use Rattle.std.proofs.Common.{◌≡◌, ℕ, true, false, refl, Option, Some, None}
use Rattle.gr_program.specs.Program.{Program}
use Rattle.gr_sched.specs.declared.event.Event.TheVariants as event
use Rattle.gr_view.specs.Modes.{is_over, is_rebuild}
use Rattle.gr_cluster.specs.Tables.{Host, Cluster, host}
use Rattle.gr_cluster.specs.Todo.{todo}
use Rattle.gr_cluster.specs.Work.{worked, worked_at}
use Rattle.gr_cluster.specs.Step.{step}
use Rattle.gr_agree.specs.Truth.{Truth}
use Rattle.gr_agree.specs.Agree.{Agree}
use Rattle.gr_lists.proofs.Tests.{by_test}
use Rattle.gr_law_rounds.specs.Network.{IsKept}
use Rattle.gr_law_rounds.proofs.Network.Kept.{kept-same}
use Rattle.gr_law_rebuilds.proofs.Rebuild.Todo.{case-todo}
use Rattle.gr_law_rounds.proofs.Round.Install.{install-kept, adopt-kept}
use Rattle.gr_law_rebuilds.proofs.Rebuild.InEpoch.{starts}
use Rattle.gr_law_rebuilds.proofs.Rebuild.Compute.{compute-kept}
use Rattle.gr_law_rebuilds.proofs.Rebuild.Send.{send-kept}
use Rattle.gr_law_rebuilds.proofs.Rebuild.Append.{append-kept}
use Rattle.gr_law_rebuilds.proofs.Rebuild.Report.{report-kept}

module _ {V A : Type 0} (P : Program V A) (t : Truth V) (c : Cluster V A) (AG : Agree P t c) (rebuilding : is_rebuild c.coordinator.mode ≡ true) where
  worked-kept : (p : ℕ) (h : Host V A) → host c p ≡ Some h → is_over c.coordinator.mode ≡ false → IsKept P t c (worked P c p h (todo c.coordinator p h)).0
  unfolding worked
  worked-kept p h at opened = case-todo c.coordinator p h rebuilding opened (λ x. IsKept P t c (worked P c p h x).0)
      (kept-same P t c AG)
      (λ s q. kept-same P t c AG)
      (λ lt. install-kept P t c AG p h at lt)
      (λ le lt. adopt-kept P t c AG p h at le lt (starts P t c AG rebuilding p h at))
      (λ le le' comp needs. compute-kept P t c AG rebuilding p h at le le' comp needs)
      (λ q le le' comp sends un. send-kept P t c AG rebuilding p h at le le' comp q un sends)
      (λ le le' comp end fresh. append-kept P t c AG rebuilding p h at le le' comp end fresh)
      (λ le le' comp end appended fresh. report-kept P t c AG rebuilding p h at le le' comp end appended fresh)

  worked_at-kept : (p : ℕ) (o : Option (Host V A)) → host c p ≡ o → is_over c.coordinator.mode ≡ false → IsKept P t c (worked_at P c p o).0
  worked_at-kept p None at opened = kept-same P t c AG
  worked_at-kept p (Some h) at opened = worked-kept p h at opened

  pub work-kept : (p : ℕ) → IsKept P t c (step P c (event.Work p)).0
  unfolding step
  work-kept p = by_test (is_over c.coordinator.mode)
      (λ e. rw e (kept-same P t c AG))
      (λ e. rw e (worked_at-kept p (host c p) refl e))
