-- What is known of every cluster, and that each event keeps it.
use Rattle.std.proofs.Common.{◌≡◌, ◌∙◌, ◌<◌, ℕ, false, refl, sym, ap, subst, List, length, set, Option, Some, None, Result, Ok, Err}
use Rattle.std.specs.Prelude.{IfOk, OnErr}
use Rattle.gr_program.specs.Program.{Program}
use Rattle.gr_program.specs.ProgramLaws.{ProgramLaws}
use Rattle.gr_copies.specs.declared.view.RebuildView.{RebuildView}
use Rattle.gr_log.specs.Log.{Log, cut_log}
use Rattle.gr_rules.specs.Taken.{Ends, log_at}
use Rattle.gr_migrate.specs.Ends.{retired_edges}
use Rattle.gr_migrate.proofs.RetiredParts.{retired-set}
use Rattle.gr_batch.specs.declared.outcome.Outcome.{Outcome}
use Rattle.gr_sched.specs.declared.event.Event.{Event}
use Rattle.gr_view.specs.Modes.{is_over}
use Rattle.gr_cluster.specs.Tables.{Cluster}
use Rattle.gr_cluster.specs.Step.{step}
use Rattle.gr_agree.specs.Accepted.{NamesPlaces}
use Rattle.gr_law_runs.proofs.Runs.Plain.{round-below}
use Rattle.gr_law_runs.proofs.Ends.Events.{invariant-after}
use Rattle.gr_core.specs.Tables.{Agrees, RetiredFit}

module _ {V A : Type 0} (P : Program V A) (L : ProgramLaws P) (c : Cluster V A) (K : Agrees P c) where
  -- every event keeps it
  pub keeps : (e : Event) → NamesPlaces e → Agrees P (step P c e).0
  keeps e names = let I = (invariant-after P L K.state c K.holds e names).0 in record { state = I.0; holds = I.1 }

  -- until the run is over the committed rounds are below the limit
  pub rounds-below : is_over c.coordinator.mode ≡ false → c.coordinator.round < c.coordinator.limit
  rounds-below o = round-below P K.state c K.holds o

-- what a step makes of a cluster is kept
module _ {V A : Type 0} {P : Program V A} {c : Cluster V A} (K : Agrees P c) (L : ProgramLaws P) (e : Event) (names : NamesPlaces e) {d : Cluster V A} {o : Outcome V A} where
  pub keeps-step : (d, o) ≡ step P c e → Agrees P d
  keeps-step is = subst (λ (x : Cluster V A × Outcome V A). Agrees P x.0) (sym is) (keeps P L c K e names)

-- what a call leaves that steps or fails is kept
pub keeps-stepped : {V A E : Type 0} (P : Program V A) (c d : Cluster V A) (s : Cluster V A × Outcome V A) (r : Result (Outcome V A) E)
    → IfOk r (λ o. (d, o) ≡ s) → OnErr r (d ≡ c) → Agrees P c → Agrees P s.0 → Agrees P d
keeps-stepped P c d s (Ok o) is kept old new = subst (λ x. Agrees P x.0) (sym is) new
keeps-stepped P c d s (Err e) is kept old new = subst (Agrees P) (sym kept) old

-- the edges of places that retire are kept if they stay the same
pub fit-same : (w v : RebuildView) (logs after : List Log) (r : Option (List Ends)) → retired_edges v after ≡ retired_edges w logs → RetiredFit w logs r → RetiredFit v after r
fit-same w v logs after None same fit = tt
fit-same w v logs after (Some edges) same fit = fit ∙ sym same

-- a cut tail was not committed
pub cut-fits : (w : RebuildView) (logs : List Log) (p : ℕ) {after : List Log} → p < length logs → after ≡ set logs p (cut_log (log_at logs p)) → (r : Option (List Ends)) → RetiredFit w logs r → RetiredFit w after r
cut-fits w logs p lt is r fit = fit-same w w logs _ r (ap (retired_edges w) is ∙ retired-set w logs p (cut_log (log_at logs p)) lt refl) fit
