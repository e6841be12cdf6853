-- The results of a cluster that is done are the values of its committed state.
use Rattle.std.proofs.Common.{◌≡◌, ℕ, List, [], Bool, true, false, ◌||◌, nat_lt, refl, sym, ◌∙◌, length, ltb-true, if◌then◌else◌}
use Rattle.std.specs.Prelude.{IsTrue}
use Rattle.std.specs.List.{AllByRecursion as Each}
use Rattle.std.proofs.Math.Bool.{or-false}
use Rattle.gr_base.specs.declared.records.Edge.{Edge}
use Rattle.gr_base.specs.Rising.{has}
use Rattle.gr_base.specs.Places.{below}
use Rattle.gr_base.proofs.Union.{has-union}
use Rattle.gr_program.specs.Program.{Program}
use Rattle.gr_program.specs.ProgramLaws.{ProgramLaws}
use Rattle.gr_sched.specs.declared.event.Event.{Event}
use Rattle.gr_view.specs.declared.coordinator.Mode.TheVariants as mode
use Rattle.gr_cluster.specs.Tables.{Cluster}
use Rattle.gr_cluster.specs.Load.{Setting, load}
use Rattle.gr_agree.specs.Accepted.{IsGraph, IsSetting}
use Rattle.gr_agree.specs.FirstTruth.{first_truth}
use Rattle.gr_law_rounds.proofs.Load.Ranges.{has-below}
use Rattle.gr_law_rounds.proofs.Load.Load.{load-agrees, same-edges, up-at}
use Rattle.gr_law_runs.specs.Runs.{after_events, HasResult}
use Rattle.gr_law_runs.specs.Undisturbed.{is_plain, is_undisturbed}
use Rattle.gr_law_runs.proofs.Ends.Results.{done-result}
use Rattle.gr_law_runs.proofs.Runs.Plain.{IsUndisturbed, run-undisturbed}

-- a cluster of this graph that is undisturbed and done has the result
pub undisturbed-result : {V A : Type 0} (P : Program V A) (es : List Edge) (vs : List ℕ) (limit : ℕ) (c : Cluster V A) → IsUndisturbed P es vs limit c → c.coordinator.mode ≡ mode.Done → HasResult P es vs limit c
undisturbed-result P es vs limit c U = done-result P es vs limit c (record { state = U.state; agrees = U.agrees; edges = U.edges; vertices = U.vertices }) U.limit

module _ {V A : Type 0} (P : Program V A) (L : ProgramLaws P) (s : Setting) (es : List Edge) (vs : List ℕ) (IS : IsSetting s) (IG : IsGraph es vs) where
  -- a loaded cluster is undisturbed
  pub load-undisturbed : IsUndisturbed P es vs s.limit (load P s es vs)
  unfolding load
  load-undisturbed = record {
    state = first_truth P s es vs;
    agrees = load-agrees P s es vs IS IG;
    edges = same-edges P s es vs IS IG;
    vertices = refl;
    mode = on-or-done (nat_lt 0 (length vs));
    limit = refl;
    none_retired = refl;
    all_up = λ p m. up-at P s es vs IS IG p (ltb-true p s.places (sym (has-below s.places p) ∙ (live p (sym (has-union p (below s.places) []) ∙ m))));
  }
    where
      on-or-done : (b : Bool) → is_undisturbed (if b then mode.Running else mode.Done) ≡ true
      on-or-done true = refl
      on-or-done false = refl

      live : (p : ℕ) → (has (below s.places) p || false) ≡ true → has (below s.places) p ≡ true
      live p e = sym (or-false (has (below s.places) p)) ∙ e

  pub plain-result : (events : List Event) → Each (λ e. IsTrue (is_plain e)) events → (after_events P events (load P s es vs)).coordinator.mode ≡ mode.Done → HasResult P es vs s.limit (after_events P events (load P s es vs))
  plain-result events plain done =
      undisturbed-result P es vs s.limit (after_events P events (load P s es vs)) (run-undisturbed P L es vs s.limit events plain (load P s es vs) load-undisturbed) done
