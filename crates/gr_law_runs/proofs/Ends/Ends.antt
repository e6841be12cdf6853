-- How a whole run from load ends.
use Rattle.std.proofs.Common.{◌≡◌, ◌≢◌, ℕ, List, true, false, nat_lt, length, refl, sym, ap, ◌∙◌, subst, ◌⊎◌, inl, inr}
use Rattle.gr_base.specs.declared.records.Edge.{Edge}
use Rattle.gr_program.specs.Program.{Program}
use Rattle.gr_program.specs.Result.{done_text}
use Rattle.gr_sched.specs.declared.event.Line.{Line}
use Rattle.gr_view.specs.declared.coordinator.Mode.{Mode}
use Rattle.gr_view.specs.declared.coordinator.Mode.TheVariants as mode
use Rattle.gr_view.specs.Modes.{is_over}
use Rattle.gr_cluster.specs.Tables.{Cluster}
use Rattle.gr_cluster.specs.Load.{Setting, load}
use Rattle.gr_cluster.specs.Step.{lost_list}
use Rattle.gr_cluster.specs.Runs.{Played, Position, position_after}
use Rattle.gr_cluster.specs.Ending.{ending_by, ending_text}
use Rattle.gr_report.specs.Endings.{unfinished_text}
use Rattle.gr_agree.specs.Headline.{IsRunFromLoad, PrintsTheResult, NamesTheLost, TellsAnEarlyEnd, LosesNothingWithinBudget, FinishNeverEndsEarly, EndsAsItMust}
use Rattle.gr_law_runs.proofs.Runs.Finish.{after-finishes, whole-over}
use Rattle.gr_law_runs.specs.Ends.{StaysInItsGraph}
use Rattle.gr_law_runs.proofs.Ends.Directory.{lost-exact, directory-vertices, lost-not_live, others-held}
use Rattle.gr_law_runs.proofs.Ends.Found.{after-found, load-found}
use Rattle.gr_law_runs.proofs.Ends.Results.{done-result}
use Rattle.gr_law_runs.proofs.Ends.Runs.{run-stays}
use Rattle.gr_law_runs.proofs.Ends.Within.{never-lost}

over-ends : (m : Mode) → is_over m ≡ true → (m ≡ mode.Done) ⊎ (m ≡ mode.Lost)
over-ends mode.Done o = inl refl
over-ends mode.Lost o = inr refl
over-ends _ o = absurd (let bad : false ≡ true = o in cc)

module _ {V A : Type 0} (P : Program V A) (text : V → List ℕ) (s : Setting) (es : List Edge) (vs : List ℕ) (ls : List Line) (played : List (Played V A)) (end : Cluster V A) (R : IsRunFromLoad P s es vs ls played end) where
  abbrev start : Position V A
  start = record { cluster = load P s es vs; lines = ls }

  abbrev last : Position V A
  last = position_after P (length played) start

  stays : StaysInItsGraph P es vs s.limit end
  stays = subst (StaysInItsGraph P es vs s.limit) (sym R.run.last) (run-stays P R.laws s es vs R.setting R.graph ls R.lines (length played))

  prints-result : PrintsTheResult P text s es vs ls end
  prints-result done =
      let r = done-result P es vs s.limit end stays.agrees stays.limit done in
      ap (λ m. ending_text text end (ending_by end m)) done ∙ (λ i. done_text text (r.round i) (r.values i))

  names-lost : NamesTheLost P text s es vs ls end
  names-lost = record {
    told = λ m. ap (λ m. ending_text text end (ending_by end m)) m;
    exact = λ m. lost-exact P stays.agrees.state end stays.agrees.agrees;
    some = λ m none.
        let found = subst (λ c. c.coordinator.mode ≡ mode.Lost → nat_lt 0 (length (lost_list c)) ≡ true) (sym R.run.last) (after-found P (length played) start (load-found P s es vs)) m in
        let bad : false ≡ true = sym (ap (λ l. nat_lt 0 (length l)) none) ∙ found in cc;
    whole = directory-vertices P stays.agrees.state end stays.agrees.agrees ∙ stays.agrees.vertices;
    no_live_holder = λ m. lost-not_live P stays.agrees.state end stays.agrees.agrees;
    others_held = λ m. others-held P stays.agrees.state end stays.agrees.agrees;
  }

  early-by : (m : Mode) → m ≢ mode.Done → m ≢ mode.Lost → ending_text text end (ending_by end m) ≡ unfinished_text end.coordinator.round
  early-by mode.Done d l = absurd (d refl)
  early-by mode.Lost d l = absurd (l refl)
  early-by _ d l = refl

  tells-early : TellsAnEarlyEnd P text s es vs ls end
  tells-early = early-by end.coordinator.mode

  finish-ends : FinishNeverEndsEarly P text s es vs ls end
  finish-ends before is = over-ends end.coordinator.mode
      (ap (λ c. is_over c.coordinator.mode) R.run.last ∙ whole-over P last (after-finishes P (length played) start (inl (record { before = before; is = is }))) R.run.whole)

  loses-nothing : LosesNothingWithinBudget P text s es vs ls end
  loses-nothing within lost =
      never-lost P R.laws s es vs R.setting R.graph ls R.lines within (length played) (sym (ap (λ c. c.coordinator.mode) R.run.last) ∙ lost)

  pub ends-as-it-must : EndsAsItMust P text s es vs ls end
  ends-as-it-must = record { done = prints-result; lost = names-lost; early = tells-early; budget = loses-nothing; finish = finish-ends }
