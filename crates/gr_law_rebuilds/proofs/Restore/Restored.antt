-- The committed state after a rebuild is sound.
use Rattle.std.proofs.Common.{◌<◌, ℕ, not, ◌||◌, ap, ◌∙◌, arith}
use Rattle.std.proofs.Math.Bool.{or-false}
use Rattle.std.proofs.lemmas.Bool.{and_from, and_left, or_left, or_parts}
use Rattle.std.proofs.lemmas.List.Elements.{All-filter, All-from_recursion}
use Rattle.gr_base.specs.Places.{IsPlaces, below}
use Rattle.gr_base.proofs.Rising.{filter-rises}
use Rattle.gr_base.proofs.Ranges.{range-rises, range-within}
use Rattle.gr_program.specs.Program.{Program}
use Rattle.gr_copies.specs.declared.view.RebuildView.{RebuildView}
use Rattle.gr_rules.specs.Grants.{is_new_holder, new_holders}
use Rattle.gr_agree.specs.Truth.{Truth, true_entry}
use Rattle.gr_agree.specs.Rebuilt.{true_askers, is_orphan, rebuilt}
use Rattle.gr_agree.specs.Logs.{Sound}
use Rattle.gr_lists.proofs.Each.{Each-has}
use Rattle.gr_law_rebuilds.proofs.Restore.Fits.{Fits}
use Rattle.gr_law_rebuilds.proofs.Restore.Holders.{master-holds}
use Rattle.gr_law_rebuilds.proofs.Restore.Takers.{sources-held, targets-held}

module _ {V A : Type 0} (P : Program V A) (w : RebuildView) (want : ℕ) (t : Truth V) (F : Fits w t) (S : Sound P t) where
  holders-places : (v : ℕ) → IsPlaces (new_holders w want (true_entry t v) (true_askers w t v))
  unfolding new_holders
  holders-places v = record {
    rise = filter-rises (λ q. q) (is_new_holder w want (true_entry t v) (true_askers w t v)) (below w.places) (range-rises 0 w.places);
    below = All-filter (is_new_holder w want (true_entry t v) (true_askers w t v)) (λ q. q < 64) (below w.places)
        (All-from_recursion (λ q. q < 64) (below w.places) (Each-has (λ q. q < 64) (below w.places) (λ q m. let lt = range-within 0 w.places q m in let few = F.few in omega (arith, lt, few))));
  }

  pub sound-rebuilt : Sound P (rebuilt P w want t)
  sound-rebuilt = record {
    rise = S.rise;
    few = S.few;
    ids = S.ids;
    numbers = S.numbers;
    sources = S.sources;
    targets = S.targets;
    sources_held = sources-held P w want t F S;
    targets_held = targets-held P w want t F S;
    holders = λ v there. holders-places v;
    master_holds = λ v there. master-holds P w want t F v there;
    active_due = λ v e. or_left _ _ (S.active_due v e);
    due_active = λ v e. ap (λ b. t.due v || b) (and_left _ _ e) ∙ (or-false (t.due v) ∙ S.due_active v e);
    not_due_kept = λ v e. let k = or_parts (t.due v) (is_orphan P w want t v) e in and_from _ _ (S.not_due_kept v k.0) (ap not k.1);
  }
