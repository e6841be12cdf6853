-- What the logs of the places that retire say in a rebuild.
use Rattle.std.proofs.Common.{◌≡◌, ℕ, true, sym, ◌∙◌, subst}
use Rattle.std.specs.List.{All, AllByRecursion as Each}
use Rattle.std.proofs.lemmas.Bool.{and_parts}
use Rattle.std.proofs.lemmas.List.Elements.{All-from_recursion}
use Rattle.gr_base.specs.Rising.{has}
use Rattle.gr_base.specs.Places.{below}
use Rattle.gr_program.specs.Program.{Program}
use Rattle.gr_copies.specs.declared.view.RebuildView.{RebuildView}
use Rattle.gr_copies.specs.Granter.{is_retiring}
use Rattle.gr_log.specs.Directory.{directory_in}
use Rattle.gr_view.specs.Modes.{is_rebuild}
use Rattle.gr_rules.specs.Taken.{log_at}
use Rattle.gr_migrate.specs.Ends.{KnowsMaster, retiring, MastersKnown}
use Rattle.gr_cluster.specs.Tables.{Cluster, view_of}
use Rattle.gr_agree.specs.Truth.{Truth, held, held_at, true_entry, entries_at}
use Rattle.gr_agree.specs.Logs.{Sound}
use Rattle.gr_agree.specs.Agree.{Agree}
use Rattle.gr_lists.proofs.Each.{Each-has, Each-filter}
use Rattle.gr_lists.proofs.Any.{has-filter}
use Rattle.gr_lists.proofs.Maps.{Each-map}
use Rattle.gr_law_rebuilds.proofs.Rebuild.Logged.{IsSaid}
use Rattle.gr_law_rebuilds.proofs.Rebuild.Parties.{said-retiring}

module _ {V A : Type 0} (P : Program V A) (t : Truth V) (S : Sound P t) where
  entries-known : (r : ℕ) → Each KnowsMaster (entries_at t r)
  unfolding entries_at
  entries-known r = Each-map KnowsMaster (true_entry t) (held_at t r) (Each-filter (λ v. KnowsMaster (true_entry t v)) (held t r) t.vertices (Each-has _ t.vertices (λ v m. S.master_holds v m)))

module _ {V A : Type 0} (P : Program V A) (t : Truth V) (c : Cluster V A) (AG : Agree P t c) (rebuilding : is_rebuild c.coordinator.mode ≡ true) where
  abbrev w : RebuildView
  w = view_of P c

  retires : (r : ℕ) → has (retiring w) r ≡ true → is_retiring w r ≡ true
  retires r m = (and_parts (has (below w.places) r) (is_retiring w r) (sym (has-filter (is_retiring w) (below w.places) r) ∙ m)).1

  said-there : (r : ℕ) → has (retiring w) r ≡ true → IsSaid t r (log_at c.logs r).committed
  said-there r m = said-retiring P t c AG rebuilding r (retires r m)

  pub masters-known : MastersKnown w c.logs
  masters-known = All-from_recursion (λ r. All KnowsMaster (directory_in (log_at c.logs r).committed)) (retiring w) (Each-has _ (retiring w) (λ r m.
      All-from_recursion KnowsMaster (directory_in (log_at c.logs r).committed) (subst (Each KnowsMaster) (sym (said-there r m).entries) (entries-known P t AG.committed.sound r))))
