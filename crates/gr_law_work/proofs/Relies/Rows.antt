-- What the stable copies of a party meet.
use Rattle.std.proofs.Common.{◌≡◌, ◌<◌, ◌^◌, ℕ, true, ◌&&◌, map, filter}
use Rattle.std.specs.List.{AllByRecursion as Each}
use Rattle.gr_base.specs.Rising.{has}
use Rattle.gr_program.specs.declared.copy.VertexCopy.{VertexCopy}
use Rattle.gr_program.specs.Program.{Program}
use Rattle.gr_copies.specs.declared.view.RebuildView.{RebuildView}
use Rattle.gr_rules.specs.Rows.{blank_copy, entry}
use Rattle.gr_migrate.specs.Ends.{KnowsMaster}
use Rattle.gr_agree.specs.Truth.{Truth, held, held_at, true_entry, entries_at, copy_at, rows_at}
use Rattle.gr_agree.specs.Logs.{Sound}
use Rattle.gr_agree.specs.Rebuilt.{rebuilt, true_grants, is_granted_at, stable_at}
use Rattle.gr_rules.specs.Taken.{is_granter}
use Rattle.gr_lists.proofs.Tests.{by_test}
use Rattle.gr_lists.proofs.Each.{Each-has, Each-filter}
use Rattle.gr_lists.proofs.Chosen.{Each-passing}
use Rattle.gr_lists.proofs.Maps.{Each-map}
use Rattle.gr_law_work.specs.InRebuild.{HasId}
use Rattle.gr_law_work.proofs.Relies.Lists.{has-meets}

module _ {V A : Type 0} (P : Program V A) (t : Truth V) (p : ℕ) (Q : VertexCopy V → Type 0) where
  -- what each copy meets of a vertex that p holds
  pub rows-meet : ((v : ℕ) → has t.vertices v ≡ true → held t p v ≡ true → Q (copy_at P t p v)) → Each Q (rows_at P t p)
  unfolding rows_at
  rows-meet f = Each-map Q (copy_at P t p) (held_at t p) (Each-passing (λ v. Q (copy_at P t p v)) (held t p) t.vertices (Each-has _ t.vertices (λ v m k. f v m k)))

  blanks-meet : ((v : ℕ) → has t.vertices v ≡ true → Q (blank_copy (true_entry t v))) → Each Q (map blank_copy (entries_at t p))
  unfolding entries_at
  blanks-meet f = Each-map Q blank_copy (map (true_entry t) (held_at t p)) (Each-map (λ e. Q (blank_copy e)) (true_entry t) (held_at t p)
      (Each-filter (λ v. Q (blank_copy (true_entry t v))) (held t p) t.vertices (Each-has _ t.vertices f)))

  stable-meets : (w : RebuildView) (want : ℕ) → ((v : ℕ) → has t.vertices v ≡ true → Q (copy_at P t p v)) → ((v : ℕ) → has t.vertices v ≡ true → Q (blank_copy (true_entry t v))) → Each Q (stable_at P w want t p)
  stable-meets w want f g = by_test (has w.reborn p)
      (λ r. rw r (blanks-meet g))
      (λ r. rw r (rows-meet (λ v m k. f v m)))

module _ {V A : Type 0} (P : Program V A) (t : Truth V) (S : Sound P t) (w : RebuildView) (want : ℕ) where
  pub masters-hold : (p : ℕ) → Each (λ k. KnowsMaster (entry k)) (stable_at P w want t p)
  masters-hold p = stable-meets P t p (λ k. KnowsMaster (entry k)) w want S.master_holds S.master_holds

  ids-there : (v : ℕ) → has t.vertices v ≡ true → v < 2 ^ 32
  ids-there v m = has-meets (λ v. v < 2 ^ 32) t.vertices v S.ids m

  pub stable-ids : (p : ℕ) → Each HasId (stable_at P w want t p)
  stable-ids p = stable-meets P t p HasId w want ids-there ids-there

  -- the copies that p grants to q
  pub grants-ids : (p q : ℕ) → Each HasId (true_grants P w want t p q)
  unfolding true_grants
  grants-ids p q = Each-map HasId (copy_at P (rebuilt P w want t) q) (filter (λ v. is_granter w (true_entry t v) p && is_granted_at P w want t q v) t.vertices)
      (Each-filter (λ v. v < 2 ^ 32) (λ v. is_granter w (true_entry t v) p && is_granted_at P w want t q v) t.vertices S.ids)
