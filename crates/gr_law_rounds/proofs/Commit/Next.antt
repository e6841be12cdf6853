-- The committed state after a round, and what the places have staged of it.
use Rattle.std.proofs.Common.{◌≡◌, ℕ, suc, ◌+◌, arith, Bool, true, false, not, ◌&&◌, ◌||◌, ◌==◌, refl, ap, ◌∙◌, Option, Some, None, if◌then◌else◌}
use Rattle.gr_program.specs.Program.{Program}
use Rattle.gr_program.specs.Rounds.{state_after, after_round}
use Rattle.gr_agree.specs.Truth.{Truth, edge_list, held, arcs_at, entries_at, hidden, copy_at, rows_at}
use Rattle.gr_agree.specs.TrueRound.{value_next, next, copy_staged, staged}
use Rattle.gr_agree.specs.Logs.{Sound}
use Rattle.gr_lists.proofs.Each.{Each-always}
use Rattle.gr_lists.proofs.Selections.{map-filter-agree}

module _ {V A : Type 0} (P : Program V A) (t : Truth V) where
  value : (h m k : Bool) (x y : V) → (if h then (if true && m then Some y else if m && k then Some x else None) else Some (if (true && m) || true then y else x)) ≡ (if h && not (m && true) then None else Some y)
  value true true k x y = refl
  value true false true x y = refl
  value true false false x y = refl
  value false true k x y = refl
  value false false k x y = refl

  -- what the last stage stages is what the next round starts from
  pub staged-next : (p : ℕ) → staged P t p 5 ≡ rows_at P (next P t) p
  unfolding staged rows_at after_round
  staged-next p = map-filter-agree (copy_staged P t p 5) (copy_at P (next P t) p) (held t p) t.vertices (Each-always _ (λ v e.
      ap (λ (o : Option V). record (copy_at P (next P t) p v) { value = o }) (value (hidden P t v) (t.master v == p) (t.kept v) (t.state.value v) (value_next P t v))) t.vertices)

  pub arcs-next : (p : ℕ) → arcs_at t p ≡ arcs_at (next P t) p
  unfolding arcs_at
  arcs-next p = refl

  pub entries-next : (p : ℕ) → entries_at t p ≡ entries_at (next P t) p
  unfolding entries_at
  entries-next p = refl

  pub state-next : (r : ℕ) → t.state ≡ state_after P (edge_list t) r → (next P t).state ≡ state_after P (edge_list t) (r + 1)
  unfolding state_after after_round
  state-next r is = let one : suc r ≡ r + 1 = omega arith in ap (after_round P (edge_list t)) is ∙ ap (state_after P (edge_list t)) one

  pub sound-next : Sound P t → Sound P (next P t)
  sound-next S = record {
    rise = S.rise;
    few = S.few;
    ids = S.ids;
    numbers = S.numbers;
    sources = S.sources;
    targets = S.targets;
    sources_held = S.sources_held;
    targets_held = S.targets_held;
    holders = S.holders;
    master_holds = S.master_holds;
    active_due = λ v e. e;
    due_active = λ v e. refl;
    not_due_kept = λ v e. refl;
  }
