-- The Call body by its members: what is due next, and has a copy that names the place as its master and the receiver as a holder.
use Rattle.std.proofs.Common.{◌≡◌, ◌∙◌, ℕ, Bool, List, eqb, filter, sym}
use Rattle.std.specs.Prelude.{◌&&◌, ◌==◌}
use Rattle.std.specs.List.{list_any}
use Rattle.gr_base.specs.Rising.{RisesBy, has}
use Rattle.gr_base.proofs.Rising.{filter-rises, keys-rise}
use Rattle.gr_lists.proofs.Any.{list_any-and}
use Rattle.gr_lists.proofs.Numbers.{same-numbers}
use Rattle.gr_program.specs.declared.copy.VertexCopy.{VertexCopy}
use Rattle.gr_rules.specs.Rows.{row}
use Rattle.gr_rules.specs.Round.{call_body}
use Rattle.gr_signal.proofs.Called.{is_called, call-has}
use Rattle.gr_signal.proofs.Picked.{passes}
use Rattle.gr_signal.proofs.Selected.{vertex}

module _ {V : Type 0} (rows : List (VertexCopy V)) (p q : ℕ) where
  -- whether x is v, and p calls q for it once it is due
  abbrev pub is_call_of : ℕ → ℕ → Bool
  is_call_of v x = eqb x v && passes (is_called p q) (row rows v)

  pub call-any : RisesBy vertex rows → (next : List ℕ) (v : ℕ) → has (call_body next rows p q) v ≡ list_any (is_call_of v) next
  call-any rise next v = call-has next rows p q v rise ∙ sym (list_any-and (λ x. eqb x v) (passes (is_called p q) (row rows v)) next)

  call-rises : RisesBy vertex rows → (next : List ℕ) → RisesBy (λ (n : ℕ). n) (call_body next rows p q)
  unfolding call_body
  call-rises rise next =
      let t = λ (c : VertexCopy V). (c.master == p) && (has next c.vertex && has c.holders q) in
      keys-rise vertex (filter t rows) (filter-rises vertex t rows rise)

  -- a rising list with its members
  pub call-members : RisesBy vertex rows → (next body : List ℕ) → RisesBy (λ (n : ℕ). n) body → ((v : ℕ) → has body v ≡ list_any (is_call_of v) next) → body ≡ call_body next rows p q
  call-members rise next body r same = same-numbers body (call_body next rows p q) r (call-rises rise next) (λ v. same v ∙ sym (call-any rise next v))
