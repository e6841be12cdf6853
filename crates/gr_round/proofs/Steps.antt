-- What a place does next, by how far it is.
use Rattle.std.proofs.Common.{◌≡◌, ◌∙◌, ℕ, Bool, true, false, List, Option, Some, None, refl, sym, ap, subst, inl, inr}
use Rattle.std.specs.Prelude.{not, ◌↔◌, ◌&&◌, ◌||◌, IsTrue, IsSome}
use Rattle.std.proofs.lemmas.Bool.{cases_Bool, true≢false}
use Rattle.gr_batch.specs.declared.batch.Batch.{Batch}
use Rattle.gr_batch.specs.Stages.{is_end}
use Rattle.gr_batch.specs.declared.stage.Stage.{Stage}
use Rattle.gr_rules.specs.Inbox.{missing}
use Rattle.gr_rules.specs.Exchange.{Exchange, needed, unsent}
use Rattle.gr_rules.specs.Todo.{Todo, compute_or_wait, send_or_rest}
use Rattle.gr_round.specs.Todo.{todo_in_round}
use Rattle.gr_round.specs.Line.{is_line}
use Rattle.gr_round.specs.Todo.{todo_in_rebuild, AwaitsSending}

module _ {V A : Type 0} (inbox : List (Batch V A)) (e : ℕ) (others : List ℕ) (x : Exchange) (reported : Bool) where
  pub todo-computes : not x.computed ≡ true → todo_in_round inbox e others x reported ≡ compute_or_wait inbox e others (needed false x.stage)
  unfolding todo_in_round
  todo-computes h = rw h refl

  pub todo-sends : not x.computed ≡ false → not (is_end x.stage) ≡ true → todo_in_round inbox e others x reported ≡ send_or_rest (unsent others x.sent)
  unfolding todo_in_round
  todo-sends h i = rw (h, i) refl

  pub todo-reports : not x.computed ≡ false → not (is_end x.stage) ≡ false → not reported ≡ true → todo_in_round inbox e others x reported ≡ Todo.Report
  unfolding todo_in_round
  todo-reports h i r = rw (h, i, r) refl

  pub todo-rests : not x.computed ≡ false → not (is_end x.stage) ≡ false → not reported ≡ false → todo_in_round inbox e others x reported ≡ Todo.Rest
  unfolding todo_in_round
  todo-rests h i r = rw (h, i, r) refl

-- the same in a rebuild
module _ {V A : Type 0} (inbox : List (Batch V A)) (e : ℕ) (others : List ℕ) (x : Exchange) (appended reported : Bool) where
  pub rebuild-computes : not x.computed ≡ true → todo_in_rebuild inbox e others x appended reported ≡ compute_or_wait inbox e others (needed true x.stage)
  unfolding todo_in_rebuild
  rebuild-computes h = rw h refl

  pub rebuild-sends : not x.computed ≡ false → not (is_end x.stage) ≡ true → todo_in_rebuild inbox e others x appended reported ≡ send_or_rest (unsent others x.sent)
  unfolding todo_in_rebuild
  rebuild-sends h i = rw (h, i) refl

  pub rebuild-appends : not x.computed ≡ false → not (is_end x.stage) ≡ false → not appended ≡ true → todo_in_rebuild inbox e others x appended reported ≡ Todo.Append
  unfolding todo_in_rebuild
  rebuild-appends h i a = rw (h, i, a) refl

  pub rebuild-reports : not x.computed ≡ false → not (is_end x.stage) ≡ false → not appended ≡ false → not reported ≡ true → todo_in_rebuild inbox e others x appended reported ≡ Todo.Report
  unfolding todo_in_rebuild
  rebuild-reports h i a r = rw (h, i, a, r) refl

  pub rebuild-rests : not x.computed ≡ false → not (is_end x.stage) ≡ false → not appended ≡ false → not reported ≡ false → todo_in_rebuild inbox e others x appended reported ≡ Todo.Rest
  unfolding todo_in_rebuild
  rebuild-rests h i a r = rw (h, i, a, r) refl

-- ---- what is known of the exchange by what is next

wait-rest : (s : Stage) (o : Option ℕ) → (elim o [ None ↦ Todo.Compute | Some q ↦ Todo.Wait s q ]) ≡ Todo.Rest → ⊥
wait-rest s None is = cc
wait-rest s (Some q) is = cc

wait-report : (s : Stage) (o : Option ℕ) → (elim o [ None ↦ Todo.Compute | Some q ↦ Todo.Wait s q ]) ≡ Todo.Report → ⊥
wait-report s None is = cc
wait-report s (Some q) is = cc

sends-compute : (o : Option ℕ) → send_or_rest o ≡ Todo.Compute → ⊥
sends-compute None is = cc
sends-compute (Some q) is = cc

sends-report : (o : Option ℕ) → send_or_rest o ≡ Todo.Report → ⊥
sends-report None is = cc
sends-report (Some q) is = cc

sends-rest : (o : Option ℕ) → IsSome o → send_or_rest o ≡ Todo.Rest → ⊥
sends-rest None s is = true≢false (sym s)
sends-rest (Some q) s is = cc

reports-rest : Todo.Report ≡ Todo.Rest → ⊥
reports-rest is = cc

module _ {V A : Type 0} (inbox : List (Batch V A)) (e : ℕ) (others : List ℕ) where
  waits-rest : (s : Option Stage) → compute_or_wait inbox e others s ≡ Todo.Rest → ⊥
  waits-rest None is = cc
  waits-rest (Some s) is = wait-rest s (missing inbox e s others) is

  waits-report : (s : Option Stage) → compute_or_wait inbox e others s ≡ Todo.Report → ⊥
  waits-report None is = cc
  waits-report (Some s) is = wait-report s (missing inbox e s others) is

  module _ (x : Exchange) (reported : Bool) where
    -- a stage is computed only once
    pub computes-new : todo_in_round inbox e others x reported ≡ Todo.Compute → x.computed ≡ false
    computes-new is = elim (cases_Bool x.computed) [
      | inr off ↦ off
      | inl on ↦ absurd (elim (cases_Bool (is_end x.stage)) [
        | inr more ↦ sends-compute (unsent others x.sent) (sym (todo-sends inbox e others x reported (ap not on) (ap not more)) ∙ is)
        | inl end ↦ elim (cases_Bool reported) [
          | inl told ↦ let q = sym (todo-rests inbox e others x reported (ap not on) (ap not end) (ap not told)) ∙ is in cc
          | inr new ↦ let q = sym (todo-reports inbox e others x reported (ap not on) (ap not end) (ap not new)) ∙ is in cc
        ]
      ])
    ]

    -- a place reports at the computed end
    pub reports-end : todo_in_round inbox e others x reported ≡ Todo.Report → (x.computed ≡ true) × (is_end x.stage ≡ true)
    reports-end is = elim (cases_Bool x.computed) [
      | inr off ↦ absurd (waits-report (needed false x.stage) (sym (todo-computes inbox e others x reported (ap not off)) ∙ is))
      | inl on ↦ elim (cases_Bool (is_end x.stage)) [
        | inr more ↦ absurd (sends-report (unsent others x.sent) (sym (todo-sends inbox e others x reported (ap not on) (ap not more)) ∙ is))
        | inl end ↦ (on, end)
      ]
    ]

    line-reported : IsTrue (is_line (record { exchange = x; reported = reported })) → IsTrue reported → (x.computed ≡ true) × (is_end x.stage ≡ true)
    line-reported l r = both x.computed (is_end x.stage) (subst (λ b. IsTrue (not b || (x.computed && is_end x.stage))) r l)
      where
        both : (b c : Bool) → IsTrue (false || (b && c)) → (b ≡ true) × (c ≡ true)
        both true true t = (refl, refl)
        both true false t = absurd (true≢false (sym t))
        both false c t = absurd (true≢false (sym t))

    -- it rests exactly once it has reported
    pub rests-reported : IsTrue (is_line (record { exchange = x; reported = reported })) → AwaitsSending others x → (todo_in_round inbox e others x reported ≡ Todo.Rest) ↔ IsTrue reported
    rests-reported l left = (told, λ r. let at = line-reported l r in todo-rests inbox e others x reported (ap not at.0) (ap not at.1) (ap not r))
      where
        told : todo_in_round inbox e others x reported ≡ Todo.Rest → IsTrue reported
        told is = elim (cases_Bool x.computed) [
          | inr off ↦ absurd (waits-rest (needed false x.stage) (sym (todo-computes inbox e others x reported (ap not off)) ∙ is))
          | inl on ↦ elim (cases_Bool (is_end x.stage)) [
            | inr more ↦ absurd (sends-rest (unsent others x.sent) (left on more) (sym (todo-sends inbox e others x reported (ap not on) (ap not more)) ∙ is))
            | inl end ↦ elim (cases_Bool reported) [
              | inl r ↦ r
              | inr new ↦ absurd (reports-rest (sym (todo-reports inbox e others x reported (ap not on) (ap not end) (ap not new)) ∙ is))
            ]
          ]
        ]
