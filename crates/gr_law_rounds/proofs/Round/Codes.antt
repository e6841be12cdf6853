-- Stages and their codes, and what a true body of a stage is.
use Rattle.std.proofs.Common.{◌≡◌, ℕ, zero, suc, refl, sym, ap, ◌∙◌, subst}
use Rattle.std.specs.Prelude.{⊤}
use Rattle.gr_program.specs.Program.{Program}
use Rattle.gr_copies.specs.declared.view.RebuildView.{RebuildView}
use Rattle.gr_batch.specs.declared.body.Body.{Body}
use Rattle.gr_batch.specs.declared.body.Body.TheVariants as body
use Rattle.gr_batch.specs.declared.stage.Stage.{Stage}
use Rattle.gr_batch.specs.declared.stage.Stage.TheVariants as stage
use Rattle.gr_batch.specs.Stages.{code_of}
use Rattle.gr_batch.specs.Bodies.{stage_of_body, values_of, signals_of, calls_of, asks_of, grants_of}
use Rattle.gr_agree.specs.Truth.{Truth}
use Rattle.gr_agree.specs.TrueRound.{true_parts, true_values, true_signals, true_calls}
use Rattle.gr_agree.specs.Rebuilt.{true_asks, true_grants}
use Rattle.gr_agree.specs.TrueBody.{TrueBody}

stage_of_code : ℕ → Stage
stage_of_code zero = stage.Gather
stage_of_code (suc zero) = stage.Update
stage_of_code (suc (suc zero)) = stage.Signal
stage_of_code (suc (suc (suc zero))) = stage.Call
stage_of_code (suc (suc (suc (suc zero)))) = stage.Ask
stage_of_code (suc (suc (suc (suc (suc zero))))) = stage.Grant
stage_of_code (suc (suc (suc (suc (suc (suc k)))))) = stage.End

coded : (s : Stage) → stage_of_code (code_of s) ≡ s
unfolding stage_of_code
coded stage.Gather = refl
coded _ = refl

-- a code belongs to one stage
pub same-code : (s k : Stage) → code_of s ≡ code_of k → s ≡ k
same-code s k e = sym (coded s) ∙ (ap stage_of_code e ∙ coded k)

-- what the committed state says of a body of each stage, from q to p
module _ {V A : Type 0} (P : Program V A) (w : RebuildView) (want : ℕ) (t : Truth V) (q p : ℕ) where
  abbrev IsSaid : Stage → Body V A → Type 0
  IsSaid stage.Gather b = b ≡ body.Gather (true_parts P t q p)
  IsSaid stage.Update b = values_of b ≡ true_values P t q p
  IsSaid stage.Signal b = signals_of b ≡ true_signals P t q p
  IsSaid stage.Call b = calls_of b ≡ true_calls P t q p
  IsSaid stage.Ask b = asks_of b ≡ true_asks w t q p
  IsSaid stage.Grant b = grants_of b ≡ true_grants P w want t q p
  IsSaid stage.End b = ⊤

  said-own : (b : Body V A) → TrueBody P w want t q p b → IsSaid (stage_of_body b) b
  said-own (body.Gather xs) h = ap body.Gather h
  said-own _ h = h

  pub said-of : (s : Stage) (b : Body V A) → TrueBody P w want t q p b → code_of s ≡ code_of (stage_of_body b) → IsSaid s b
  said-of s b h e = subst (λ k. IsSaid k b) (sym (same-code s (stage_of_body b) e)) (said-own b h)
