-- The stages of a round, and which of them are passed.
use Rattle.std.proofs.Common.{◌≡◌, ◌+◌, true, false, cond, ◌||◌, nat_lt, refl, sym, ap, ◌∙◌}
use Rattle.gr_batch.specs.declared.stage.Stage.{Stage}
use Rattle.gr_batch.specs.declared.stage.Stage.TheVariants as stage
use Rattle.gr_batch.specs.Stages.{code_of, is_stage, is_end, stage_after}
use Rattle.gr_batch.specs.Order.{place_in}
use Rattle.gr_law_rounds.proofs.Round.Codes.{same-code}
use Rattle.gr_law_rounds.proofs.Round.AtPlace.{IsRoundStage}

-- something of each stage of a round
pub by_round_stage : (R : Stage → Type 0) → R stage.Gather → R stage.Update → R stage.Signal → R stage.Call → R stage.End → (s : Stage) → IsRoundStage s → R s
by_round_stage R gather update signal call end stage.Gather r = gather
by_round_stage R gather update signal call end stage.Update r = update
by_round_stage R gather update signal call end stage.Signal r = signal
by_round_stage R gather update signal call end stage.Call r = call
by_round_stage R gather update signal call end stage.End r = end
by_round_stage R gather update signal call end stage.Ask r = absurd (let bad : false ≡ true = r in cc)
by_round_stage R gather update signal call end stage.Grant r = absurd (let bad : false ≡ true = r in cc)

-- something of each stage but the end
by_sent_round_stage : (R : Stage → Type 0) → R stage.Gather → R stage.Update → R stage.Signal → R stage.Call → (s : Stage) → IsRoundStage s → is_end s ≡ false → R s
by_sent_round_stage R gather update signal call s r e = by_round_stage (λ s. is_end s ≡ false → R s) (λ e. gather) (λ e. update) (λ e. signal) (λ e. call) (λ e. absurd (let bad : true ≡ false = e in cc)) s r e

-- the stages of a round stand at different places
pub same-round-place : (s k : Stage) → IsRoundStage s → IsRoundStage k → place_in s ≡ place_in k → s ≡ k
same-round-place s k r r' e = same-code s k (coded-at s r ∙ (ap (λ n. cond (nat_lt n 4) n 6) e ∙ sym (coded-at k r')))
  where
    coded-at : (s : Stage) → IsRoundStage s → code_of s ≡ cond (nat_lt (place_in s) 4) (place_in s) 6
    coded-at = by_round_stage (λ s. code_of s ≡ cond (nat_lt (place_in s) 4) (place_in s) 6) refl refl refl refl refl

pub after-place : (s : Stage) → IsRoundStage s → is_end s ≡ false → (place_in (stage_after s) ≡ place_in s + 1) × IsRoundStage (stage_after s)
after-place = by_sent_round_stage (λ s. (place_in (stage_after s) ≡ place_in s + 1) × IsRoundStage (stage_after s)) (refl, refl) (refl, refl) (refl, refl) (refl, refl)

-- of a round the stages before the next one are those before this one, and this one
pub after-lt : (s k : Stage) → IsRoundStage s → IsRoundStage k → is_end k ≡ false → nat_lt (place_in s) (place_in (stage_after k)) ≡ (nat_lt (place_in s) (place_in k) || is_stage s k)
after-lt s k r = by_sent_round_stage (λ k. nat_lt (place_in s) (place_in (stage_after k)) ≡ (nat_lt (place_in s) (place_in k) || is_stage s k))
    (by_round_stage (λ s. nat_lt (place_in s) 1 ≡ (nat_lt (place_in s) 0 || is_stage s stage.Gather)) refl refl refl refl refl s r)
    (by_round_stage (λ s. nat_lt (place_in s) 2 ≡ (nat_lt (place_in s) 1 || is_stage s stage.Update)) refl refl refl refl refl s r)
    (by_round_stage (λ s. nat_lt (place_in s) 3 ≡ (nat_lt (place_in s) 2 || is_stage s stage.Signal)) refl refl refl refl refl s r)
    (by_round_stage (λ s. nat_lt (place_in s) 4 ≡ (nat_lt (place_in s) 3 || is_stage s stage.Call)) refl refl refl refl refl s r)
    k
