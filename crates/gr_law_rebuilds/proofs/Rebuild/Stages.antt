-- The stages of a rebuild.
use Rattle.std.proofs.Common.{◌≡◌, ◌<◌, ◌≤◌, ◌+◌, true, false, ◌||◌, nat_lt, refl, arith}
use Rattle.std.specs.Prelude.{IsTrue}
use Rattle.gr_batch.specs.declared.stage.Stage.{Stage}
use Rattle.gr_batch.specs.declared.stage.Stage.TheVariants as stage
use Rattle.gr_batch.specs.Stages.{is_stage, is_end, stage_after}
use Rattle.gr_batch.specs.Order.{place_in}
use Rattle.gr_view.specs.declared.coordinator.Mode.{Mode}
use Rattle.gr_view.specs.declared.coordinator.Mode.TheVariants as mode
use Rattle.gr_view.specs.Modes.{is_open, is_round, is_failed, is_rebuild, is_over}
use Rattle.gr_cluster.specs.Stages.{stages_of, has_stage}
use Rattle.gr_cluster.specs.Work.{first_stage}

abbrev pub IsRebuildStage : Stage → Type 0
IsRebuildStage s = IsTrue (has_stage (stages_of mode.Repairing) s)

-- what a mode is in which a rebuild is open
pub record IsRebuildMode (m : Mode) : Type 0 where
  pub stages : stages_of m ≡ stages_of mode.Repairing
  pub open_mode : is_open m ≡ true
  pub not_failed : is_failed m ≡ false
  pub not_round : is_round m ≡ false
  pub first : first_stage m ≡ stage.Ask

pub rebuild-mode : (m : Mode) → is_rebuild m ≡ true → IsRebuildMode m
rebuild-mode mode.Recovering e = record { stages = refl; open_mode = refl; not_failed = refl; not_round = refl; first = refl }
rebuild-mode mode.Repairing e = record { stages = refl; open_mode = refl; not_failed = refl; not_round = refl; first = refl }
rebuild-mode _ e = absurd (let bad : false ≡ true = e in cc)

pub not-over : (m : Mode) → is_rebuild m ≡ true → is_over m ≡ false
not-over mode.Done e = absurd (let bad : false ≡ true = e in cc)
not-over mode.Lost e = absurd (let bad : false ≡ true = e in cc)
not-over _ e = refl

-- something of each stage of a rebuild
pub by_stage : (R : Stage → Type 0) → R stage.Ask → R stage.Grant → R stage.End → (s : Stage) → IsRebuildStage s → R s
by_stage R ask grant end stage.Ask r = ask
by_stage R ask grant end stage.Grant r = grant
by_stage R ask grant end stage.End r = end
by_stage R ask grant end _ r = absurd (let bad : false ≡ true = r in cc)

-- something of each stage but the end
pub by_sent_stage : (R : Stage → Type 0) → R stage.Ask → R stage.Grant → (s : Stage) → IsRebuildStage s → is_end s ≡ false → R s
by_sent_stage R ask grant s r e = by_stage (λ s. is_end s ≡ false → R s) (λ e. ask) (λ e. grant) (λ e. absurd (let bad : true ≡ false = e in cc)) s r e

-- a stage follows each but the end
pub stage-follows : (k : Stage) → IsRebuildStage k → is_end k ≡ false → IsRebuildStage (stage_after k)
stage-follows = by_sent_stage (λ k. IsRebuildStage (stage_after k)) refl refl

-- before it stand those before k, and k
pub before-next : (s k : Stage) → IsRebuildStage s → IsRebuildStage k → is_end k ≡ false → nat_lt (place_in s) (place_in (stage_after k)) ≡ (nat_lt (place_in s) (place_in k) || is_stage s k)
before-next s k r r' e = by_sent_stage (λ k. nat_lt (place_in s) (place_in (stage_after k)) ≡ (nat_lt (place_in s) (place_in k) || is_stage s k))
    (by_stage (λ s. nat_lt (place_in s) 1 ≡ (nat_lt (place_in s) 0 || is_stage s stage.Ask)) refl refl refl s r)
    (by_stage (λ s. nat_lt (place_in s) 4 ≡ (nat_lt (place_in s) 1 || is_stage s stage.Grant)) refl refl refl s r)
    k r' e

pub next-place : (k : Stage) → IsRebuildStage k → is_end k ≡ false → (place_in k < place_in (stage_after k)) × (place_in (stage_after k) ≤ 4) × (place_in k + 1 ≤ 4)
next-place = by_sent_stage (λ k. (place_in k < place_in (stage_after k)) × (place_in (stage_after k) ≤ 4) × (place_in k + 1 ≤ 4)) (omega arith, omega arith, omega arith) (omega arith, omega arith, omega arith)

-- the stages stand at different places
pub same-place : (s k : Stage) → IsRebuildStage s → IsRebuildStage k → place_in s ≡ place_in k → s ≡ k
same-place s k r r' = by_stage (λ s. place_in s ≡ place_in k → s ≡ k)
    (by_stage (λ k. 0 ≡ place_in k → stage.Ask ≡ k) (λ e. refl) (λ e. absurd (omega (arith, e))) (λ e. absurd (omega (arith, e))) k r')
    (by_stage (λ k. 1 ≡ place_in k → stage.Grant ≡ k) (λ e. absurd (omega (arith, e))) (λ e. refl) (λ e. absurd (omega (arith, e))) k r')
    (by_stage (λ k. 4 ≡ place_in k → stage.End ≡ k) (λ e. absurd (omega (arith, e))) (λ e. absurd (omega (arith, e))) (λ e. refl) k r')
    s r
