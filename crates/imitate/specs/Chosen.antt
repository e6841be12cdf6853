-- The program of a job, and what its rounds over the graph that is not cut print.
use Rattle.std.specs.Prelude.{ℕ, List, [], ◌∷◌, ◌++◌, codes, decimal}
use Rattle.gr_base.specs.declared.records.Edge.{Edge}
use Rattle.gr_program.specs.Program.{Program}
use Rattle.gr_program.specs.Result.{result_text}
use Rattle.gr_batch.specs.Telling.{Telling, telling}
use Rattle.gr_job.specs.declared.job.ProgramChoice.{ProgramChoice}
use Rattle.gr_job.specs.declared.job.ProgramChoice.TheVariants as choice
use Rattle.gr_sum.specs.declared.amount.Amount.{Amount}
use Rattle.gr_sum.specs.Rank.{rank}
use Rattle.gr_sum.specs.InDegree.{in_degree}
use Rattle.gr_sum.specs.KCore.{k_core}
use Rattle.gr_sum.specs.Reach.{reach}
use Rattle.gr_min.specs.Told.{told}
use Rattle.gr_min.specs.Shortest.{shortest}
use Rattle.gr_min.specs.Hops.{hops}
use Rattle.gr_min.specs.Labels.{labels}

-- a program, with the texts of its values and the numbers that tell its values and sums
pub record Chosen : Type 1 where
  pub Value : Type 0
  pub Sum : Type 0
  pub program : Program Value Sum
  pub text : Value → List ℕ
  pub numbers : Telling Value Sum

abbrev pub chosen : {V A : Type 0} → Program V A → (V → List ℕ) → (V → List ℕ) → (A → List ℕ) → Chosen
chosen {V} {A} P text values sums = record { Value = V; Sum = A; program = P; text = text; numbers = telling values sums }

-- the four programs over amounts
abbrev of_amounts : Program Amount Amount → Chosen
of_amounts P = chosen P (λ x. decimal x.0) (λ x. x.0 ∷ []) (λ x. x.0 ∷ [])

-- the program of a job
abbrev pub chosen_of : ProgramChoice → Chosen
chosen_of (choice.Shortest source) = chosen (shortest source) (λ x. told x.0) (λ x. x.0 ∷ []) (λ x. x.0 ∷ [])
chosen_of (choice.Hops source) =
    chosen (hops source) (λ x. told x.distance ++ codes " " ++ told x.parent) (λ x. x.at ∷ x.distance ∷ x.parent ∷ []) (λ x. x.distance ∷ x.parent ∷ [])
chosen_of choice.Labels = of_amounts labels
chosen_of choice.Rank = of_amounts rank
chosen_of choice.InDegree = of_amounts in_degree
chosen_of (choice.Core k) = of_amounts (k_core k)
chosen_of (choice.Reach seeds) = of_amounts (reach seeds)

-- its result text, over edges and rising vertices, with a limit of rounds
abbrev pub chosen_text : ProgramChoice → List Edge → List ℕ → ℕ → List ℕ
chosen_text which es vs limit = let c = chosen_of which in result_text c.program c.text es vs limit
