-- The seeds of a program, which a job bounds.
use Rattle.std.specs.Prelude.{ℕ, length}
use Rattle.gr_job.specs.declared.job.ProgramChoice.{ProgramChoice}
use Rattle.gr_job.specs.declared.job.ProgramChoice.TheVariants.{Reach}

-- how many seeds the program starts from: none but for `reach`
abbrev pub seed_count : ProgramChoice → ℕ
seed_count (Reach seeds) = length seeds
seed_count _ = 0
