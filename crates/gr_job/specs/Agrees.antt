-- An answer beside the one that is wanted.
use Rattle.std.specs.Prelude.{◌≡◌, ◌≢◌, Result, Ok, Err, MatchResult}
use Rattle.gr_job.specs.declared.fault.JobFault.{JobFault}
use Rattle.gr_job.specs.declared.fault.JobFault.TheVariants.{OutOfMemory}

-- the result is the wanted one, unless memory ran out
abbrev pub AgreesWith : {A : Type 0} → Result A JobFault → Result A JobFault → Type 0
AgreesWith result wanted =
    MatchResult result (λ value. wanted ≡ Ok value) (λ fault. fault ≢ OutOfMemory → wanted ≡ Err fault)
