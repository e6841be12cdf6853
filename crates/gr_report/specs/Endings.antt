-- How a run ends that does not end done.
use Rattle.std.specs.Prelude.{ℕ, List, ◌++◌, flat_map, length, decimal, codes}
use Rattle.gr_sched.specs.Words.{word}

-- the texts of a run that loses vertices, and of one that ends early
abbrev pub lost_text : List ℕ → List ℕ
lost_text vs = codes "lost" ++ word (length vs) ++ codes "\n" ++ flat_map (λ v. decimal v ++ codes "\n") vs

abbrev pub unfinished_text : ℕ → List ℕ
unfinished_text r = codes "unfinished" ++ word r ++ codes "\n"
