-- The words of a command line.
use Rattle.std.specs.Prelude.{ℕ, ◌&&◌, nat_lt, nat_le, List, [], ◌∷◌, length, Option, Some, None, option_map, codes, if◌then◌else◌}
use Rattle.std.specs.List.{list_all}
use Rattle.std.specs.Option.{option_or, option_zip}
use Rattle.std.specs.Char.{is_ascii_digit}
use Rattle.std.specs.Str.{bytes_eq}
use Rattle.std.specs.Str.Parse.{digits_value}

-- the files that words name; `plain` names no schedule and no trace
pub record FileNames : Type 0 where
  pub graph : List ℕ
  pub job : List ℕ
  pub schedule : List ℕ
  pub trace : List ℕ

-- no names
abbrev pub nobody : FileNames
nobody = record { graph = []; job = []; schedule = []; trace = [] }

-- what words ask for: the rounds of the graph that is not cut, a run of the cluster, or one of generated input, by a seed and
-- a size
pub data Asked : Type 0 where
  Plain : FileNames → Asked
  Run : FileNames → Asked
  Load : ℕ → ℕ → Asked

-- the names of `plain GRAPH JOB`
abbrev pub plain_of : List (List ℕ) → Option FileNames
plain_of (word ∷ graph ∷ job ∷ []) = if bytes_eq word (codes "plain") then Some (record { graph = graph; job = job; schedule = []; trace = [] }) else None
plain_of words = None

-- the names of `run GRAPH JOB SCHEDULE TRACE`
abbrev pub run_of : List (List ℕ) → Option FileNames
run_of (word ∷ graph ∷ job ∷ schedule ∷ trace ∷ []) =
    if bytes_eq word (codes "run") then Some (record { graph = graph; job = job; schedule = schedule; trace = trace }) else None
run_of words = None

-- the number of a word of digits, from `least` to `most`
abbrev pub number_in : ℕ → ℕ → List ℕ → Option ℕ
number_in least most word =
    let n = digits_value 10 word in
    if nat_lt 0 (length word) && (list_all is_ascii_digit word && (nat_le least n && nat_le n most)) then Some n else None

-- the numbers of `load SEED SIZE`
abbrev pub max_size : ℕ
max_size = 100000

abbrev pub load_of : List (List ℕ) → Option (ℕ × ℕ)
load_of (word ∷ seed ∷ size ∷ []) = if bytes_eq word (codes "load") then option_zip (number_in 0 4294967295 seed) (number_in 1 max_size size) else None
load_of words = None

-- what words ask for, where they are of one of the forms
unfoldable pub asked_of : List (List ℕ) → Option Asked
asked_of words =
    option_or (option_map Asked.Plain (plain_of words)) (option_or (option_map Asked.Run (run_of words)) (option_map (λ n. Asked.Load n.0 n.1) (load_of words)))

-- the names that are asked for; `load` names no file
abbrev pub names_in : Asked → FileNames
names_in (Asked.Plain names) = names
names_in (Asked.Run names) = names
names_in (Asked.Load seed size) = nobody
