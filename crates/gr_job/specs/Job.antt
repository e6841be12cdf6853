-- The job that bytes are: a TOML document read by the table of its keys.
use Rattle.std.specs.Prelude.{[], List, ℕ, Bool, false, Option, Some, None, Result, Ok, Err, if◌then◌else◌, codes}
use Rattle.std.specs.Str.{is_utf8}
use Rattle.toml.specs.Data.{Data, Members, get_member}
use Rattle.toml.specs.Parse.{parse_document}
use Rattle.gr_job.specs.declared.fault.JobFault.{JobFault}
use Rattle.gr_job.specs.declared.fault.JobFault.TheVariants.{NotToml, UnknownKey, Missing}
use Rattle.gr_job.specs.declared.job.ProgramChoice.{ProgramChoice}
use Rattle.gr_job.specs.Names.{needs_source, needs_k, needs_seeds, choice_of}
use Rattle.gr_job.specs.Keys.{unknown_key}
use Rattle.gr_job.specs.Kinds.{Kind, integer_in, boolean_value, program_name, integers_in}

-- what a job says
pub record JobValues : Type 0 where
  pub places : ℕ
  pub spares : ℕ
  pub losses : ℕ
  pub theta : ℕ
  pub rounds : ℕ
  pub undirected : Bool
  pub program : ProgramChoice

-- the rest is read once a step has given its value; the first fault is the fault of all
infixl 10 ◌>>=◌
abbrev pub ◌>>=◌ : {A B : Type 0} → Result A JobFault → (A → Result B JobFault) → Result B JobFault
(Ok a) >>= f = f a
(Err fault) >>= f = Err fault

-- an absent key is a fault where it is required, and elsewhere has a default
abbrev pub required : {A : Type 0} → Option A
required = None

abbrev pub default : {A : Type 0} → A → Option A
default = Some

-- required where it is needed; elsewhere a value that nothing reads
abbrev pub required_if : {A : Type 0} → Bool → A → Option A
required_if needed value = if needed then required else default value

-- what stands under a key: a value by its type, or nothing
abbrev pub under : {A : Type 0} → List ℕ → Kind A → Option A → Option Data → Result A JobFault
under key kind absent (Some d) = kind key d
under key kind (Some value) None = Ok value
under key kind None None = Err (Missing key)

-- a key of the table
abbrev pub row : {A : Type 0} → List ℕ → Kind A → Option A → Members → Result A JobFault
row key kind absent table = under key kind absent (get_member key table)

-- a document with a key that no job has is refused for the first of them
abbrev pub refused_for : Option (List ℕ) → Result (Unit {0}) JobFault
refused_for None = Ok tt
refused_for (Some key) = Err (UnknownKey key)

abbrev pub only_known_keys : Members → Result (Unit {0}) JobFault
only_known_keys table = refused_for (unknown_key table)

-- the job of a document: unknown keys first, and then the keys in this order, each with its type, range and absence
unfoldable pub job_of_table : Members → Result JobValues JobFault
job_of_table t = do
  _ ← only_known_keys t
  places ← row (codes "places") (integer_in 1 64) required t
  spares ← row (codes "spares") (integer_in 0 64) (default 0) t
  losses ← row (codes "losses") (integer_in 0 7) (default 1) t
  theta ← row (codes "theta") (integer_in 0 4294967295) (default 100) t
  rounds ← row (codes "rounds") (integer_in 1 10000) (default 1000) t
  undirected ← row (codes "undirected") boolean_value (default false) t
  name ← row (codes "program") program_name required t
  source ← row (codes "source") (integer_in 0 4294967295) (required_if (needs_source name) 0) t
  k ← row (codes "k") (integer_in 0 4294967295) (required_if (needs_k name) 0) t
  seeds ← row (codes "seeds") (integers_in 64 4294967295) (required_if (needs_seeds name) []) t
  Ok (record {
    places = places;
    spares = spares;
    losses = losses;
    theta = theta;
    rounds = rounds;
    undirected = undirected;
    program = choice_of name source k seeds;
  })

-- the document that bytes are: UTF-8 that `toml` reads
abbrev pub document_of : List ℕ → Option Members
document_of bytes = if is_utf8 bytes then parse_document bytes else None

abbrev pub job_of_document : Option Members → Result JobValues JobFault
job_of_document None = Err NotToml
job_of_document (Some table) = job_of_table table

-- the job that bytes are, or the fault that they show
abbrev pub job_of : List ℕ → Result JobValues JobFault
job_of bytes = job_of_document (document_of bytes)
