-- What files hold.
use Rattle.std.specs.Prelude.{◌≡◌, ◌≢◌, ℕ, Bool, if◌then◌else◌, List, [], ◌∷◌, Option, Some, None}
use Rattle.std.specs.Str.{bytes_eq}

-- a file: its name and its bytes
abbrev pub Named : Type 0
Named = List ℕ × List ℕ

-- what files tell: each with its bytes, the name of the last load that failed, and the name of the file that is begun
pub record FilesTold : Type 0 where
  pub files : List Named
  pub failed : Option (List ℕ)
  pub begun : Option (List ℕ)

-- what is told, if anything, whether a file is begun, and how often each kind of fault came
pub record FilesSeen : Type 0 where
  pub told : Option FilesTold
  pub is_begun : Bool
  pub load_faults : ℕ
  pub long_loads : ℕ
  pub write_faults : ℕ

-- a load of more bytes than this is a long one
abbrev pub longest : ℕ
longest = 268435456

-- the bytes of a file by its name
abbrev pub bytes_of : List Named → List ℕ → Option (List ℕ)
bytes_of [] name = None
bytes_of (f ∷ fs) name = if bytes_eq f.0 name then Some f.1 else bytes_of fs name

-- every file but the named one is as before
abbrev pub KeepsOthers : List ℕ → List Named → List Named → Type 0
KeepsOthers name before after = (other : List ℕ) → other ≢ name → bytes_of after other ≡ bytes_of before other

-- the named file is begun and has these bytes, and all else is as before
pub record HasWritten (before : FilesTold) (name bytes : List ℕ) (after : FilesTold) : Type 0 where
  pub written : bytes_of after.files name ≡ Some bytes
  pub others : KeepsOthers name before.files after.files
  pub begun : after.begun ≡ Some name
  pub failed : after.failed ≡ before.failed

-- no file is begun, and all but the named one is as before
pub record LetsGo (before : FilesTold) (name : List ℕ) (after : FilesTold) : Type 0 where
  pub others : KeepsOthers name before.files after.files
  pub begun : after.begun ≡ None
  pub failed : after.failed ≡ before.failed
