-- The keys of a job, and the first key of a document that is none of them.
use Rattle.std.specs.Prelude.{◌∷◌, [], List, ℕ, Bool, not, filter, fold, Option, Some, None, if◌then◌else◌, bytes_eq, codes}
use Rattle.std.specs.List.{list_any}
use Rattle.std.specs.Ordering.{is_lt, nat_cmp}
use Rattle.std.specs.Cmp.Lexicographic.{slice_cmp}
use Rattle.toml.specs.Data.{Members, no_members, member}

-- the keys that a job may have
abbrev pub job_keys : List (List ℕ)
job_keys =
    codes "places" ∷ codes "spares" ∷ codes "losses" ∷ codes "theta" ∷ codes "rounds" ∷ codes "undirected"
    ∷ codes "program" ∷ codes "source" ∷ codes "k" ∷ codes "seeds" ∷ []

abbrev pub is_job_key : List ℕ → Bool
is_job_key key = list_any (bytes_eq key) job_keys

-- the keys of a table
abbrev pub keys_of : Members → List (List ℕ)
keys_of no_members = []
keys_of (member key d rest) = key ∷ keys_of rest

-- the key that comes first by bytes
abbrev pub earlier : List ℕ → List ℕ → List ℕ
earlier a b = if is_lt (slice_cmp nat_cmp b a) then b else a

abbrev pub earliest : List (List ℕ) → Option (List ℕ)
earliest [] = None
earliest (key ∷ keys) = Some (fold earlier key keys)

-- the first key by bytes that no job has
abbrev pub unknown_key : Members → Option (List ℕ)
unknown_key table = earliest (filter (λ key. not (is_job_key key)) (keys_of table))
