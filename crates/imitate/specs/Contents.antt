-- What files and sinks told before a call and after it.
use Rattle.std.specs.Prelude.{◌≡◌, ℕ, List, [], take, IfSome, IsSomeAnd, unwrap_or}
use Rattle.gr_outside.specs.Files.{FilesSeen, FilesTold, KeepsOthers, bytes_of}
use Rattle.gr_outside.specs.Sink.{SinkSeen, Gains}

-- the bytes of a file, where there is one
abbrev pub content : FilesTold → List ℕ → List ℕ
content t name = unwrap_or (bytes_of t.files name) []

-- where files told their content, they go on, and every file is as before
abbrev pub KeepsFiles : FilesSeen → FilesSeen → Type 0
KeepsFiles before after = IfSome before.told (λ t. IsSomeAnd after.told (λ u. u.files ≡ t.files))

-- where files told their content, they go on, and every file but the named one is as before
abbrev pub KeepsAllBut : List ℕ → FilesSeen → FilesSeen → Type 0
KeepsAllBut name before after = IfSome before.told (λ t. IsSomeAnd after.told (λ u. KeepsOthers name t.files u.files))

-- a sink gained a first part of a text
abbrev pub GainsPart : SinkSeen → SinkSeen → List ℕ → Type 0
GainsPart before after text = (n : ℕ) × Gains before after (take n text)
