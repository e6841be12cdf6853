-- What the end of a rebuild needs of the log of a place when it records.
use Rattle.std.specs.Prelude.{◌≡◌, []}
use Rattle.gr_log.specs.Log.{Log}

-- a log holds nothing but what is committed
pub record IsAllCommitted (l : Log) : Type 0 where
  pub not_torn : l.torn ≡ []
  pub nothing : l.appended ≡ []
