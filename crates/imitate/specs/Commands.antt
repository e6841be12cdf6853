-- What a command holds: its names and its request.
use Rattle.std.specs.Prelude.{◌≤◌}
use Rattle.imitate.specs.declared.command.Names.{Names}
use Rattle.imitate.specs.declared.command.Command.{Command}
use Rattle.imitate.specs.declared.command.Command.TheVariants as command
use Rattle.imitate.specs.Words.{FileNames, Asked, max_size}

-- the names and the request that a command holds
abbrev pub named : Names → FileNames
named n = record { graph = n.graph.now; job = n.job.now; schedule = n.schedule.now; trace = n.trace.now }

abbrev pub asked_by : Command → Asked
asked_by (command.Plain n) = Asked.Plain (named n)
asked_by (command.Run n) = Asked.Run (named n)
asked_by (command.Load seed size) = Asked.Load seed size

-- a size that is asked for is within its range
abbrev pub IsInRange : Command → Type 0
IsInRange (command.Load seed size) = size ≤ max_size
IsInRange other = Unit {0}
