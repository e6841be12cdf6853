use Rattle.std.proofs.Common.{◌≡◌, length}
use Rattle.std.specs.Prelude.{option_map}
use Rattle.gr_text.specs.Fields.{fields_of}
use Rattle.gr_sched.specs.Fields.{all_numbers}
use Rattle.gr_sched.specs.Reading.{reborn_at, placed}
use Rattle.gr_sched.proofs.Rebirth.{reborn_from}
use Rattle.gr_sched.proofs.line.read_places.Given as goal

abbrev pub invariant-fields : goal.invariant-fields
invariant-fields l = reborn_from l.places l.reborn l.is_misplaced (all_numbers (fields_of l.left)) ≡ placed l.places (option_map reborn_at (all_numbers (fields_of l.rest)))

abbrev pub decreases-fields : goal.decreases-fields
decreases-fields l = length l.left
