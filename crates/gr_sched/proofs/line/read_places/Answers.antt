use Rattle.std.proofs.Common.{◌∙◌, List, ℕ, false, ap}
use Rattle.gr_text.specs.Fields.{fields_of}
use Rattle.gr_sched.specs.Fields.{all_numbers}
use Rattle.gr_sched.proofs.Rebirth.{reborn_from, reborn-none}
use Rattle.gr_sched.proofs.line.read_places.Goals as goal

pub fields-init : goal.fields-init
fields-init c =
    let ns = all_numbers (fields_of c.args.rest.now) in
    ap (λ (s : List ℕ). reborn_from c.args.places s false ns) c.none-reborn.ensures ∙ reborn-none c.args.places ns
