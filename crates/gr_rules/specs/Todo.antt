-- What a place does next.
use Rattle.std.specs.Prelude.{ℕ, Bool, true, false, List, Option, Some, None}
use Rattle.gr_batch.specs.declared.batch.Batch.{Batch}
use Rattle.gr_batch.specs.declared.stage.Stage.{Stage}
use Rattle.gr_rules.specs.Inbox.{missing}

pub data Todo : Type 0 where
  Install Adopt Compute Append Report Rest : Todo
  Send : ℕ → Todo
  Wait : Stage → ℕ → Todo

-- a stage is computed once the batches that it needs are there
abbrev pub compute_or_wait : {V A : Type 0} → List (Batch V A) → ℕ → List ℕ → Option Stage → Todo
compute_or_wait inbox e others None = Todo.Compute
compute_or_wait inbox e others (Some s) = elim (missing inbox e s others) [ None ↦ Todo.Compute | Some q ↦ Todo.Wait s q ]

abbrev pub send_or_rest : Option ℕ → Todo
send_or_rest None = Todo.Rest
send_or_rest (Some q) = Todo.Send q

-- whether the next work of a place does something
abbrev pub is_act : Todo → Bool
is_act Todo.Rest = false
is_act (Todo.Wait s q) = false
is_act _ = true
