-- What a place does next, in every mode.
use Rattle.std.specs.Prelude.{ℕ, Bool, false, not, ◌&&◌, nat_lt, List, Option, Some, None, if◌then◌else◌}
use Rattle.gr_base.specs.Places.{without_place}
use Rattle.gr_batch.specs.Stages.{is_end}
use Rattle.gr_view.specs.declared.coordinator.Coordinator.{Coordinator}
use Rattle.gr_view.specs.Modes.{is_open, is_over, is_rebuild}
use Rattle.gr_view.specs.Decisions.{parties}
use Rattle.gr_rules.specs.Exchange.{needed, unsent}
use Rattle.gr_rules.specs.Todo.{Todo, compute_or_wait, send_or_rest, is_act}
use Rattle.gr_cluster.specs.Tables.{Host}

-- the other parties
abbrev pub others : Coordinator → ℕ → List ℕ
others co p = without_place (parties co) p

-- the first of these that applies
unfoldable pub todo : {V A : Type 0} → Coordinator → ℕ → Host V A → Todo
todo co p h =
    if is_over co.mode then Todo.Rest
    else if nat_lt h.installed co.commits then Todo.Install
    else if nat_lt h.epoch co.epoch then Todo.Adopt
    else if is_open co.mode && not h.computed then compute_or_wait h.inbox h.epoch (others co p) (needed (is_rebuild co.mode) h.stage)
    else if h.computed && not (is_end h.stage) then send_or_rest (unsent (others co p) h.sent)
    else if h.computed && (is_rebuild co.mode && not h.appended) then Todo.Append
    else if h.computed && not h.reported then Todo.Report
    else Todo.Rest

abbrev pub can_work : {V A : Type 0} → Coordinator → ℕ → Option (Host V A) → Bool
can_work co p None = false
can_work co p (Some h) = is_act (todo co p h)
