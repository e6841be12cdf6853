-- The first line of a text that shows a fault.
use Rattle.std.specs.Prelude.{ℕ, slice_get, Option}
use Rattle.std.specs.List.{filter_map, range_with_len}

-- the fault of the first of so many lines that shows one, by the fault that each shows
abbrev pub first_fault_by : {Y : Type 0} → (ℕ → Option Y) → ℕ → Option Y
first_fault_by fault_at count = slice_get (filter_map fault_at (range_with_len 0 count)) 0
