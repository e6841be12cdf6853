pub mod LastRound
pub mod Permuted
pub mod Totals
pub mod Worked
pub mod Recompute
