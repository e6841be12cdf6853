pub mod Barrier
pub mod Commit
pub mod Last
pub mod Next
pub mod Verdicts
pub mod Open
