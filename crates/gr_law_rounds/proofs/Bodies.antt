pub mod Fold
pub mod Rows
pub mod Signals
pub mod Staging
pub mod Steady
pub mod Values
