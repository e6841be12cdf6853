pub mod Digits
pub mod Faults
pub mod Lines
pub mod Prefixes
pub mod Spaced
pub mod Splitting
mod Worked
