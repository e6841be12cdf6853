pub mod Index
pub mod Round
pub mod Rows
