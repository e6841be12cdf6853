pub mod Appending
pub mod Degrees
pub mod Ends
pub mod Ids
pub mod Leading
pub mod Marks
pub mod Numbers
pub mod Prefixes
pub mod Printed
pub mod ReadBack
pub mod Recent
pub mod Standing
pub mod Summing
pub mod Tallies
mod Worked
