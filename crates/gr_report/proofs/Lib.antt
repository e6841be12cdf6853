pub mod Appending
pub mod Commas
pub mod Fronts
mod Worked
