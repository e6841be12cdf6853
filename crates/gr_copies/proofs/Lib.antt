pub mod FirstHolders
pub mod Gathering
pub mod Granting
pub mod Marks
pub mod Selecting
mod Worked
