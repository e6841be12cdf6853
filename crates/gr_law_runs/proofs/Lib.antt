pub mod Runs
pub mod Left
pub mod Inside
pub mod Events
pub mod Ends
pub mod Bounds
