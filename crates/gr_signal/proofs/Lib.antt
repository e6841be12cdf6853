pub mod Called
pub mod Ends
pub mod Lows
pub mod Marks
pub mod Picked
pub mod Selected
pub mod Signalled
pub mod Updates
