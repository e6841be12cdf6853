pub mod Acts
pub mod Kept
pub mod Line
pub mod Needs
pub mod Party
pub mod Todo
