pub mod Answers
pub mod Decisions
pub mod Modes
pub mod Room
