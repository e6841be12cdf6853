pub mod DueCopies
pub mod Joined
pub mod Lines
mod Selected
