pub mod Needs
pub mod Relies
