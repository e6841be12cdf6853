pub mod Events
pub mod Limit
