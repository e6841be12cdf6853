pub mod Commit
pub mod Logs
pub mod Network
pub mod Round
