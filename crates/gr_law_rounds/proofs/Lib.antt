pub mod Network
pub mod Bodies
pub mod Round
pub mod Commit
pub mod Logs
pub mod Load
