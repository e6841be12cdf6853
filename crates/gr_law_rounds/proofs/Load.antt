pub mod Holders
pub mod Load
pub mod Ranges
