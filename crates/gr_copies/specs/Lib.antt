pub mod Ends
pub mod Granter
pub mod Holders
