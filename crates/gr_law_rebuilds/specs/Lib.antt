pub mod Epoch
pub mod Rebuild
pub mod Restore
