pub mod Loss
pub mod Epoch
pub mod Restore
pub mod Rebuild
