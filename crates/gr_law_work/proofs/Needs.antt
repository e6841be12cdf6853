pub mod Act
pub mod Bodies
pub mod Rows
pub mod NewValues
