pub mod Gains
pub mod Loaded
pub mod NamedFiles
pub mod Prefixes
pub mod Worked
pub mod Written
