pub mod Appending
pub mod Bytes
pub mod Directory
pub mod Log
pub mod Reading
