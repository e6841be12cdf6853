pub mod Bodies
pub mod CopyNumbers
pub mod Order
pub mod Reading
pub mod Spelling
pub mod Stages
pub mod Telling
