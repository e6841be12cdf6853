pub mod Frame
pub mod Same
pub mod Unruled
pub mod Removal
pub mod Taken
pub mod Kept
pub mod Later
