pub mod Agree
pub mod Due
pub mod Positions
pub mod Staged
pub mod Vertices
mod Worked
