pub mod Fields
pub mod Marks
pub mod Reading
pub mod Recent
pub mod Summary
pub mod Text
pub mod Vertices
