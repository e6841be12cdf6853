pub mod Graphs
pub mod Rows
mod Worked
