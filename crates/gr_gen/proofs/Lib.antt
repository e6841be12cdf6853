pub mod Drawing
pub mod Ends
mod Worked
