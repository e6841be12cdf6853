pub mod Programs
mod Worked
