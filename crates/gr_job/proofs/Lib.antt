pub mod Documents
pub mod Numbers
pub mod Arrays
pub mod UnknownKeys
mod Worked
