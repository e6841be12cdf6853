pub mod Below
pub mod Chosen
pub mod Extras
pub mod Granted
pub mod Repair
