pub mod Askers
pub mod Asks
pub mod Ends
pub mod Granted
