pub mod Askers
pub mod Lists
pub mod Others
pub mod Senders
