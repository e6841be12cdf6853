pub mod Agrees
pub mod Job
pub mod Keys
pub mod Kinds
pub mod Names
pub mod Seeds
pub mod Values
