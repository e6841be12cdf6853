pub mod Apart
pub mod Batches
pub mod Bodies
pub mod Copies
pub mod Fields
pub mod Items
pub mod Lists
pub mod Numbers
pub mod Tellings
pub mod Words
mod Worked
