pub mod Below
pub mod Numbers
pub mod Prefixes
pub mod Printed
pub mod ReadBack
pub mod Rebirth
mod Worked
