pub mod EventText
pub mod Fields
pub mod Printed
pub mod Reading
pub mod Text
pub mod Words
