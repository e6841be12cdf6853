pub mod Inside
pub mod Mode
