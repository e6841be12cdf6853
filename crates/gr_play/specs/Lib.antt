pub mod Inside
pub mod Playing
pub mod TracedSteps
pub mod Tracing
