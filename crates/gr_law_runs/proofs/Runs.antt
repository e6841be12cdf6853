pub mod Lines
pub mod Finish
pub mod Plain
pub mod Results
pub mod Schedules
