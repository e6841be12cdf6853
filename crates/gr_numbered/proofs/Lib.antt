pub mod Between
mod LastOfEach
mod MergeSteps
