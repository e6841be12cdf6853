pub mod CrashLines
pub mod Crashes
pub mod Ends
pub mod Events
pub mod Left
pub mod Runs
pub mod ToGo
pub mod Undisturbed
