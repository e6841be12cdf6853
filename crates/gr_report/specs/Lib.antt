pub mod Endings
pub mod Goes
pub mod Trace
