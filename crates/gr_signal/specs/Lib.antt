pub mod LowVertices
pub mod Signals
