pub mod Distance
pub mod HopSum
pub mod Hops
pub mod Labels
pub mod Laws
pub mod Shortest
pub mod Together
pub mod Told
