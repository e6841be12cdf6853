-- Words for contracts of private functions and for proofs: no public clause needs them, so they need not be believed.
pub mod Adding
pub mod Progress
pub mod Room
pub mod Stops
