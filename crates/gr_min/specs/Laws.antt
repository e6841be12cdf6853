-- Proofs that the implementations cite as ghost members. Nothing here says what a program is.
pub mod Better
pub mod Distances
pub mod HopNumbers
pub mod HopsLaws
pub mod LabelsLaws
pub mod Least
pub mod ShortestLaws
