pub mod Laws
pub mod Program
pub mod ProgramLaws
pub mod Result
pub mod Rounds
