pub mod AtPlace
pub mod InRebuild
pub mod InRound
