-- Proofs that the implementations cite as ghost members. Nothing here says what a program is.
pub mod Adding
pub mod Amounts
pub mod Bits
pub mod Capped
pub mod InDegreeLaws
pub mod KCoreLaws
pub mod RankLaws
pub mod ReachLaws
