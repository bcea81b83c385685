pub mod Rounds
pub mod Checking
pub mod Pairing
pub mod Verdicts
pub mod Settling
pub mod Refining
