pub mod Least
pub mod Same
pub mod Numbering
pub mod Telling
