pub mod Records
pub mod Judging
pub mod Filling
pub mod Unique
