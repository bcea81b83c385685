pub mod Few
pub mod Stored
pub mod Reading
pub mod Record
pub mod Part
pub mod Writing
