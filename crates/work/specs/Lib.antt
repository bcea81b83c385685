pub mod Lists
pub mod Passes
pub mod Stages
