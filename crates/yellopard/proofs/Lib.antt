pub mod Polarity
pub mod Stages
pub mod Calling
pub mod Results
pub mod Demands
