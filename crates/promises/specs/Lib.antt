pub mod Correspondence
pub mod Proper
pub mod Reading
pub mod Calls
