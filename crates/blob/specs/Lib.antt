pub mod Value
pub mod Calls
