pub mod Calls
pub mod Trace
