pub mod Loads
pub mod Scripts
