pub mod Decrease
pub mod Increase
mod Rows
