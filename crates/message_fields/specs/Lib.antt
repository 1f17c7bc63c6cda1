pub mod Lines
pub mod Parts
pub mod Lengths
pub mod Passed
pub mod Passing
pub mod Target
