pub mod Sessions
pub mod Named
pub mod Openings
pub mod Stretches
pub mod Wholes
pub mod Unasked
