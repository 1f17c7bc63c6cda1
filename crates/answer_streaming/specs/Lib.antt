pub mod Openings
pub mod Passed
pub mod Permits
pub mod Progress
pub mod Taken
pub mod Texts
pub mod Waits
