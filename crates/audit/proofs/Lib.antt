pub mod FirstPlaces
pub mod Naming
pub mod Endings
pub mod Counted
pub mod Accepting
pub mod Verdicts
pub mod Plainly
pub mod Handings
