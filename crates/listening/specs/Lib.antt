pub mod Accepted
pub mod Seen
