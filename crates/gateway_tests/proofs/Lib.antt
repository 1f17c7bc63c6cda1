mod Deciding
pub mod Comings
