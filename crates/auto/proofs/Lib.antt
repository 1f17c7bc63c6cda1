pub mod Roots
pub mod Branches
pub mod Steps
pub mod Drops
pub mod Rises
pub mod Windows
