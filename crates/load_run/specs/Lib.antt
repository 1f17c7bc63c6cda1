pub mod Worker
pub mod Made
pub mod Workers
pub mod Gathered
pub mod Summary
pub mod Kinds
pub mod Load
pub mod Driver
