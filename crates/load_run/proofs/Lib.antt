pub mod Calling
mod Gathering
pub mod Ordering
pub mod WrittenRun
pub mod Working
