pub mod Extremes
pub mod Lists
pub mod Walks
pub mod Tests
pub mod Filters
pub mod Bits
pub mod Digits
pub mod Writes
