pub mod Families
pub mod LimitView
pub mod Metrics
