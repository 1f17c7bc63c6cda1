pub mod Doors
pub mod Handled
pub mod Visits
