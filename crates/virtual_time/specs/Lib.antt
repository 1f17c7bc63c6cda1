pub mod Order
pub mod Pending
pub mod Next
pub mod Course
pub mod Calendar
pub mod Laws
pub mod Simulation
