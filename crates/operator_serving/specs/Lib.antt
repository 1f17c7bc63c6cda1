pub mod Attended
pub mod Attending
pub mod Desk
pub mod Memory
pub mod Telling
pub mod OperatorResponse
pub mod Stands
pub mod Words
