pub mod Fault
pub mod Forwards
pub mod Laws
pub mod Messages
pub mod Response
pub mod Reuse
pub mod Written
