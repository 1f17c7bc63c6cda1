pub mod Desk
pub mod Listeners
pub mod Operator
pub mod State
