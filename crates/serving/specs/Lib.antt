pub mod Faults
pub mod Reports
pub mod Served
pub mod Turns
pub mod Visit
pub mod Workers
