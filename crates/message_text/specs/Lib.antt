pub mod Line
pub mod Fronts
pub mod Forwarded
pub mod Answer
pub mod Laws
