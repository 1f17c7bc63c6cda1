pub mod Kept
pub mod Fronts
pub mod Texts
pub mod Apart
mod Commonest
pub mod Unambiguous
