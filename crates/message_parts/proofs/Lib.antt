pub mod Fields
mod Ranges
pub mod SameName
