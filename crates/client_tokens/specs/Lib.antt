pub mod Roll
pub mod Tokens
