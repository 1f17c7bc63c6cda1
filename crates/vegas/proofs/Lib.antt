pub mod Least
pub mod AtBase
pub mod Rises
mod Rows
