pub mod Totals
pub mod Cuttings
pub mod Steps
pub mod InnerRuns
pub mod Learning
mod Rows
