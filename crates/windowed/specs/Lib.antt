pub mod Totals
pub mod WindowedRules
pub mod WindowedLaws
pub mod Windows
pub mod Learning
