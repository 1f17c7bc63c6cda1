pub mod Asking
pub mod Ending
pub mod Log
pub mod Report
pub mod Shown
