mod Beginnings
mod Behind
mod Closings
mod Gathering
mod Getting
mod Opened
mod Promoted
mod Reporting
mod Rising
mod Running
mod Sequential
mod Stepping
pub mod Telling
