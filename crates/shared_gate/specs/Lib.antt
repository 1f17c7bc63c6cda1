pub mod Calls
pub mod Closing
pub mod Headline
pub mod Log
pub mod Reported
pub mod Running
pub mod Seen
