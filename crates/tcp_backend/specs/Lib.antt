pub mod Answers
pub mod CallTime
pub mod Connecting
pub mod Ends
pub mod Kept
pub mod Reading
pub mod Sent
