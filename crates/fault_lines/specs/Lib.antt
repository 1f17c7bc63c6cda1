pub mod FaultLine
pub mod UnreadWords
