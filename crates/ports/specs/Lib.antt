pub mod Asked
pub mod Solo
pub mod AskReplies
