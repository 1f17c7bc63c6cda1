pub mod AimdRules
pub mod AimdLaws
pub mod Falls
pub mod Rises
