pub mod Window
pub mod Kept
pub mod AutoState
pub mod AutoRules
pub mod AutoLaws
pub mod Moves
pub mod Rises
