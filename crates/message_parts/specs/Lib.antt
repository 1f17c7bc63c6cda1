pub mod Field
pub mod Header
pub mod Names
