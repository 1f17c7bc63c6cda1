pub mod Rules
pub mod Class
