pub mod Bodies
pub mod Memory
pub mod Rule
