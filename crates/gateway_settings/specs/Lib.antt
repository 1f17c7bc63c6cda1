pub mod Address
pub mod Exchanges
pub mod Settings
pub mod Workers
