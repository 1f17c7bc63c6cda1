pub mod Exchanges
pub mod Keeping
pub mod Made
pub mod Settling
pub mod Table
