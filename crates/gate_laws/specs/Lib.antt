pub mod Balance
pub mod Decided
pub mod Exchanges
pub mod Recovery
