pub mod Ended
pub mod Getting
pub mod Grown
pub mod InLog
pub mod LastWaiter
pub mod Late
pub mod Made
pub mod SoloAsked
