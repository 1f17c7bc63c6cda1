pub mod Astray
pub mod Outside
pub mod Named
pub mod Kept
pub mod Lacking
pub mod BehindFault
