pub mod LoadStops
pub mod Stops
pub mod BehindFault
