pub mod Kinds
pub mod WrappedLaws
pub mod KindsLaws
pub mod AnyKinds
pub mod AnyKindsLaws
