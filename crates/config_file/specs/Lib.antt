pub mod FileFault
pub mod Reading
