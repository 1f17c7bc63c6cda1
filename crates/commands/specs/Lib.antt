pub mod CommandLine
pub mod Options
pub mod Rows
pub mod Rules
pub mod ServeOptions
pub mod Values
