pub mod Explained
pub mod Lacking
