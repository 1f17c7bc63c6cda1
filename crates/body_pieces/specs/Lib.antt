pub mod Beginnings
pub mod ChunkTexts
pub mod Laws
pub mod Rests
