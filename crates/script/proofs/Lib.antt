pub mod Parts
pub mod PlacedRows
