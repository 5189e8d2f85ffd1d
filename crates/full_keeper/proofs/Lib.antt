pub mod Rows
pub mod Indices
pub mod Values
pub mod Paths
pub mod Moves
