mod Mixing
mod Blocks
pub mod Arrays
pub mod Octets
