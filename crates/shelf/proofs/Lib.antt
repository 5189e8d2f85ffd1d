pub mod Finding
pub mod Standing
pub mod Struck
mod Closing
mod Carded
