mod Arrays
mod Halves
mod Down
mod Going
pub mod Slots
