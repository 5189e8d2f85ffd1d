pub mod Changing
pub mod Finding
pub mod Judging
pub mod Chain
pub mod Writing
pub mod Running
