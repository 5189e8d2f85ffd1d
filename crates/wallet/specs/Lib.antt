pub mod Cards
pub mod Runs
pub mod State
