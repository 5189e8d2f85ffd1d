pub mod State
pub mod Taking
pub mod Spends
pub mod Runs
