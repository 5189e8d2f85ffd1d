pub mod Valid
pub mod Spends
pub mod Targets
