pub mod Refreshed
pub mod Spent
