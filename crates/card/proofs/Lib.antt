pub mod Striking
pub mod Cards
