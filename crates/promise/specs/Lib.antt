pub mod Agreement
pub mod Theorems
