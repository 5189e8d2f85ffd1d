pub mod Reader
pub mod Compose
