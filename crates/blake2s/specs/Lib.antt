pub mod Blake2s
pub mod Examples
