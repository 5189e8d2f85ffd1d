pub mod Held
pub mod Finding
pub mod Shown
pub mod Views
