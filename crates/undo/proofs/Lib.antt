mod Loops
pub mod Table
pub mod Undoing
pub mod Blanking
