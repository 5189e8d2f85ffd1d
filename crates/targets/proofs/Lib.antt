pub mod Inside
pub mod Valid
mod Checked
pub mod Placing
mod Refusals
