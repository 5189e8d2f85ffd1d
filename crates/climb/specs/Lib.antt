pub mod Rows
pub mod Held
pub mod Entries
pub mod After
pub mod Claimed
pub mod Needed
